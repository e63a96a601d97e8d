use Rattle.lab_search.proofs.StepsOfRows.{move_from}
use Rattle.lab_search.proofs.FootprintLemmas.{move_of_ended}
use Rattle.lab_search.proofs.store.Store.made_next.Goals as goal

pub returns : goal.returns
returns c = record { next = λ known. move_from c.args.self.now c.args.mover c.in_ok-next.next (c.in_ok-next.ensures.known c.args.self.now known.moves) }

pub returns-then-has_ended : goal.returns-then-has_ended
returns-then-has_ended c = record { next = λ known. move_of_ended c.args.self.now c.args.mover (c.has_ended.ensures.ended c.if-has_ended.true) }
