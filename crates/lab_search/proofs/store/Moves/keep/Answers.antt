use Rattle.std.proofs.Common.{All, subst, sym}
use Rattle.std.proofs.lemmas.List.Elements.{All-push}
use Rattle.lab_search.specs.declared.store.Move.{Move}
use Rattle.lab_search.specs.Stored.{IsMove}
use Rattle.lab_search.proofs.store.Moves.keep.Goals as goal

pub returns-clause-known : goal.returns-clause-known
returns-clause-known c = λ t known move.
    subst (All (λ (m : Move). IsMove t m.mover m.next)) (sym c.in_ok-push.ensures.items) (All-push (λ (m : Move). IsMove t m.mover m.next) c.args.self.now.made.items _ known move)
