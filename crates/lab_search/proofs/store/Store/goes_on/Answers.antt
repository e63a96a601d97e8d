use Rattle.std.proofs.lemmas.Bool.{not-true}
use Rattle.lab_search.specs.declared.store.Mover.{Mover}
use Rattle.lab_search.specs.declared.store.Next.TheVariants.{Limit}
use Rattle.lab_search.proofs.Growths.{grows_same}
use Rattle.lab_search.proofs.StepsOfRows.{move_from, next_of}
use Rattle.lab_search.proofs.FootprintLemmas.{effect_goes_on, move_by_footprint, move_goes_on}
use Rattle.lab_search.proofs.store.Store.goes_on.Goals as goal

pub returns-in-Some-find : goal.returns-in-Some-find
returns-in-Some-find c = record {
  yes = λ known is.
      let t = c.args.self.now in
      let m : Mover = record { kernel = c.in_ok-kernel.kernel; pid = c.args.pid; state = c.in_ok-kernel.state } in
      let footprint = c.in-Some.footprint in
      let effect = c.in-Some-find.effect in
      next_of t c.args.at m Limit c.in_ok-kernel.ensures.places (λ k s at settled here.
      move_from t m Limit
      (move_by_footprint t t m Limit footprint effect k (grows_same t) at c.in-Some.ensures.state (c.in-Some.ensures.operand k at) (c.in-Some-find.ensures.known t known.footprints)
      (λ j u exact fixed made. effect_goes_on t j m.pid u footprint.place effect (c.is_nothing.ensures.no (not-true c.is_nothing.result is)) made)) k s at settled here);
}

pub returns : goal.returns
returns c = record {
  yes = λ known is.
      let t = c.args.self.now in
      let m : Mover = record { kernel = c.in_ok-kernel.kernel; pid = c.args.pid; state = c.in_ok-kernel.state } in
      next_of t c.args.at m Limit c.in_ok-kernel.ensures.places (move_goes_on t m c.in_ok-next.next (c.is_nothing-2.ensures.no (not-true c.is_nothing-2.result is)) (c.in_ok-next.ensures.next known));
}
