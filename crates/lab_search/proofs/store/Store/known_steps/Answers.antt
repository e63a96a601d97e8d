use Rattle.std.proofs.lemmas.Option.{IfSome_then}
use Rattle.lab_search.specs.declared.store.Mover.{Mover}
use Rattle.lab_search.proofs.StepsOfRows.{errors_of}
use Rattle.lab_search.proofs.FootprintLemmas.{errors_by_footprint}
use Rattle.lab_search.proofs.store.Store.known_steps.Goals as goal

pub returns-in-Some-find : goal.returns-in-Some-find
returns-in-Some-find c = record {
  steps = λ known.
      let t = c.args.self.now in
      let m : Mover = record { kernel = c.in_ok-kernel.kernel; pid = c.args.pid; state = c.in_ok-kernel.state } in
      IfSome_then c.steps.result c.steps.ensures.steps (λ x answered.
      errors_of t c.args.at m x.taken x.errors c.in_ok-kernel.ensures.places
      (errors_by_footprint t m x.taken x.errors c.in-Some.footprint c.in-Some-find.effect c.in-Some.ensures.state c.in-Some.ensures.operand (c.in-Some-find.ensures.known t known.footprints) answered));
}

pub returns : goal.returns
returns c = record {
  steps = λ known.
      let t = c.args.self.now in
      let m : Mover = record { kernel = c.in_ok-kernel.kernel; pid = c.args.pid; state = c.in_ok-kernel.state } in
      IfSome_then c.steps-2.result c.steps-2.ensures.steps (λ x answered.
      errors_of t c.args.at m x.taken x.errors c.in_ok-kernel.ensures.places (λ k s at settled here. answered t k m.pid s (c.in_ok-next.ensures.next known k s at settled here)));
}
