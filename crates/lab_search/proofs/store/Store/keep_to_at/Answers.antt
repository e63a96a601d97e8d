use Rattle.std.proofs.Common.{◌≡◌, ◌≤◌, Some, arith, below_more, inl, inr, length, slice_get, subst}
use Rattle.std.proofs.lemmas.Bool.{cases_lt}
use Rattle.std.proofs.lemmas.Option.{slice_get-get_or}
use Rattle.lab_worlds.specs.Independent.{KeepsTo}
use Rattle.lab_search.proofs.IndependentCalls.{row_states, past_keeps}
use Rattle.lab_search.proofs.store.Store.keep_to_at.Goals as goal

pub loop-pid-preserved : goal.loop-pid-preserved
loop-pid-preserved c =
    let states = c.in-Some.states.now in
    let state = slice_get-get_or states c.loop-pid.pid _ c.loop-pid-test.true in
    record {
      row = c.loop-pid.invariant.row;
      keep = λ w here. below_more (λ p. KeepsTo c.args.uses.now w p) c.loop-pid.pid (c.loop-pid.invariant.keep w here)
          (let is = row_states c.args.self.now w c.args.at c.loop-pid.pid c.in-Some.kernel _ states c.loop-pid.invariant.row state here in
          subst (KeepsTo c.args.uses.now w) c.in-Ok.ensures.value (c.is_within.ensures.yes c.if-not-is_within.false w is.0 (λ s there. is.1 s (subst (λ n. slice_get w.processes n ≡ Some s) c.in-Ok.ensures.value there))));
    }

pub returns : goal.returns
returns c = record {
  yes = λ is w p here.
      let states = c.in-Some.states.now in
      elim (cases_lt p c.loop-pid.pid) [
        | inl below ↦ c.loop-pid.invariant.keep w here p below
        | inr above ↦
            let past : length states ≤ p = let end = c.loop-pid-test.false in omega arith in
            past_keeps c.args.uses.now c.args.self.now w c.args.at p c.in-Some.kernel states c.loop-pid.invariant.row past here
      ];
}
