use Rattle.std.proofs.Common.{◌≡◌, [], Some, OnOk, IfOk, length, slice_get, refl, subst, sym, ap, ◌∙◌, arith}
use Rattle.std.specs.Option.{option_map}
use Rattle.lab_sched.specs.Held.{process_view}
use Rattle.lab_states.specs.CollapsedStates.{IsSameOrMore, Sharing}
use Rattle.lab_states.proofs.CollapsedStateLemmas.{start_empty, whole_alone}
use Rattle.lab_states.proofs.states.States.keep.Goals as goal

pub keep_behind-requires : goal.keep_behind-requires
keep_behind-requires c =
    let outputs = ap (λ (v : Sharing). length v.outputs) c.self.view_is in
    let some = ap length c.self.invariant.empty.1 in
    record { within = omega (arith, outputs, some) }

pub returns : goal.returns
returns c =
    let empty : slice_get c.args.self.now.outputs 0 ≡ Some [] = ap (λ (v : Sharing). slice_get v.outputs 0) (sym c.self.view_is) ∙ start_empty c.self.inside.outputs c.self.invariant.empty in
    let alone = whole_alone c.args.self.now.outputs c.args.process (record { before = 0; process = c.args.process }) empty refl refl in
    record {
      kept = subst (λ k. OnOk c.keep_behind.result (IsSameOrMore c.args.self.now.processes c.keep_behind.new.self.processes k)) alone c.keep_behind.ensures.kept;
      state =
          subst (λ k. IfOk c.keep_behind.result (λ i. option_map process_view (slice_get c.keep_behind.new.self.processes i) ≡ Some (process_view k))) alone
          c.keep_behind.ensures.state;
    }
