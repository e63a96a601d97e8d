use Rattle.std.proofs.Common.{Some, map, slice_get, subst, ◌≡◌}
use Rattle.std.specs.Option.{option_map}
use Rattle.lab_sched.specs.Held.{process_view}
use Rattle.lab_states.specs.CollapsedStates.{whole_of, IsSameOrMore, Sharing}
use Rattle.lab_states.proofs.CollapsedStateLemmas.{all_extended, within_kept, wholes_kept, state_at}
use Rattle.lab_states.proofs.states.States.keep_behind.Goals as goal

pub invariant_of-self-2 : goal.invariant_of-self-2
invariant_of-self-2 c =
    let collapsed_states = c.self.inside.collapsed_states in
    let qs = c.collapsed_of.new.outputs in
    within_kept qs collapsed_states c.keep.new.self c.in_ok-collapsed.collapsed (all_extended c.self.inside.outputs qs collapsed_states c.collapsed_of.ensures.extends c.self.invariant) c.in_ok-collapsed.ensures.within c.keep.ensures.kept

pub invariant_of-self-in_err-number : goal.invariant_of-self-in_err-number
invariant_of-self-in_err-number c =
    let collapsed_states = c.self.inside.collapsed_states in
    let qs = c.collapsed_of.new.outputs in
    within_kept qs collapsed_states c.keep.new.self c.in_ok-collapsed.collapsed (all_extended c.self.inside.outputs qs collapsed_states c.collapsed_of.ensures.extends c.self.invariant) c.in_ok-collapsed.ensures.within c.keep.ensures.kept

pub returns-clause-kept : goal.returns-clause-kept
returns-clause-kept c =
    let collapsed_states = c.self.inside.collapsed_states in
    let os = c.self.inside.outputs in
    let qs = c.collapsed_of.new.outputs in
    subst (λ (v : Sharing). IsSameOrMore v.processes (map (whole_of qs) c.keep.new.self) (whole_of v.outputs c.args.collapsed)) c.self.view_is
    (wholes_kept os qs collapsed_states c.keep.new.self c.in_ok-collapsed.collapsed (whole_of os c.args.collapsed) c.collapsed_of.ensures.extends c.self.invariant c.in_ok-collapsed.ensures.whole c.keep.ensures.kept)

pub returns-clause-state : goal.returns-clause-state
returns-clause-state c =
    let there = c.in_ok-number.ensures.state in
    let os = c.self.inside.outputs in
    let qs = c.collapsed_of.new.outputs in
    subst (λ (v : Sharing). option_map process_view (slice_get (map (whole_of qs) c.keep.new.self) c.in_ok-number.number) ≡ Some (process_view (whole_of v.outputs c.args.collapsed))) c.self.view_is
    (state_at qs c.keep.new.self c.in_ok-number.number there.0 c.in_ok-collapsed.collapsed (whole_of os c.args.collapsed) there.1 there.2 c.in_ok-collapsed.ensures.whole)
