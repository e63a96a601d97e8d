use Rattle.std.proofs.Common.{[], ◌++◌, ◌∙◌, ap, get_or, take}
use Rattle.std.proofs.lemmas.Option.{slice_get_within, get_or_from_slice_get}
use Rattle.lc3_machine.specs.Process.{Process as Machine}
use Rattle.lab_states.proofs.CollapsedStateLemmas.{rest_of, whole_apart}
use Rattle.lab_states.proofs.states.collapsed_of.Goals as goal

pub returns-clause-whole : goal.returns-clause-whole
returns-clause-whole c =
    let os = c.args.outputs.now in
    let qs = c.keep.new.self in
    let before = c.args.collapsed.before in
    let out = c.output-output.result.now in
    let shared = c.in_ok-shared.shared in
    whole_apart os qs before shared.number shared.len c.args.collapsed.process c.set_output.new.self out c.in_ok-rest.rest.items
    (get_or_from_slice_get qs shared.number (get_or os before [] ++ take shared.len out) [] c.in_ok-shared.ensures.kept) (c.in_ok-rest.ensures.items ∙ rest_of out shared.len)
    (c.output-output.ensures.value ∙ ap (λ (m : Machine). m.output) c.machine.ensures.process) c.set_output.ensures.output

pub returns-clause-within : goal.returns-clause-within
returns-clause-within c =
    let out = c.output-output.result.now in
    let shared = c.in_ok-shared.shared in
    slice_get_within c.keep.new.self shared.number (get_or c.args.outputs.now c.args.collapsed.before [] ++ take shared.len out) c.in_ok-shared.ensures.kept
