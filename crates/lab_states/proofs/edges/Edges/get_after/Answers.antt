use Rattle.std.proofs.Common.{ap, sym, ◌∙◌, ◌≡◌, ◌+◌, arith, slice_get, Some}
use Rattle.lab_states.specs.Edges.{from_of}
use Rattle.lab_worlds.proofs.Pushes.{got}
use Rattle.lab_states.proofs.EdgeLists.{edge_read}
use Rattle.lab_states.proofs.edges.Edges.get_after.Goals as goal

pub returns : goal.returns
returns c =
    let ends = c.self.inside.ends.items in
    let tos = c.self.inside.tos.items in
    let pids = c.self.inside.pids.items in
    let at = c.args.at in
    let t = c.in_ok-to.to.now in
    let p = c.in_ok-pid.pid.now in
    let to : slice_get tos at ≡ Some t = got c.deref.result.now tos at t c.deref.ensures.value c.in_ok-to.ensures.lookup.3.0 c.in_ok-to.ensures.lookup.1 in
    let by : slice_get pids at ≡ Some p = got c.deref-2.result.now pids at p c.deref-2.ensures.value c.in_ok-pid.ensures.lookup.3.0 c.in_ok-pid.ensures.lookup.1 in
    let here : 0 + at ≡ at = omega arith in
    let from = ap (from_of ends) here ∙ sym (c.in-Ok.ensures.value ∙ c.row_of.ensures.row ∙ ap (λ es. from_of es at) c.as_slice.ensures.value) in
    record { edge = rw (← c.self.view_is) (edge_read ends 0 tos pids at t p to by ∙ ap (λ n. Some (record { from = n; to = t; pid = p })) from) }
