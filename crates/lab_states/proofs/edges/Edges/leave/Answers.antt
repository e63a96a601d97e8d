use Rattle.std.proofs.Common.{ℕ, ◌≡◌, ◌-◌, ◌++◌, ◌∙◌, ◌≤◌, replicate, length, sym, ap, subst, arith, vec_len}
use Rattle.std.proofs.lemmas.List.{take_all}
use Rattle.lab_states.specs.Edges.{edges_of}
use Rattle.lab_states.specs.Private.Edges.{AreBetween}
use Rattle.lab_states.proofs.EdgeLists.{edges_ended, between_more}
use Rattle.lab_states.proofs.edges.Edges.leave.Goals as goal

-- ends are added, each of which is the number of the edges
grown : (c : goal.In_ok-resize) → (n : ℕ) × (c.resize.new.self.items ≡ c.self.inside.ends.items ++ replicate n (length c.self.inside.tos.items))
grown c =
    let ends = c.self.inside.ends in
    let row = c.args.row in
    let end : c.in_ok-end.end ≡ length c.self.inside.tos.items = c.in_ok-end.ensures.value ∙ c.len-then-row-len.ensures ∙ c.self.inside.tos.ok.0 in
    let collapsed : length ends.items ≤ row = omega (arith, c.len.ensures, ends.ok.0) in (
      row - length ends.items,
      c.in_ok-resize.ensures.items ∙ ap (λ es. es ++ replicate (row - vec_len ends) c.in_ok-end.end) (take_all row ends.items collapsed)
          ∙ ap (λ n. ends.items ++ replicate (row - n) c.in_ok-end.end) ends.ok.0 ∙ ap (λ n. ends.items ++ replicate (row - length ends.items) n) end,
    )

pub invariant_of-self : goal.invariant_of-self
invariant_of-self c =
    let more = grown c in
    let count = length c.self.inside.tos.items in
    record {
      count = c.self.invariant.count;
      ordered = subst (λ es. AreBetween 0 es count) (sym more.1) (between_more 0 c.self.inside.ends.items count more.0 c.self.invariant.ordered);
    }

pub returns-in_ok-resize : goal.returns-in_ok-resize
returns-in_ok-resize c =
    let more = grown c in
    let tos = c.self.inside.tos.items in
    let pids = c.self.inside.pids.items in
    record { same = ap (λ es. edges_of es 0 tos pids) more.1 ∙ edges_ended c.self.inside.ends.items more.0 tos pids ∙ c.self.view_is }
