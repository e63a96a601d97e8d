use Rattle.std.proofs.Common.{ap, ◌∙◌, ◌≡◌, ◌++◌, ◌∷◌, [], arith, length}
use Rattle.std.proofs.Common.{length-append}
use Rattle.lab_states.specs.Edges.{edges_of}
use Rattle.lab_states.proofs.EdgeLists.{edge_pushed, between_wider}
use Rattle.lab_states.proofs.edges.Edges.push.Goals as goal

-- the rows to which edges lead, of which one is added
tos_pushed : (c : goal.After-push_reserved) → c.push_reserved.new.self.items ≡ c.self.inside.tos.items ++ c.args.edge.to ∷ []
tos_pushed c = c.push_reserved.ensures.items ∙ ap (λ ts. ts ++ c.args.edge.to ∷ []) c.reserve.ensures.items

pub invariant_of-self-2 : goal.invariant_of-self-2
invariant_of-self-2 c =
    let tos = simp length-append at (ap length (tos_pushed c)) in
    let pids = simp length-append at (ap length c.in_ok-push.ensures.items) in
    record {
      count = omega (arith, tos, pids, c.self.invariant.count);
      ordered = between_wider 0 c.self.inside.ends.items (length c.self.inside.tos.items) (length c.push_reserved.new.self.items) c.self.invariant.ordered (omega (arith, tos));
    }

pub returns-clause-pushed : goal.returns-clause-pushed
returns-clause-pushed c done =
    let ends = c.self.inside.ends in
    let tos = c.self.inside.tos.items in
    let pids = c.self.inside.pids.items in
    let e = c.args.edge in
    let last : e.from ≡ length ends.items = omega (arith, c.len.ensures, ends.ok.0) in
    ap (λ ts. edges_of ends.items 0 ts c.push.new.self.items) (tos_pushed c) ∙ ap (λ ps. edges_of ends.items 0 (tos ++ e.to ∷ []) ps) c.in_ok-push.ensures.items
    ∙ edge_pushed ends.items tos pids e c.self.invariant.count c.self.invariant.ordered last ∙ ap (λ es. es ++ e ∷ []) (c.self.view_is ∙ c.in_ok-leave.ensures.same)
