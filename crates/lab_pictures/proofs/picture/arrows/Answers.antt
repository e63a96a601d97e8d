use Rattle.std.proofs.Common.{◌+◌, arith, subst, sym, take, ◌++◌, ◌∷◌, []}
use Rattle.std.proofs.lemmas.List.{take_all}
use Rattle.lab_worlds.specs.Calls.{Alongside}
use Rattle.lab_worlds.proofs.Pushes.{alongside_push}
use Rattle.lab_pictures.proofs.WorldCopies.{taken_more}
use Rattle.lab_pictures.specs.Private.Drawn.{IsArrowOf}
use Rattle.lab_pictures.proofs.picture.arrows.Goals as goal

pub loop-at-preserved : goal.loop-at-preserved
loop-at-preserved c =
    let t = c.args.visited.now.store in
    let e = c.in-Some.edge in
    let a = c.in_ok-arrow.arrow in
    subst (λ ys. Alongside (IsArrowOf t) (take (c.loop-at.at + 1) t.edges) ys) (sym c.in_ok-push.ensures.items)
    (subst (λ xs. Alongside (IsArrowOf t) xs (c.loop-at.arrows.items ++ a ∷ [])) (sym (taken_more t.edges c.loop-at.at e c.in-Some.ensures.edge))
    (alongside_push (IsArrowOf t) (take c.loop-at.at t.edges) c.loop-at.arrows.items e a c.loop-at.invariant c.in_ok-arrow.ensures.arrow))

pub returns : goal.returns
returns c =
    let t = c.args.visited.now.store in
    record { arrows = subst (λ xs. Alongside (IsArrowOf t) xs c.loop-at.arrows.items) (take_all c.loop-at.at t.edges (omega (arith, c.len-at-end.ensures.count))) c.loop-at.invariant }
