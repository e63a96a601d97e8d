use Rattle.std.proofs.Common.{◌≡◌, ◌∙◌, ap, arith, length, refl, sym, unwrap_or}
use Rattle.std.proofs.lemmas.List.{length-map, same_lists}
use Rattle.std.proofs.lemmas.Option.{unwrap_or-slice_get}
use Rattle.lab_sched.specs.Worlds.{machine_of}
use Rattle.lab_questions.specs.Requirements.{outputs}
use Rattle.lab_questions.proofs.output.have_same_outputs.Goals as goal

pub returns : goal.returns
returns c =
    let w = c.args.world.now in
    let v = c.args.other.now in
    let many = length-map w.processes (λ s. (machine_of s).output) in
    let count : length (outputs w) ≡ length (outputs v) =
    omega (arith, many, length-map v.processes (λ s. (machine_of s).output), c.count.ensures.count, c.count-2.ensures.count, c.if-count.false) in
    record {
      same = (
        λ yes. same_lists (outputs w) (outputs v) count
            (λ i d within. sym (unwrap_or-slice_get (outputs w) i d)
            ∙ ap (λ o. unwrap_or o d) (c.loop-pid.invariant i (omega (arith, within, many, c.count-pid-end.ensures.count, c.loop-pid-test.false)))
            ∙ unwrap_or-slice_get (outputs v) i d),
        λ same. refl,
      );
    }
