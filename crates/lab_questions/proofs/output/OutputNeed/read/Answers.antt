use Rattle.std.proofs.Common.{◌≡◌, ◌<◌, false, Some, IfSome, arith, length, subst, sym}
use Rattle.std.specs.Prelude.{option_map}
use Rattle.lab_questions.specs.Written.{front_in, need_in, part_read, parts_read, need_read}
use Rattle.lab_questions.proofs.ReadingLemmas.{need_step}
use Rattle.lab_questions.proofs.output.OutputNeed.read.Goals as goal

pub loop-rest-preserved : goal.loop-rest-preserved
loop-rest-preserved c =
    let next = c.in-Some-2.next in
    let rest = c.loop-rest.rest.now in
    let before = c.loop-rest.invariant in
    let is : front_in false rest ≡ Some (next.begins, part_read next.part, next.rest.now) =
    subst (λ o. front_in false rest ≡ option_map (λ f. (f.begins, part_read f.part, f.rest.now)) o) c.in-Some-2.is (sym c.in_ok-next.ensures.front) in
    let shorter = subst (λ o. IfSome o (λ f. length f.rest.now < length rest)) c.in-Some-2.is c.in_ok-next.ensures.shorter in
    need_step (need_in c.args.text.now) (need_read c.loop-rest.alternatives.items) (need_read c.add.new.alternatives.items)
    (parts_read c.loop-rest.parts.items) (parts_read c.add.new.parts.items) next.begins (part_read next.part) before.0 rest next.rest.now
    before.1 (omega (arith, shorter)) shorter is c.in_ok-add.ensures.alternatives c.in_ok-add.ensures.parts before.2
