use Rattle.std.proofs.Common.{◌≡◌, ◌∙◌, ap, sym, length, arith, Some, None}
use Rattle.std.specs.Prelude.{◌≢◌}
use Rattle.std.proofs.lemmas.Bool.Decides.{nat_tests}
use Rattle.lab_frames.specs.Headers.{field_of}
use Rattle.lab_frames.specs.Frames.{without_return, known_after}
use Rattle.lab_frames.proofs.HeaderLemmas.{Came-more, Came-line, Came-refused, Came-found, Came-unknown, Came-cut, Came-over, Came-full}
use Rattle.lab_frames.proofs.header.take_header.Goals as goal
use Rattle.lab_frames.proofs.header.take_header.Goals.{then-taken-eq0, else-taken-eq0, in-Some-known, in-None}

pub returns-in_default-next-clause-header : goal.returns-in_default-next-clause-header
returns-in_default-next-clause-header g c =
    let took = rw c.in_default-next.is at c.in-Ok.ensures.byte in
    elim c.if-taken-eq0.branch [
      | then-taken-eq0 w ↦ rw w.result-is (Came-over _ _ _ _ _ _ w.if-taken-eq0.true c.loop-taken.invariant took.0 took.1)
      | else-taken-eq0 w ↦ rw w.result-is tt
    ]

pub returns-in_default-next-clause-err : goal.returns-in_default-next-clause-err
returns-in_default-next-clause-err g c =
    let took = rw c.in_default-next.is at c.in-Ok.ensures.byte in
    elim c.if-taken-eq0.branch [
      | then-taken-eq0 w ↦ rw w.result-is tt
      | else-taken-eq0 w ↦ rw w.result-is (Came-cut _ _ _ _ _ c.loop-taken-test.true w.if-taken-eq0.false c.loop-taken.invariant took.0)
    ]

pub loop-taken-preserved-then-byte-ne10 : goal.loop-taken-preserved-then-byte-ne10
loop-taken-preserved-then-byte-ne10 g c =
    let took = rw c.in-Some.is at c.in-Ok.ensures.byte in
    rw c.in_ok-push.ensures.items (Came-more _ _ _ _ _ _ _ c.loop-taken-test.true c.if-byte-ne10.true c.loop-taken.invariant took)

pub returns-then-is_empty-clause-header : goal.returns-then-is_empty-clause-header
returns-then-is_empty-clause-header g c =
    let took = rw (c.in-Some.is, c.if-byte-ne10.false) at c.in-Ok.ensures.byte in
    let empty : length (without_return c.loop-taken.line.items) ≡ 0 = grind (arith, nat_tests, c.is_empty.ensures, c.if-is_empty.true, c.without_return-text.ensures.value, c.deref.ensures.value) in
    elim c.match-known.branch [
      | in-Some-known w ↦ rw w.result-is (Came-found _ _ _ _ _ _ c.loop-taken-test.true empty (rw w.in-Some-known.is at c.loop-taken.invariant) took)
      | in-None w ↦ rw w.result-is tt
    ]

pub returns-then-is_empty-clause-err : goal.returns-then-is_empty-clause-err
returns-then-is_empty-clause-err g c =
    let took = rw (c.in-Some.is, c.if-byte-ne10.false) at c.in-Ok.ensures.byte in
    let empty : length (without_return c.loop-taken.line.items) ≡ 0 = grind (arith, nat_tests, c.is_empty.ensures, c.if-is_empty.true, c.without_return-text.ensures.value, c.deref.ensures.value) in
    elim c.match-known.branch [
      | in-Some-known w ↦ rw w.result-is tt
      | in-None w ↦ rw w.result-is (Came-unknown _ _ _ _ _ c.loop-taken-test.true empty (rw w.in-None.is at c.loop-taken.invariant) took)
    ]

pub returns-clause-err : goal.returns-clause-err
returns-clause-err g c = Came-full _ _ _ _ _ c.loop-taken-test.false c.loop-taken.invariant

pub returns-in-None-known_after-clause-err : goal.returns-in-None-known_after-clause-err
returns-in-None-known_after-clause-err g c =
    let took = rw (c.in-Some.is, c.if-byte-ne10.false) at c.in-Ok.ensures.byte in
    let text : c.without_return-text.result.now ≡ without_return c.loop-taken.line.items = c.without_return-text.ensures.value ∙ ap without_return c.deref.ensures.value in
    let some : length (without_return c.loop-taken.line.items) ≢ 0 = grind (arith, nat_tests, c.is_empty.ensures, c.if-is_empty.false, text) in
    let none : known_after c.loop-taken.known (field_of (without_return c.loop-taken.line.items)) ≡ None =
    sym (c.in-None-known_after.ensures.value ∙ ap (known_after c.loop-taken.known) (c.field_of.ensures.value ∙ ap field_of text)) in
    Came-refused _ _ _ _ _ _ c.loop-taken-test.true some none c.loop-taken.invariant took

pub loop-taken-preserved : goal.loop-taken-preserved
loop-taken-preserved g c =
    let took = rw (c.in-Some.is, c.if-byte-ne10.false) at c.in-Ok.ensures.byte in
    let text : c.without_return-text.result.now ≡ without_return c.loop-taken.line.items = c.without_return-text.ensures.value ∙ ap without_return c.deref.ensures.value in
    let some : length (without_return c.loop-taken.line.items) ≢ 0 = grind (arith, nat_tests, c.is_empty.ensures, c.if-is_empty.false, text) in
    let new : known_after c.loop-taken.known (field_of (without_return c.loop-taken.line.items)) ≡ Some c.in-Some-known_after.length =
    sym (c.in-Some-known_after.ensures.value ∙ ap (known_after c.loop-taken.known) (c.field_of.ensures.value ∙ ap field_of text)) in
    rw c.clear.ensures.items (Came-line _ _ _ _ _ _ c.in-Some-known_after.length c.loop-taken-test.true some new c.loop-taken.invariant took)
