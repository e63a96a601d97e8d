use Rattle.std.proofs.Common.{ℕ, ◌≡◌, ◌<◌, [], List, Bor, arith, length, map}
use Rattle.std.proofs.lemmas.List.{get_or-map, length-map}
use Rattle.lab_questions.specs.CallWords.{comma_apart}
use Rattle.lab_questions.proofs.CallLemmas.{given_more}
use Rattle.lab_questions.proofs.calling.words_in.Goals as goal

pub loop-word-preserved : goal.loop-word-preserved
loop-word-preserved c =
    let items = c.deref-word-items.result.now in
    let i = c.loop-word.word-index in
    let none : Bor (List ℕ) = record { ref_ptr = (0, 0); now = [] } in
    let within : i < length (map (λ w. w.now) items) = omega (arith, c.loop-word-test.true, length-map items (λ w. w.now)) in
    given_more comma_apart _ _ (map (λ w. w.now) items) i _ [] c.in_ok-push_apart.ensures.added c.loop-word.invariant within
    (get_or-map (λ w. w.now) items i none [] c.loop-word-test.true)
