use Rattle.std.proofs.Common.{ℕ, ◌≡◌, ◌<◌, [], List, Bor, IfSome, arith, get_or, length, map, subst, ◌∙◌}
use Rattle.std.proofs.lemmas.List.{get_or-map, length-map}
use Rattle.lab_questions.specs.CallWords.{kind_words}
use Rattle.lab_questions.proofs.CallLemmas.{read_more}
use Rattle.lab_questions.proofs.calling.kinds_in.Goals as goal

pub loop-piece-preserved : goal.loop-piece-preserved
loop-piece-preserved c =
    let seen : Bor (List (Bor (List ℕ))) → List (List ℕ) = λ piece. map (λ word. word.now) piece.now in
    let items = c.deref-piece-items.result.now in
    let i = c.loop-piece.piece-index in
    let none : Bor (List (Bor (List ℕ))) = record { ref_ptr = (0, 0); now = [] } in
    let within : i < length (map seen items) = omega (arith, c.loop-piece-test.true, length-map items seen) in
    read_more kind_words c.loop-piece.kinds.items c.push.new.self.items (map seen items) i c.in-Some.kind [] c.in_ok-push-in-Some.ensures.items c.loop-piece.invariant within
    (get_or-map seen items i none [] c.loop-piece-test.true
    ∙ subst (λ o. IfSome o (λ kind. map (λ word. word.now) (get_or items i none).now ≡ kind_words kind)) c.in-Some.is c.in_ok-kind.ensures.words)
