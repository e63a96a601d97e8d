use Rattle.std.proofs.Common.{◌≡◌, ◌∙◌, ◌+◌, [], ◌∷◌, ◌++◌, length, take, map, string_bytes, subst, sym, ap, arith}
use Rattle.std.proofs.lemmas.List.{length-take-le, take_more}
use Rattle.lab_questions.specs.EndTexts.{told_ends, ends_text, AreTold}
use Rattle.lab_questions.specs.Private.Told.{IsTold}
use Rattle.lab_questions.proofs.texts.told_of.Goals as goal

pub loop-at-init : goal.loop-at-init
unfolding told_ends ends_text
loop-at-init c = record { text = c.new.ensures.bytes; texts = ap (map string_bytes) c.new-2.ensures.items; numbers = λ p. subst (λ ns. AreTold c.args.show [] ns) (sym c.new-3.ensures.items) (λ q. tt) p }

pub loop-at-preserved : goal.loop-at-preserved
loop-at-preserved c =
    let ends = c.args.ends.now in
    let i = c.loop-at.at in
    let e = c.index-ends-at.result in
    let within = c.loop-at-test.true in
    let count : length (take i ends) ≡ i = length-take-le i ends (omega (arith, within)) in
    let more : take (i + 1) ends ≡ take i ends ++ e ∷ [] = take_more ends i e within ∙ ap (λ x. take i ends ++ x ∷ []) (sym c.index-ends-at.is) in
    subst (IsTold c.args.show c.add.new.self) (sym more) (c.in_ok-add.ensures.told (take i ends) count c.loop-at.invariant)
