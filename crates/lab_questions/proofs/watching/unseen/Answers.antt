use Rattle.std.proofs.Common.{◌≡◌, ◌<◌, ◌+◌, ◌∷◌, [], ◌++◌, Some, suc, append-nil, length, take, arith, ap, rules, subst, sym, ◌∙◌}
use Rattle.std.proofs.lemmas.Option.{slice_get-get_or}
use Rattle.lab_questions.specs.Private.Presences.{unseen}
use Rattle.lab_questions.proofs.OrderLemmas.{unseen_next, unseen_whole}
use Rattle.lab_questions.proofs.watching.unseen.Goals.{in-Some, in-None+in_ok-clone-in-None+in_ok-push-in-None}
use Rattle.lab_questions.proofs.watching.unseen.Goals as goal

pub loop-number-preserved : goal.loop-number-preserved
loop-number-preserved c =
    let bases = c.args.bases.now in
    let seen = c.args.seen.now in
    let n = c.loop-number.number in
    let olds = c.loop-number.unseen.items in
    let news = c.match-seen-number.unseen.items in
    let basis = c.index-bases-number.result in
    let schedule = c.index-seen-number.result in
    let adds : news ≡ olds ++ unseen (basis ∷ []) (schedule ∷ []) = elim c.match-seen-number.branch [
      | in-Some w ↦ subst (λ s. news ≡ olds ++ unseen (basis ∷ []) (s ∷ [])) (sym w.in-Some.is) (ap (λ v. v.items) w.unseen-is ∙ sym (append-nil olds))
      | in-None+in_ok-clone-in-None+in_ok-push-in-None w ↦ subst (λ s. news ≡ olds ++ unseen (basis ∷ []) (s ∷ [])) (sym w.in-None.is) (search rules)
    ] in
    let object_within : n < length bases = omega (arith, c.loop-number-test.true) in
    let seen_within : n < length seen = omega (arith, c.loop-number-test.true) in
    let next : suc n ≡ n + 1 = omega arith in
    adds ∙ ap (λ l. l ++ unseen (basis ∷ []) (schedule ∷ [])) c.loop-number.invariant
    ∙ sym (unseen_next bases seen n basis schedule (slice_get-get_or bases n basis object_within ∙ ap Some (sym c.index-bases-number.is))
    (slice_get-get_or seen n schedule seen_within ∙ ap Some (sym c.index-seen-number.is)))
    ∙ ap (λ m. unseen (take m bases) (take m seen)) next

pub returns : goal.returns
returns c = record { unseen = c.loop-number.invariant ∙ unseen_whole c.args.bases.now c.args.seen.now c.loop-number.number (omega (arith, c.loop-number-test.false)) }
