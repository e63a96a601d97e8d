use Rattle.std.proofs.Common.{◌≡◌, ◌+◌, ◌∙◌, Bool, ap, arith, false, length, map, option_copied, rules, string_bytes, subst, sym, tests, true, unwrap_or}
use Rattle.ipc_kernel.specs.Places.{place_at}
use Rattle.std.proofs.lemmas.Grind.{common_steps}
use Rattle.std.proofs.lemmas.Iterator.{YieldsList-from_slice}
use Rattle.std.proofs.lemmas.Iterator.Search.{position_from_yields_List}
use Rattle.lab_questions.specs.Left.{is_text, left_lines}
use Rattle.lab_questions.specs.Orders.{comes_before}
use Rattle.lab_questions.specs.declared.left.Left.{Left}
use Rattle.lab_questions.specs.Private.Lefts.{place_for, AreLeft}
use Rattle.lab_questions.proofs.LeftOrder.{found-for, lefts-none, lefts-more, lefts-same, no-lines, queue-is, text_is}
use Rattle.lab_questions.proofs.ListLemmas.{none_unless}
use Rattle.lab_questions.proofs.left.lefts_of.Goals as goal

pub loop-place-init : goal.loop-place-init
loop-place-init c = subst (AreLeft c.args.kernel.now 0) (sym c.new-lefts.ensures.items) (lefts-none c.args.kernel.now)

pub loop-place-preserved-in_default : goal.loop-place-preserved-in_default
loop-place-preserved-in_default c =
    let k = c.args.kernel.now in
    let none = sym (rw (none_unless c.queue_at.result c.in_default.not-Some) at c.queue_at.ensures.held) in
    lefts-same k c.loop-place.place c.loop-place.lefts.items (no-lines (place_at k.places c.loop-place.place) none) c.loop-place.invariant

pub loop-place-preserved-then-is_empty : goal.loop-place-preserved-then-is_empty
loop-place-preserved-then-is_empty c =
    let k = c.args.kernel.now in
    let p = place_at k.places c.loop-place.place in
    let is = queue-is p (option_copied c.in-Some.name) c.in-Some.queue.now (sym (rw c.in-Some.is at c.queue_at.ensures.held)) in
    let none : is_text (left_lines p) ≡ false = sym (ap is_text (c.in_ok-lines.ensures.lines ∙ ap left_lines is)) ∙ grind (arith, text_is, common_steps) in
    lefts-same k c.loop-place.place c.loop-place.lefts.items none c.loop-place.invariant

pub loop-place-preserved : goal.loop-place-preserved
loop-place-preserved c =
    let k = c.args.kernel.now in
    let place = c.loop-place.place in
    let olds = c.loop-place.lefts.items in
    let lines = c.in_ok-lines.lines in
    let p = place_at k.places place in
    let is = queue-is p (option_copied c.in-Some.name) c.in-Some.queue.now (sym (rw c.in-Some.is at c.queue_at.ensures.held)) in
    let told = c.in_ok-lines.ensures.lines ∙ ap left_lines is in
    let some : is_text (left_lines p) ≡ true = sym (ap is_text told) ∙ grind (arith, text_is, common_steps) in
    let test : Left → Bool = λ l. comes_before (string_bytes lines) (string_bytes l.lines) in
    let at : c.unwrap_or-at.result ≡ place_for (string_bytes lines) (map (λ l. string_bytes l.lines) olds) =
    c.unwrap_or-at.ensures ∙ ap (λ n. unwrap_or c.position.result n) (omega (arith, c.len.ensures))
    ∙ ap (λ o. unwrap_or o (length olds)) (position_from_yields_List test _ _ c.position.result c.position.ensures.ran (YieldsList-from_slice olds cc) (λ x b q k. search (rules, tests)))
    ∙ found-for (string_bytes lines) olds in
    subst (AreLeft k (place + 1)) (sym c.in_ok-insert.ensures.items)
    (lefts-more k place olds c.unwrap_or-at.result (record { lines = lines; name = c.in-Some.name; queue = c.in-Some.queue }) told is some at c.loop-place.invariant)
