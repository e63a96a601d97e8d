use Rattle.std.proofs.Common.{◌≡◌, ◌∷◌, ◌++◌, [], false, ap, sym, ◌∙◌, arith, below_more, map, get_or, rules}
use Rattle.std.specs.Prelude.{is_none}
use Rattle.std.proofs.lemmas.List.{take_all, length-map, get_or-map}
use Rattle.std.proofs.lemmas.List.Elements.{All-nil, All-push}
use Rattle.lab_sched.specs.Schedules.{IsBlock}
use Rattle.lab_sched.specs.ScheduleTexts.{block_in, is_bad}
use Rattle.lab_sched.proofs.ScheduleSteps.{blocks-bad, blocks-good, blocks-more}
use Rattle.lab_sched.proofs.schedule.blocks_of_words.Goals as goal

pub loop-i-init : goal.loop-i-init
loop-i-init c = record { read = c.new-blocks.ensures.items; good = λ k below. absurd (omega arith); valid = rw c.new-blocks.ensures.items (All-nil IsBlock) }

pub returns-in_default-clause-exact : goal.returns-in_default-clause-exact
returns-in_default-clause-exact c =
    let ws = map (λ word. word.now) c.args.words.now in
    let i = c.loop-i.i in
    let at = get_or-map (λ word. word.now) c.args.words.now i (record { ref_ptr = (0, 0); now = [] }) [] c.loop-i-test.true in
    blocks-bad ws i (rw length-map c.loop-i-test.true) (ap is_none (ap block_in at ∙ sym c.in_default.ensures.value)) c.loop-i.invariant.good

pub loop-i-preserved : goal.loop-i-preserved
loop-i-preserved c =
    let ws = map (λ word. word.now) c.args.words.now in
    let i = c.loop-i.i in
    let b = c.in-Some.block in
    let at = get_or-map (λ word. word.now) c.args.words.now i (record { ref_ptr = (0, 0); now = [] }) [] c.loop-i-test.true in
    let is = ap block_in at ∙ sym c.in-Some.ensures.value in
    record {
      read = c.in_ok-push.ensures.items ∙ ap (λ bs. bs ++ b ∷ []) c.loop-i.invariant.read ∙ sym (blocks-more ws i b (rw length-map c.loop-i-test.true) is);
      good = below_more (λ k. is_bad (get_or ws k []) ≡ false) i c.loop-i.invariant.good (ap is_none is);
      valid = rw c.in_ok-push.ensures.items (All-push IsBlock c.loop-i.blocks.items b c.loop-i.invariant.valid c.in-Some.ensures.valid);
    }

pub returns-clause-exact : goal.returns-clause-exact
returns-clause-exact c = search (rules, length-map, blocks-good, take_all)
