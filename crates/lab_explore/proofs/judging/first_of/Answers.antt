use Rattle.std.proofs.Common.{◌≡◌, true, false, rules, arith, sym, subst, take, ◌+◌, ◌∙◌}
use Rattle.lab_conditions.proofs.ListLemmas.{all_whole}
use Rattle.lab_explore.specs.Private.Judged.{IsFirst, FailsBefore}
use Rattle.lab_explore.proofs.FirstRows.{first_more}
use Rattle.lab_explore.proofs.judging.first_of.Goals.{then-holds, else-holds}
use Rattle.lab_explore.proofs.judging.first_of.Goals as goal

pub loop-at-init : goal.loop-at-init
loop-at-init c = record { last = search rules; first = record { within = omega arith; holds = λ less. absurd (omega (arith, less)); before = search rules } }

pub loop-at-preserved-then-at-first : goal.loop-at-preserved-then-at-first
loop-at-preserved-then-at-first c =
    let inv = c.loop-at.invariant in
    let behind = c.if-at-first.true in
    record {
      last = inv.last;
      first = first_more c.args.store.now c.args.condition.now c.args.end c.args.rows.now c.loop-at.at-index c.loop-at.first c.loop-at.first c.loop-at-test.true (omega arith) inv.first.holds
          (λ less. absurd (omega (arith, less, behind))) inv.first;
    }

pub loop-at-preserved : goal.loop-at-preserved
loop-at-preserved c =
    let t = c.args.store.now in
    let condition = c.args.condition.now in
    let end = c.args.end in
    let rows = c.args.rows.now in
    let n = c.loop-at.at-index in
    let first = c.loop-at.first in
    let inv = c.loop-at.invariant in
    let before = c.if-at-first.false in
    let told = c.in_ok-holds.ensures in
    record {
      last = told.last;
      first = elim c.if-holds.branch [
        | then-holds w ↦
            subst (IsFirst t condition end (take (n + 1) rows)) (sym w.first-is)
            (first_more t condition end rows n first _ c.loop-at-test.true (omega (arith, before)) (λ _ v here. (told.holds v here).0 w.if-holds.true) (λ less. absurd (omega (arith, less))) inv.first)
        | else-holds w ↦
            subst (IsFirst t condition end (take (n + 1) rows)) (sym w.first-is)
            (first_more t condition end rows n first first c.loop-at-test.true (omega arith) inv.first.holds
            (λ _ v here holds.
            let yes : c.in_ok-holds.holds ≡ true = (told.holds v here).1 holds in
            let clash : true ≡ false = sym yes ∙ w.if-holds.false in
            absurd (cc))
            inv.first)
      ];
    }

pub returns : goal.returns
returns c =
    let first = c.loop-at.invariant.first in
    record {
      first = record {
        within = first.within;
        holds = first.holds;
        before = all_whole (FailsBefore c.args.store.now c.args.condition.now c.loop-at.first) c.args.rows.now c.loop-at.at-index c.loop-at-test.false first.before;
      };
    }
