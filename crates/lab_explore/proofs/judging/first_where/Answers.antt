use Rattle.std.proofs.Common.{arith, inl, inr}
use Rattle.std.proofs.lemmas.Bool.{cases_lt}
use Rattle.lab_sched.proofs.ListPlaces.{get_past}
use Rattle.lab_explore.proofs.FirstRows.{fails_among}
use Rattle.lab_explore.proofs.judging.first_where.Goals as goal

pub loop-start-preserved : goal.loop-start-preserved
loop-start-preserved g c i below = elim (cases_lt i c.loop-start.start) [
  | inl before ↦ c.loop-start.invariant i before
  | inr from ↦
      fails_among c.args.store.now c.args.condition.now c.min-end.result c.as_slice.result.now c.in_ok-rows.rows.items c.in_ok-first.first i c.as_slice.ensures.value c.in_ok-first.ensures.first (c.in_ok-rows.ensures.all i from below)
      (omega (arith, below, c.if-first-end.false))
]

pub returns-then-first-end-clause-first : goal.returns-then-first-end-clause-first
returns-then-first-end-clause-first g c i before = elim (cases_lt i c.loop-start.start) [
  | inl early ↦ c.loop-start.invariant i early
  | inr from ↦
      fails_among c.args.store.now c.args.condition.now c.min-end.result c.as_slice.result.now c.in_ok-rows.rows.items c.in_ok-first.first i c.as_slice.ensures.value c.in_ok-first.ensures.first
      (c.in_ok-rows.ensures.all i from (omega (arith, before, c.if-first-end.true))) before
]

pub returns-clause-none : goal.returns-clause-none
returns-clause-none g c none i w here =
    let below = get_past c.args.store.now.rows i here.0 here.1 in
    c.loop-start.invariant i (omega (arith, below, c.loop-start-test.false, c.len-count.ensures.count)) w here
