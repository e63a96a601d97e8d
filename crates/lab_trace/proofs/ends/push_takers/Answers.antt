use Rattle.std.proofs.Common.{◌≡◌, ℕ, List, [], ◌++◌, length, ap, ◌∙◌, append_assoc, arith, rules}
use Rattle.lab_texts.specs.Rows.{texts_below}
use Rattle.lab_trace.specs.Ends.{taker_text, takers_text}
use Rattle.lab_texts.proofs.RowLemmas.{texts_below_more}
use Rattle.lab_trace.proofs.ends.push_takers.Goals as goal

pub loop-pid-preserved : goal.loop-pid-preserved
loop-pid-preserved c =
    let text : ℕ → List ℕ = taker_text c.args.world.now c.args.tally.now.units c.args.place in
    let wrote = rw (c.balance-count.ensures.value, c.process.ensures.process) at c.in_ok-push_taker-in_default.ensures.text in
    wrote ∙ ap (λ bytes. bytes ++ text c.loop-pid.pid) c.loop-pid.invariant ∙ texts_below_more [] text c.loop-pid.pid

pub returns-after-loop-pid : goal.returns-after-loop-pid
unfolding takers_text
returns-after-loop-pid c =
    let text : ℕ → List ℕ = taker_text c.args.world.now c.args.tally.now.units c.args.place in
    let all : c.loop-pid.pid ≡ length c.args.world.now.processes = omega (arith, c.count-pid-end.ensures.count) in
    let found = c.deref.ensures ∙ c.loop-pid.invariant ∙ ap (λ n. texts_below n text) all in
    let wrote = rw found at c.push_or_nobody.ensures.text in
    record { text = search (rules, append_assoc) }
