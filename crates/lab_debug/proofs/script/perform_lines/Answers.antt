use Rattle.std.proofs.Common.{rules, arith, ◌≡◌, ◌++◌, ◌+◌, ◌-◌, []}
use Rattle.std.proofs.KnownBytes.{Appends-nil, Appends-trans}
use Rattle.lab_debug.specs.Effects.{line_effect}
use Rattle.lab_session.specs.Sessions.{state_of}
use Rattle.lab_debug.proofs.ScriptLemmas.{IsReached-start, IsReached-more, IsReached-many, IsReached-part, IsReached-ends, IsOver-fault}
use Rattle.lab_debug.specs.Script.{line_count_limit}
use Rattle.lab_debug.proofs.script.perform_lines.Goals as goal

pub loop-init : goal.loop-init
loop-init g c = ([], Appends-nil _, IsReached-start line_effect (state_of c.args.state.now) _ c.new-pending.result c.new-pending.ensures.empty)

pub loop-preserved : goal.loop-preserved
loop-preserved g c =
    let sent = c.loop.invariant.0 in
    let text = c.in_ok-reply.reply.text.items in
    let room = line_count_limit - c.loop.counter in
    let took = rw c.in-Some.is at c.in_ok-line.ensures.line in
    let short = rw c.in-Some.is at c.in_ok-line.ensures.limit in
    let is = rw c.as_slice.ensures.value at c.in_ok-reply.ensures.effect in
    let next : line_count_limit - (c.loop.counter + 1) ≡ room - 1 = omega arith in (
      sent ++ text,
      Appends-trans _ _ _ sent text c.loop.invariant.1 (rw c.as_slice-in-loop.ensures.value at c.in-Ok.ensures.bytes),
      rw next (IsReached-more line_effect (state_of c.args.state.now) _ _ _ sent room (state_of c.loop.state) c.in-Some.line.items _ is c.if-reply.false (omega (arith, c.loop-test.true)) short c.loop.invariant.2 took),
    )

pub returns-in_default-write_all-clause-prefix : goal.returns-in_default-write_all-clause-prefix
returns-in_default-write_all-clause-prefix g c =
    let sent = c.loop.invariant.0 in
    let room = line_count_limit - c.loop.counter in
    let took = rw c.in-Some.is at c.in_ok-line.ensures.line in
    let short = rw c.in-Some.is at c.in_ok-line.ensures.limit in
    let is = rw c.as_slice.ensures.value at c.in_ok-reply.ensures.effect in
    let part = rw c.as_slice-in-loop.ensures.value at c.in_default-write_all.ensures.prefix in
    IsReached-part line_effect (state_of c.args.state.now) _ _ _ _ _ _ sent room (state_of c.loop.state) c.in-Some.line.items _ is (omega (arith, c.loop-test.true)) short c.loop.invariant.2 took c.loop.invariant.1 part

pub returns-else-is_over-clause-fault : goal.returns-else-is_over-clause-fault
returns-else-is_over-clause-fault g c =
    let sent = c.loop.invariant.0 in
    let room = line_count_limit - c.loop.counter in
    IsOver-fault line_effect (state_of c.args.state.now) _ sent _
    (IsReached-many line_effect (state_of c.args.state.now) _ _ _ _ sent room (state_of c.loop.state) (omega (arith, c.loop-test.false)) c.loop.invariant.2 c.in-Ok-is_at_end.ensures.same (search rules))

pub returns-then-reply-clause-written : goal.returns-then-reply-clause-written
returns-then-reply-clause-written g c =
    let sent = c.loop.invariant.0 in
    let room = line_count_limit - c.loop.counter in
    let took = rw c.in-Some.is at c.in_ok-line.ensures.line in
    let short = rw c.in-Some.is at c.in_ok-line.ensures.limit in
    let is = rw c.as_slice.ensures.value at c.in_ok-reply.ensures.effect in
    IsReached-ends line_effect (state_of c.args.state.now) _ _ _ _ _ _ sent room (state_of c.loop.state) c.in-Some.line.items _ is c.if-reply.true (omega (arith, c.loop-test.true)) short c.loop.invariant.2 took
    c.loop.invariant.1 (rw c.as_slice-in-loop.ensures.value at c.in-Ok.ensures.bytes)
