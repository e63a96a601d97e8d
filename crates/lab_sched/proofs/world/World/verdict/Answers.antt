use Rattle.lab_sched.specs.declared.verdict.Verdict.TheVariants as verdict
use Rattle.lab_sched.proofs.VerdictLemmas.{is_open, stuck_from, verdict_from}
use Rattle.lab_sched.proofs.world.World.verdict.Goals as goal
use Rattle.std.proofs.Common.{rules}

pub returns-then-can_move : goal.returns-then-can_move
returns-then-can_move c =
    let moves = c.can_move.ensures.yes c.if-can_move.true in
    let is = is_open c.args.self.now moves.0 moves.1 in
    record { verdict = is; worked_out = verdict_from c.args.self.now verdict.Open is }

pub returns-then-have_ended : goal.returns-then-have_ended
returns-then-have_ended c = search (rules, verdict_from, c.have_ended.ensures.yes, c.if-have_ended.true)

pub returns : goal.returns
returns c =
    let lives = c.have_ended.ensures.no c.if-have_ended.false in
    let is = stuck_from c.args.self.now (c.can_move.ensures.no c.if-can_move.false) lives.0 lives.1 lives.2 in
    record { verdict = is; worked_out = verdict_from c.args.self.now verdict.Stuck is }
