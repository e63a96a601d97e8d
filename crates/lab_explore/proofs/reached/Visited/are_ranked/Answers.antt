use Rattle.std.proofs.Common.{◌≡◌, ◌∙◌, None, Some, ap, arith, below_more, subst}
use Rattle.lab_sched.specs.Worlds.{step_effect_in}
use Rattle.lab_worlds.specs.Unwaiting.{GoesOn}
use Rattle.lab_search.specs.declared.store.Next.TheVariants.{Limit}
use Rattle.lab_states.specs.Falling.{starved_of}
use Rattle.lab_search.proofs.StepsOfRows.{goes_on}
use Rattle.lab_explore.specs.Private.Ranked.{IsKept}
use Rattle.lab_explore.proofs.reached.Visited.are_ranked.Goals as goal

pub loop-at-preserved-in_default : goal.loop-at-preserved-in_default
loop-at-preserved-in_default c = below_more (IsKept c.args.self.now.store c.args.ranks.now c.args.starved_processes.now) _ c.loop-at.invariant (λ p starved w here.
    let none : None ≡ Some p = c.in_default.ensures.starved ∙ ap (starved_of c.args.starved_processes.now) c.rank_at.ensures.rank ∙ starved in
    absurd (cc))

pub loop-at-preserved : goal.loop-at-preserved
loop-at-preserved c = below_more (IsKept c.args.self.now.store c.args.ranks.now c.args.starved_processes.now) _ c.loop-at.invariant (λ p starved w here.
    let found : Some c.in-Some.pid ≡ Some p = c.in-Some.ensures.starved ∙ ap (starved_of c.args.starved_processes.now) c.rank_at.ensures.rank ∙ starved in
    let same : c.in-Some.pid ≡ p = cc in
    let next = c.in-Some-goes_on.ensures.yes c.requires.store.known c.if-not-goes.false in
    subst (λ q. GoesOn (step_effect_in w q)) same (goes_on c.args.self.now.store w c.loop-at.at c.in-Some.pid Limit here next (λ e. cc)))

pub returns : goal.returns
returns c = record { yes = λ is. record { falls = c.are_falling.ensures.yes c.if-not-are_falling.false; kept = λ i within. c.loop-at.invariant i (omega arith) } }
