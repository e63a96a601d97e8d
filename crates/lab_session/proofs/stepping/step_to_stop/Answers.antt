use Rattle.std.proofs.Common.{rules, ◌||◌, sym, ap, ◌∙◌, ◌-◌, ◌+◌, ◌≡◌, replicate, arith}
use Rattle.lab_sched.specs.Held.{told_in}
use Rattle.lab_sched.specs.declared.stepped.Stepped.TheVariants.{Same}
use Rattle.std.specs.List.{list_any}
use Rattle.lab_session.specs.Marks.{is_at_break}
use Rattle.lab_session.specs.Watches.{has_changed, watched_words}
use Rattle.lab_session.proofs.WatchLemmas.{stop-told, words-on}
use Rattle.lab_session.proofs.StepLemmas.{step-same}
use Rattle.lab_session.proofs.StopLemmas.{went, behind, left-start, left-rests, left-met, left-more, left-done}
use Rattle.lab_session.proofs.stepping.step_to_stop.Goals as goal

pub loop-i-init : goal.loop-i-init
loop-i-init c =
    let words : watched_words c.args.marks.now c.args.world.now ≡ c.in_ok-watched.watched.items = search rules in
    record { went = left-start c.args.marks.now c.args.pid c.args.world.now c.args.count; words = words }

-- a step did nothing
pub returns-in-Same : goal.returns-in-Same
returns-in-Same c =
    let same = sym c.in-Ok.ensures.told ∙ c.in-Same.is in
    let all = left-rests c.args.marks.now c.args.pid c.loop-i.world c.loop-i.i (c.args.count - c.loop-i.i) _ same c.loop-i.invariant.went in
    record {
      steps = ap (λ t. t.0) all;
      stop = ap (λ t. t.1) all;
      world = c.in-Ok.ensures.world ∙ step-same c.args.pid c.loop-i.world same ∙ ap (λ t. t.2) all;
    }

-- at a stop
pub returns-then-is_stopped : goal.returns-then-is_stopped
returns-then-is_stopped c =
    let acts : (told_in c.loop-i.world c.args.pid ≡ Same → ⊥) = λ e. c.in_default-stepped.not-Same (c.in-Ok.ensures.told ∙ e) in
    let told : c.is_stopped.result ≡ (is_at_break c.args.marks.now c.args.pid c.step.new.self || list_any (has_changed c.step.new.self) c.in_ok-watched.watched.items) = search rules in
    let met = stop-told c.args.marks.now c.args.pid c.loop-i.world _ _ _ c.in-Ok.ensures.world c.loop-i.invariant.words told ∙ c.if-is_stopped.true in
    let all = left-met c.args.marks.now c.args.pid c.loop-i.world c.loop-i.i c.args.count _ c.loop-i-test.true acts met c.loop-i.invariant.went in
    record {
      steps = ap (λ t. t.0) all;
      stop = ap (λ t. t.1) all;
      world = c.in-Ok.ensures.world ∙ ap (λ t. t.2) all;
    }

pub loop-i-preserved : goal.loop-i-preserved
loop-i-preserved c =
    let acts : (told_in c.loop-i.world c.args.pid ≡ Same → ⊥) = λ e. c.in_default-stepped.not-Same (c.in-Ok.ensures.told ∙ e) in
    let told : c.is_stopped.result ≡ (is_at_break c.args.marks.now c.args.pid c.step.new.self || list_any (has_changed c.step.new.self) c.in_ok-watched.watched.items) = search rules in
    let on = stop-told c.args.marks.now c.args.pid c.loop-i.world _ _ _ c.in-Ok.ensures.world c.loop-i.invariant.words told ∙ c.if-is_stopped.false in
    let next = c.loop-i.i + 1 in
    record {
      went = ap (λ w. behind (replicate next c.args.pid) (went c.args.marks.now w (replicate (c.args.count - next) c.args.pid))) c.in-Ok.ensures.world
          ∙ left-more c.args.marks.now c.args.pid c.loop-i.world c.loop-i.i c.args.count _ c.loop-i-test.true acts on c.loop-i.invariant.went;
      words = words-on c.args.marks.now c.args.pid c.loop-i.world _ _ c.in-Ok.ensures.world c.loop-i.invariant.words on;
    }

pub returns : goal.returns
returns c =
    let end : c.loop-i.i ≡ c.args.count = omega (arith, c.loop-i-test.false, c.loop-i.auto.i-end) in
    let all = left-done c.args.marks.now c.args.pid c.loop-i.world c.loop-i.i c.args.count _ end c.loop-i.invariant.went in
    record {
      steps = ap (λ t. t.0) all;
      stop = ap (λ t. t.1) all;
      world = ap (λ t. t.2) all;
    }
