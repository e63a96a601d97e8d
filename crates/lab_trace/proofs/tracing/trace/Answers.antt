use Rattle.std.proofs.Common.{ℕ, List, [], ◌++◌, sym, ap, subst, ◌∙◌, append-nil}
use Rattle.std.specs.Io.KnownBytes.{Appends}
use Rattle.std.proofs.KnownBytes.{Appends-trans}
use Rattle.std.proofs.lemmas.Result.{on_ok_weaker, on_err_weaker}
use Rattle.lab_io.proofs.Prefixes.{AppendsPrefix-after}
use Rattle.lab_sched.specs.Schedules.{steps_of}
use Rattle.lab_told.specs.Scenes.{Scene, scene_at}
use Rattle.lab_told.proofs.SceneLemmas.{scene-world}
use Rattle.lab_trace.specs.Lines.{events}
use Rattle.lab_trace.proofs.LineLemmas.{lines-told, lines-broke}
use Rattle.lab_trace.proofs.WrittenLemmas.{on_err, on_ok, trace-parts, trace-whole, lines-prefix, prefix-lines}
use Rattle.lab_trace.proofs.tracing.trace.Goals as goal

pub returns-in_err-tell_run-clause-prefix : goal.returns-in_err-tell_run-clause-prefix
returns-in_err-tell_run-clause-prefix g c =
    let ps = steps_of c.args.schedule.now in
    let v = c.in_ok-form.form in
    let parts = trace-parts c.args.world.now c.args.sources.now ps v c.in_ok-tally.tally _ _ _ c.in_ok-form.ensures.form c.total.ensures.steps c.count.ensures.count
    c.in_ok-tally.ensures.empty c.count-2.ensures.count in
    let part = rw c.blocks-2.ensures.value at c.in_err-tell_run.ensures.fault in
    on_err _ _ (prefix-lines _ ps v _ _ _ parts (lines-broke g.W.Write.contents v _ ps _ _ _ part))

pub returns-in_err-text-clause-prefix : goal.returns-in_err-text-clause-prefix
returns-in_err-text-clause-prefix g c =
    let ps = steps_of c.args.schedule.now in
    let v = c.in_ok-form.form in
    let parts = trace-parts c.args.world.now c.args.sources.now ps v c.in_ok-tally.tally _ _ _ c.in_ok-form.ensures.form c.total.ensures.steps c.count.ensures.count
    c.in_ok-tally.ensures.empty c.count-2.ensures.count in
    let told = rw c.blocks-2.ensures.value at c.in_ok-tell_run.ensures.told in
    on_err _ _ (lines-prefix _ ps v _ _ _ parts (lines-told g.W.Write.contents v _ ps _ _ told))

pub returns-clause-written : goal.returns-clause-written
returns-clause-written g c =
    let ps = steps_of c.args.schedule.now in
    let v = c.in_ok-form.form in
    let parts = trace-parts c.args.world.now c.args.sources.now ps v c.in_ok-tally.tally _ _ _ c.in_ok-form.ensures.form c.total.ensures.steps c.count.ensures.count
    c.in_ok-tally.ensures.empty c.count-2.ensures.count in
    let told = rw c.blocks-2.ensures.value at c.in_ok-tell_run.ensures.told in
    let led = rw c.blocks-2.ensures.value at c.in_ok-tell_run.ensures.scene in
    let s = scene_at 1 c.args.world.now c.in_ok-tally.tally in
    let whole = trace-whole s ps v c.tell_run.new.world c.tell_run.new.tally _ _ parts led
    ∙ ap (λ (l : List ℕ). events v s ps ++ l) (sym (c.deref.ensures.value ∙ c.in_ok-text.ensures.text)) in
    on_ok_weaker c.write_text.result
    (λ more. subst (λ (l : List ℕ). Appends (g.W.Write.contents c.args.output.now.device) (g.W.Write.contents c.write_text.new.output.device) l) (sym whole)
    (Appends-trans _ _ _ (events v s ps) c.deref.result.now (lines-told g.W.Write.contents v s ps _ _ told) more))
    c.write_text.ensures.written

pub returns-clause-world : goal.returns-clause-world
returns-clause-world g c =
    let ps = steps_of c.args.schedule.now in
    let led = rw c.blocks-2.ensures.value at c.in_ok-tell_run.ensures.scene in
    on_ok _ _ (ap (λ (x : Scene). x.world) led ∙ scene-world (scene_at 1 c.args.world.now c.in_ok-tally.tally) ps)

pub returns-clause-prefix : goal.returns-clause-prefix
returns-clause-prefix g c =
    let ps = steps_of c.args.schedule.now in
    let v = c.in_ok-form.form in
    let parts = trace-parts c.args.world.now c.args.sources.now ps v c.in_ok-tally.tally _ _ _ c.in_ok-form.ensures.form c.total.ensures.steps c.count.ensures.count
    c.in_ok-tally.ensures.empty c.count-2.ensures.count in
    let told = rw c.blocks-2.ensures.value at c.in_ok-tell_run.ensures.told in
    let led = rw c.blocks-2.ensures.value at c.in_ok-tell_run.ensures.scene in
    let s = scene_at 1 c.args.world.now c.in_ok-tally.tally in
    let whole = trace-whole s ps v c.tell_run.new.world c.tell_run.new.tally _ _ parts led
    ∙ ap (λ (l : List ℕ). events v s ps ++ l) (sym (append-nil c.deref.result.now ∙ c.deref.ensures.value ∙ c.in_ok-text.ensures.text)) in
    on_err_weaker c.write_text.result
    (λ part. AppendsPrefix-after _ _ _ (events v s ps) c.deref.result.now [] _ (lines-told g.W.Write.contents v s ps _ _ told) part whole)
    c.write_text.ensures.prefix
