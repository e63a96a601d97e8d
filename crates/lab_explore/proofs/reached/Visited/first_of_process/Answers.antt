use Rattle.std.proofs.Common.{◌≡◌, IsTrue, None, Some, ap, subst, ◌∙◌, slice_get}
use Rattle.std.proofs.lemmas.Result.{IfOk-weaker}
use Rattle.lab_sched.specs.Held.{process_view}
use Rattle.lab_worlds.proofs.Pushes.{got}
use Rattle.lab_explore.specs.declared.refusals.Alone.{Alone}
use Rattle.lab_explore.specs.declared.refusals.Found.TheVariants.{Calm}
use Rattle.lab_explore.specs.Private.Judged.{IsQuiet}
use Rattle.lab_explore.proofs.CalmRows.{begins}
use Rattle.lab_explore.proofs.reached.Visited.first_of_process.Goals as goal

pub returns : goal.returns
returns c =
    let ps = c.args.self.now.processes.items in
    let process = c.in-Some.process.now in
    let found = c.in-Some.ensures.lookup.3 in
    let at : slice_get ps c.args.pid ≡ Some process = got c.deref.result.now ps c.args.pid process c.deref.ensures.value found.0 (found.1 process) in
    let same = ap (λ (a : Alone). process_view a.process) c.in_ok-alone.ensures.same ∙ ap process_view c.in_ok-process.ensures.equal in
    record {
      quiet = IfOk-weaker c.turn_of.result (λ turn. turn ≡ None → IsTrue c.args.self.now.complete → c.in_ok-found.found ≡ Calm) _
          (λ turn calm none whole. begins c.args.refusal.now ps c.args.pid process at (subst (IsQuiet c.args.refusal.now) same (c.in_ok-found.ensures.quiet (calm none whole))))
          c.turn_of.ensures.calm;
    }
