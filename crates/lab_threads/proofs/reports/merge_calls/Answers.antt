use Rattle.std.proofs.Common.{ℕ, ◌≡◌, ◌≤◌, ◌+◌, ◌∷◌, ◌++◌, [], List, take, get_or, subst, ap, sym, ◌∙◌, arith, rules, length, drop}
use Rattle.std.proofs.lemmas.List.{length-set, take_all, take_more, drop_more, drop_all}
use Rattle.lab_sched.specs.Schedules.{steps_of}
use Rattle.lab_sched.specs.declared.stepped.Entry.{Entry}
use Rattle.lab_threads.specs.Private.Merged.{IsMerged}
use Rattle.lab_threads.proofs.Merges.{merged_none, merged_step, zeros, empty_steps}
use Rattle.lab_threads.proofs.reports.merge_calls.Goals as goal

pub loop-entry-init : goal.loop-entry-init
loop-entry-init c =
    let none : (p : ℕ) → get_or c.in_ok-next.next.items p 0 ≡ 0 = zeros c.in_ok-next.next.items (length c.args.workers.now) (search rules) in
    let empty = empty_steps c.new-schedule.result c.new-schedule.ensures.empty in
    record {
      len = search rules;
      merged = λ starts limit are legal. merged_none starts c.args.workers.now c.in_ok-next.next.items (steps_of c.new-schedule.result) limit c.args.history.now are legal none empty;
    }

pub loop-entry-preserved : goal.loop-entry-preserved
loop-entry-preserved c =
    let item = c.in-Some.ensures.item in
    let added = c.in_ok-add.ensures.steps in
    let es = c.args.history.now in
    let i = c.loop-entry.entry-index in
    let e = c.entry-item.result in
    record {
      len = length-set c.loop-entry.next.items _ _ ∙ c.loop-entry.invariant.len;
      merged = λ starts limit are legal.
          merged_step (drop_more es i e c.loop-entry-test.true ∙ ap (λ y. y ∷ drop (i + 1) es) (sym c.entry-item.is))
          (take_more es i e c.loop-entry-test.true ∙ ap (λ y. take i es ++ y ∷ []) (sym c.entry-item.is))
          c.deref.ensures.value item c.in-Some.ensures.within c.index_mut.ensures.value added (c.loop-entry.invariant.merged starts limit are legal);
    }

pub returns-clause-merged : goal.returns-clause-merged
returns-clause-merged c starts limit are legal =
    let es = c.args.history.now in
    let i = c.loop-entry.entry-index in
    let all : length es ≤ i = omega arith in
    let W : List Entry → List Entry → Type 0 = λ done rest. IsMerged starts c.args.workers.now c.loop-entry.next.items (steps_of c.loop-entry.schedule) done rest in
    subst (λ rest. W es rest) (drop_all i es all) (subst (λ done. W done (drop i es)) (take_all i es all) (c.loop-entry.invariant.merged starts limit are legal))
