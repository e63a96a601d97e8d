-- A process is fixed by how many effective steps it took and by the answers to its calls.
use Rattle.std.proofs.Common.{ℕ, zero, suc, ◌+◌, ◌≡◌, ◌==◌, ◌≤◌, ◌++◌, List, [], ◌∷◌, Some, false, cond, refl, sym, ap, subst, ◌∙◌, slice_get, ◌≢◌, inl, inr, rules}
use Rattle.std.proofs.Math.Numerals.{add-one}
use Rattle.std.proofs.lemmas.Bool.Decides.{eqb_tells}
use Rattle.std.proofs.lemmas.Option.{slice_get_past, slice_get_cases}
use Rattle.lc3_machine.specs.Process.{Process as Machine}
use Rattle.ipc_kernel.specs.declared.call.Answer.{Answer}
use Rattle.ipc_kernel.specs.Kernel.{KernelState}
use Rattle.lab_sched.specs.Worlds.{Process, Running, Waiting, Ended, WorldState, NextAction, moves, calls, next_action, StepEffect, nothing, local_step, kernel_step, step_effect, step_effect_in, process_after_answer, process_after, after, step, IsEffective, entry_of, run, entries}
use Rattle.lab_sched.specs.Execution.{AreEffective, count, Commute}
use Rattle.lab_sched.specs.History.{replay}
use Rattle.lab_sched.specs.declared.stepped.Entry.{Entry}
use Rattle.lab_sched.proofs.ListPlaces.{get-set_same, get-set_other, get_past, same_gets}
use Rattle.lab_sched.proofs.Runs.{length-run}
use Rattle.lab_sched.proofs.Executions.{kernel_run}

-- one effective step of a process, which takes an answer if it is a call's
abbrev one_act : Machine → NextAction → List Answer → Process × List Answer
one_act m (moves q) rs = (Running q, rs)
one_act m (calls c) [] = (Running m, [])
one_act m (calls c) (a ∷ rs) = (process_after_answer m c a, rs)

abbrev one : Process → List Answer → Process × List Answer
one (Running m) rs = one_act m (next_action m) rs
one (Waiting m c) [] = (Waiting m c, [])
one (Waiting m c) (a ∷ rs) = (process_after_answer m c a, rs)
one (Ended e) rs = (Ended e, rs)

-- the process after n effective steps with these answers
abbrev walk : Process → ℕ → List Answer → Process
walk s zero rs = s
walk s (suc n) rs = walk (one s rs).0 n (one s rs).1

-- the answers to process p
abbrev answers : ℕ → List Entry → List Answer
answers p [] = []
answers p (e ∷ es) = cond (e.pid == p) (e.answer ∷ answers p es) (answers p es)

abbrev answers_of : StepEffect → List Answer
answers_of nothing = []
answers_of (local_step q) = []
answers_of (kernel_step m c a) = a ∷ []

answers-append : (p : ℕ) (xs ys : List Entry) → answers p (xs ++ ys) ≡ answers p xs ++ answers p ys
answers-append p [] ys = refl
answers-append p (x ∷ xs) ys = search (rules, (answers-append p xs ys))

one_effect : (k : KernelState) (p : ℕ) (s : Process) (rs : List Answer) → IsEffective (step_effect k p (Some s))
    → one s (answers_of (step_effect k p (Some s)) ++ rs) ≡ (process_after s (step_effect k p (Some s)), rs)
one_effect k p x rs h = search rules

answers_mine : (p : ℕ) (t : StepEffect) → answers p (entry_of p t) ≡ answers_of t
answers_mine p nothing = refl
answers_mine p (local_step q) = refl
answers_mine p (kernel_step m c a) = elim (eqb_tells p p) [ inl same ↦ rw same.0 refl | inr other ↦ absurd (other.1 refl) ]

answers_other : (p q : ℕ) (t : StepEffect) → (q == p) ≡ false → answers p (entry_of q t) ≡ []
answers_other p q nothing e = refl
answers_other p q (local_step n) e = refl
answers_other p q (kernel_step m c a) e = rw e refl

after_mine : (w : WorldState) (p : ℕ) (s : Process) (t : StepEffect) → slice_get w.processes p ≡ Some s → slice_get (after w p t).processes p ≡ Some (process_after s t)
after_mine w p s nothing at = at
after_mine w p s (local_step q) at = get-set_same w.processes p (Running q) (get_past w.processes p s at)
after_mine w p s (kernel_step m c a) at = get-set_same w.processes p (process_after_answer m c a) (get_past w.processes p s at)

pub after_other : (w : WorldState) (p q : ℕ) (t : StepEffect) → q ≢ p → slice_get (after w q t).processes p ≡ slice_get w.processes p
after_other w p q nothing ne = refl
after_other w p q (local_step n) ne = get-set_other w.processes q p (Running n) ne
after_other w p q (kernel_step m c a) ne = get-set_other w.processes q p (process_after_answer m c a) ne

walks : (w : WorldState) (xs : List ℕ) (p : ℕ) (s : Process) → AreEffective w xs → slice_get w.processes p ≡ Some s
    → slice_get (run w xs).processes p ≡ Some (walk s (count p xs) (answers p (entries w xs)))
unfolding run entries
walks w [] p s h at = at
walks w (q ∷ xs) p s h at = elim (eqb_tells q p) [
  | inl same ↦
      let t = step_effect w.kernel p (Some s) in
      let rs = answers p (entries (step w q) xs) in
      let mine : step_effect_in w q ≡ t = ap (λ n. step_effect_in w n) same.1 ∙ ap (λ o. step_effect w.kernel p o) at in
      let effective : IsEffective t = subst IsEffective mine h.0 in
      let here : slice_get (step w q).processes p ≡ Some (process_after s t) =
      ap (λ n. slice_get (after w n (step_effect_in w q)).processes p) same.1 ∙ after_mine w p s (step_effect_in w q) at ∙ ap (λ u. Some (process_after s u)) mine in
      let rest = walks (step w q) xs p (process_after s t) h.1 here in
      let answered : answers p (entries w (q ∷ xs)) ≡ answers_of t ++ rs =
      answers-append p (entry_of q (step_effect_in w q)) (entries (step w q) xs)
      ∙ ap (λ zs. zs ++ rs) (ap (λ n. answers p (entry_of n (step_effect_in w q))) same.1 ∙ answers_mine p (step_effect_in w q) ∙ ap answers_of mine) in
      let counted : count p (q ∷ xs) ≡ suc (count p xs) = ap (λ b. cond b (count p xs + 1) (count p xs)) same.0 ∙ add-one (count p xs) in
      let one_more : walk s (suc (count p xs)) (answers_of t ++ rs) ≡ walk (process_after s t) (count p xs) rs =
      ap (λ x. walk x.0 (count p xs) x.1) (one_effect w.kernel p s rs effective) in
      rest ∙ ap (λ x. Some x) (sym (ap (λ n. walk s n (answers p (entries w (q ∷ xs)))) counted ∙ ap (λ zs. walk s (suc (count p xs)) zs) answered ∙ one_more))
  | inr other ↦
      let here : slice_get (step w q).processes p ≡ Some s = after_other w p q (step_effect_in w q) other.1 ∙ at in
      let rest = walks (step w q) xs p s h.1 here in
      let answered : answers p (entries w (q ∷ xs)) ≡ answers p (entries (step w q) xs) =
      answers-append p (entry_of q (step_effect_in w q)) (entries (step w q) xs) ∙ ap (λ zs. zs ++ answers p (entries (step w q) xs)) (answers_other p q (step_effect_in w q) other.0) in
      let counted : count p (q ∷ xs) ≡ count p xs = ap (λ b. cond b (count p xs + 1) (count p xs)) other.0 in
      rest ∙ ap (λ x. Some x) (sym (ap (λ n. walk s n (answers p (entries w (q ∷ xs)))) counted ∙ ap (λ zs. walk s (count p xs) zs) answered))
]

-- two lists of effective steps with equal counts and equal entries end in equal worlds
pub commute : Commute
commute w xs ys hx hy counts same =
    let processes : (run w xs).processes ≡ (run w ys).processes =
    same_gets (run w xs).processes (run w ys).processes (length-run w xs ∙ sym (length-run w ys)) at in
    let kernels : (run w xs).kernel ≡ (run w ys).kernel = kernel_run w xs ∙ ap (λ es. replay w.kernel es) same ∙ sym (kernel_run w ys) in
    ap (λ ps. record { processes = ps; kernel = (run w xs).kernel }) processes ∙ ap (λ k. record { processes = (run w ys).processes; kernel = k }) kernels
  where
    at : (p : ℕ) → slice_get (run w xs).processes p ≡ slice_get (run w ys).processes p
    at p = elim (slice_get_cases w.processes p).1 [
      | inl t ↦
          walks w xs p t.0 hx t.2 ∙ ap (λ n. Some (walk t.0 n (answers p (entries w xs)))) (counts p)
          ∙ ap (λ es. Some (walk t.0 (count p ys) (answers p es))) same ∙ sym (walks w ys p t.0 hy t.2)
      | inr t ↦
          slice_get_past (run w xs).processes p (subst (λ n. n ≤ p) (sym (length-run w xs)) t.0)
          ∙ sym (slice_get_past (run w ys).processes p (subst (λ n. n ≤ p) (sym (length-run w ys)) t.0))
    ]
