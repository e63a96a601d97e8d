-- Laboratories before their first step.
use Rattle.std.proofs.Common.{ℕ, true, All, ◌≡◌, slice_get, List, Option, Some, None, refl, sym, ap, subst, ◌∙◌, length, map, rules}
use Rattle.ipc_kernel.specs.Kernel.{KernelState, empty_kernel}
use Rattle.lab_sched.specs.declared.process.Process.{Process as Kept}
use Rattle.std.proofs.lemmas.List.Elements.{All-weaker}
use Rattle.ipc_kernel.specs.Alike.{IsConsistent}
use Rattle.ipc_store.proofs.Consistents.{consistent_empty}
use Rattle.ipc_kernel.specs.Operands.{are_named}
use Rattle.ipc_store.proofs.CommutingCalls.{start_named}
use Rattle.lab_sched.specs.Worlds.{WorldState}
use Rattle.lab_sched.specs.Verdicts.{IsRunning}
use Rattle.lab_sched.proofs.WorldLemmas.{fresh_world, runs_held}
use Rattle.lab_sched.specs.Held.{process_view, IsHeld, IsWorld}
use Rattle.lab_sched.specs.Starts.{AreStarts, initial_world, Runs}
use Rattle.lab_worlds.specs.Unwaiting.{unwaiting, AskAgain}
use Rattle.lab_worlds.proofs.UnwaitingWorlds.{running_unwaiting, running_ask, AreRunning}
use Rattle.std.specs.Option.{option_map}
use Rattle.std.proofs.lemmas.Option.{slice_get-map}
use Rattle.lab_worlds.proofs.Pushes.{all_at}

-- the start of a laboratory, by copies of its processes over an empty kernel
pub started : (w : WorldState) (ps qs : List Kept) (k : KernelState) (n : ℕ) → initial_world ps ≡ w → qs ≡ ps → n ≡ length qs → k ≡ empty_kernel n
    → w ≡ record { processes = map process_view qs; kernel = k }
started w ps qs k n world same count empty = search rules

-- in the kernel of a laboratory before its first step each object has a name
pub fresh_named : (w : WorldState) (n : ℕ) → w.kernel ≡ empty_kernel n → are_named w.kernel.places ≡ true
fresh_named w n is = ap (λ (k : KernelState). are_named k.places) is ∙ start_named n

-- copies of processes over the empty kernel
pub copies_world : (ps cs : List Kept) (k : KernelState) → cs ≡ ps → AreStarts ps → k ≡ empty_kernel (length ps) → IsWorld cs k
copies_world ps cs k same starts empty = subst (λ xs. IsWorld xs k) (sym same) (fresh_world ps k (record { starts = starts; empty = empty }))

-- each process of a laboratory runs before its first step
pub starts_run : (ps : List Kept) (k : KernelState) → AreStarts ps → AreRunning (record { processes = map process_view ps; kernel = k })
starts_run ps k starts p s at = by (slice_get ps p) refl (sym (slice_get-map process_view ps p) ∙ at)
  where
    by : (o : Option Kept) → slice_get ps p ≡ o → option_map process_view o ≡ Some s → IsRunning s
    by None e is = absurd (cc)
    by (Some x) e is = let same : process_view x ≡ s = cc in subst IsRunning same (all_at Runs ps p x starts.running e)

-- so none has begun to wait
pub starts_unwaiting : (ps qs : List Kept) (k : KernelState) → qs ≡ ps → AreStarts ps → unwaiting (record { processes = map process_view qs; kernel = k }) ≡ record { processes = map process_view qs; kernel = k }
starts_unwaiting ps qs k same starts = running_unwaiting (record { processes = map process_view qs; kernel = k }) (starts_run qs k (subst AreStarts (sym same) starts))

pub starts_ask : (ps qs : List Kept) (k : KernelState) → qs ≡ ps → AreStarts ps → AskAgain (record { processes = map process_view qs; kernel = k })
starts_ask ps qs k same starts = running_ask (record { processes = map process_view qs; kernel = k }) (starts_run qs k (subst AreStarts (sym same) starts))

-- the kernel of a laboratory before its first step is consistent
pub fresh_consistent : (w : WorldState) (n : ℕ) → w.kernel ≡ empty_kernel n → IsConsistent w.kernel
fresh_consistent w n is = subst IsConsistent (sym is) (consistent_empty n)

-- and asks for nothing else than what it waits for
pub starts_held : (ps qs : List Kept) → qs ≡ ps → AreStarts ps → All IsHeld qs
starts_held ps qs same starts = subst (All IsHeld) (sym same) (All-weaker Runs IsHeld runs_held ps starts.running)
