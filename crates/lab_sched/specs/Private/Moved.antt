-- Steps that may be refused memory, and those of which nobody is told what they were.
use Rattle.std.specs.Prelude.{ℕ, ◌≡◌, Bool, true, false, Some, Result, IfOk, OnErr, length, replicate, slice_get, slice_set}
use Rattle.ipc_kernel.specs.Kernel.{KernelState}
use Rattle.lab_sched.specs.declared.process.Process.{Process as Kept}
use Rattle.lab_sched.specs.declared.stepped.Stepped.{Stepped}
use Rattle.lab_sched.specs.declared.stepped.Stepped.TheVariants as stepped
use Rattle.lab_sched.specs.Worlds.{Process, WorldState, run}
use Rattle.lab_sched.specs.Held.{process_view, IsHeld, HasStepped}

-- whether a step had an effect, by what it was
abbrev pub has_moved : Stepped → Bool
has_moved stepped.Same = false
has_moved other = true

-- process p, which was s over kernel k, has taken its step: it is u over kernel j, and whether it moved is told
abbrev pub HasMoved : KernelState → ℕ → Process → KernelState → Process → Bool → Type 0
HasMoved k p s j u moved = (told : Stepped) × HasStepped k p s j u told × (moved ≡ has_moved told)

-- process p, which was s over kernel k, has taken n steps in a row, and is u over kernel j
abbrev pub HasRun : KernelState → ℕ → Process → KernelState → Process → ℕ → Type 0
HasRun k p s j u n = (w : WorldState) → w.kernel ≡ k → slice_get w.processes p ≡ Some s
    → run w (replicate n p) ≡ record { processes = slice_set w.processes p u; kernel = j }

-- a process that was s over kernel k is u over kernel j: what is told is so, and where memory was refused nothing has changed
pub record Came {A E : Type 0} (Told : A → Type 0) (k : KernelState) (s : Kept) (result : Result A E) (j : KernelState) (u : Kept) : Type 0 where
  pub ok : IfOk result Told
  pub held : IsHeld u
  pub err : OnErr result (process_view u ≡ process_view s)
  pub kernel : OnErr result (j ≡ k)
  pub count : length j.processes ≡ length k.processes

-- process p takes its step, and is told what it was
abbrev pub Steps : {E : Type 0} → KernelState → ℕ → Kept → Result Stepped E → KernelState → Kept → Type 0
Steps k p s result j u = Came (HasStepped k p (process_view s) j (process_view u)) k s result j u

-- it takes its step, and is told whether that had an effect
abbrev pub Moves : {E : Type 0} → KernelState → ℕ → Kept → Result Bool E → KernelState → Kept → Type 0
Moves k p s result j u = Came (HasMoved k p (process_view s) j (process_view u)) k s result j u

-- it takes steps in a row, and is told how many
abbrev pub Advances : {E : Type 0} → KernelState → ℕ → Kept → Result ℕ E → KernelState → Kept → Type 0
Advances k p s result j u = Came (HasRun k p (process_view s) j (process_view u)) k s result j u
