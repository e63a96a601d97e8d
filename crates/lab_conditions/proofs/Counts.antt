-- Processes that are counted.
use Rattle.std.proofs.Common.{ℕ, ◌≡◌, ◌<◌, ◌≤◌, ◌+◌, true, false, List, length, take, get_or, ap, ◌∙◌, rules}
use Rattle.std.specs.List.{count_by, enumerate_from}
use Rattle.std.proofs.lemmas.List.{take_all}
use Rattle.std.proofs.lemmas.List.Sums.{count_by_more_yes, count_by_more_no}
use Rattle.std.proofs.lemmas.List.FromFn.{length-enumerate_from, get_or-enumerate_from}
use Rattle.ipc_kernel.specs.Kernel.{KernelState}
use Rattle.lab_sched.specs.Worlds.{Process}
use Rattle.lab_conditions.specs.declared.condition.State.{State}
use Rattle.lab_conditions.specs.Conditions.{is_so, how_many, world_of}

-- how many of the first i processes stand so
abbrev pub counted : State → KernelState → List Process → ℕ → ℕ
counted x k ps i = count_by (λ e. is_so x k e.0 e.1) (take i (enumerate_from 0 ps))

at_place : (x : State) (k : KernelState) (ps : List Process) (i : ℕ) (s : Process) → i < length ps
    → is_so x k (get_or (enumerate_from 0 ps) i (0, s)).0 (get_or (enumerate_from 0 ps) i (0, s)).1 ≡ is_so x k i (get_or ps i s)
at_place x k ps i s within = search (rules, get_or-enumerate_from)

pub counted_yes : (x : State) (k : KernelState) (ps : List Process) (i : ℕ) (s : Process) → i < length ps → is_so x k i (get_or ps i s) ≡ true → counted x k ps (i + 1) ≡ counted x k ps i + 1
counted_yes x k ps i s within so =
    count_by_more_yes (λ e. is_so x k e.0 e.1) (enumerate_from 0 ps) i (0, s) (rw (length-enumerate_from 0 ps) within) (at_place x k ps i s within ∙ so)

pub counted_no : (x : State) (k : KernelState) (ps : List Process) (i : ℕ) (s : Process) → i < length ps → is_so x k i (get_or ps i s) ≡ false → counted x k ps (i + 1) ≡ counted x k ps i
counted_no x k ps i s within so =
    count_by_more_no (λ e. is_so x k e.0 e.1) (enumerate_from 0 ps) i (0, s) (rw (length-enumerate_from 0 ps) within) (at_place x k ps i s within ∙ so)

-- all processes
pub counted_all : (x : State) (k : KernelState) (ps : List Process) (i : ℕ) → length ps ≤ i → counted x k ps i ≡ how_many x (world_of k ps)
counted_all x k ps i past = ap (count_by (λ e. is_so x k e.0 e.1)) (take_all i (enumerate_from 0 ps) (rw (length-enumerate_from 0 ps) past))
