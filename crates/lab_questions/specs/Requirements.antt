-- What can be required of worlds at rest.
use Rattle.std.specs.Prelude.{ℕ, Bool, true, false, ◌≡◌, ◌≤◌, List, Some, Any, map, slice_get}
use Rattle.lc3_machine.specs.declared.want.How.{How}
use Rattle.lc3_machine.specs.declared.want.How.TheVariants.{Halt}
use Rattle.lab_sched.specs.Worlds.{Process, Running, Waiting, Ended, WorldState, machine_of}
use Rattle.lab_conditions.specs.Losses.{messages}
use Rattle.lab_questions.specs.declared.asked.Waiter.{Waiter}

-- one of these names process p, and lies around the address
abbrev pub MayWait : List Waiter → ℕ → ℕ → Type 0
MayWait waiters p pc = Any (λ v. (v.process ≡ p) × (v.first ≤ pc) × (pc ≤ v.last)) waiters

-- an end is as asked: by HALT, or any
abbrev pub EndsAs : Bool → How → Type 0
EndsAs false how = Unit {0}
EndsAs true how = how ≡ Halt

-- the process has ended, by HALT if that is asked, or waits where it may
abbrev pub HasSettled : Bool → List Waiter → ℕ → Process → Type 0
HasSettled by_halt waiters p (Running m) = ⊥
HasSettled by_halt waiters p (Waiting m c) = MayWait waiters p m.pc
HasSettled by_halt waiters p (Ended e) = EndsAs by_halt e.how

-- each process has settled
abbrev pub HaveSettled : Bool → List Waiter → WorldState → Type 0
HaveSettled by_halt waiters w = (p : ℕ) (s : Process) → slice_get w.processes p ≡ Some s → HasSettled by_halt waiters p s

-- no queue holds a message
abbrev pub AreEmptied : WorldState → Type 0
AreEmptied w = messages w.kernel ≡ 0

-- what each process has written
abbrev pub outputs : WorldState → List (List ℕ)
outputs w = map (λ s. (machine_of s).output) w.processes
