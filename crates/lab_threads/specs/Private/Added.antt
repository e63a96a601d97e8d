-- What an answer adds to a history, whichever call it answers.
use Rattle.std.specs.Prelude.{ℕ, ◌≡◌, Bool, [], ◌∷◌, Option, is_some}
use Rattle.ipc_kernel.specs.declared.call.Call.{Call}
use Rattle.ipc_kernel.specs.declared.call.Answer.{Answer}
use Rattle.lab_threads.specs.BookState.{entries_of_call}

-- the entry of its call, by whether the process waited
abbrev pub AddsEntry : Bool → Answer → Type 0
AddsEntry waited a = (o : Option Call) (p : ℕ) (c : Call) → is_some o ≡ waited
    → entries_of_call o p c a ≡ record { pid = p; call = c; answer = a } ∷ []

-- no entry, by whether the process waited
abbrev pub AddsNone : Bool → Answer → Type 0
AddsNone waited a = (o : Option Call) (p : ℕ) (c : Call) → is_some o ≡ waited → entries_of_call o p c a ≡ []
