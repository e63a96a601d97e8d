use Rattle.std.proofs.Common.{ℕ, ◌≡◌, ◌<◌, ◌≤◌, IfSome}
use Rattle.ipc_traps.specs.Services.{service_in, service_name}
use Rattle.ipc_traps.proofs.service.Service.of_name.Given as goal

-- no call with a vector so far has the name
abbrev pub invariant-loop-vector : goal.invariant-loop-vector
invariant-loop-vector l = (v : ℕ) → v < l.vector → 0x40 ≤ v → IfSome (service_in v) (λ s. service_name s ≡ l.name → ⊥)
