-- The names of the calls, by their vectors.
use Rattle.std.proofs.Common.{ℕ, ◌≡◌, ◌<◌, ◌≤◌, List, IfSome, arith}
use Rattle.ipc_traps.specs.declared.service.Service.{Service}
use Rattle.ipc_traps.specs.declared.service.Service.TheVariants.{MqOpen, MqClose, MqUnlink, MqSend, MqReceive, MqGetattr, MqSetattr, SemOpen, SemClose, SemUnlink, SemWait, SemTrywait, SemPost, SemGetvalue}
use Rattle.ipc_traps.specs.Services.{service_in, service_name}

-- a word that is the name of no call with one of these vectors is the name of none
pub unnamed : (word : List ℕ) → ((v : ℕ) → v < 0x57 → 0x40 ≤ v → IfSome (service_in v) (λ s. service_name s ≡ word → ⊥)) → (s : Service)
    → service_name s ≡ word → ⊥
unfolding service_in
unnamed word none MqOpen = none 0x40 (omega arith) (omega arith)
unnamed word none MqClose = none 0x41 (omega arith) (omega arith)
unnamed word none MqUnlink = none 0x42 (omega arith) (omega arith)
unnamed word none MqSend = none 0x43 (omega arith) (omega arith)
unnamed word none MqReceive = none 0x44 (omega arith) (omega arith)
unnamed word none MqGetattr = none 0x45 (omega arith) (omega arith)
unnamed word none MqSetattr = none 0x46 (omega arith) (omega arith)
unnamed word none SemOpen = none 0x50 (omega arith) (omega arith)
unnamed word none SemClose = none 0x51 (omega arith) (omega arith)
unnamed word none SemUnlink = none 0x52 (omega arith) (omega arith)
unnamed word none SemWait = none 0x53 (omega arith) (omega arith)
unnamed word none SemTrywait = none 0x54 (omega arith) (omega arith)
unnamed word none SemPost = none 0x55 (omega arith) (omega arith)
unnamed word none SemGetvalue = none 0x56 (omega arith) (omega arith)
