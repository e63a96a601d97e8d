-- Histories one after another.
use Rattle.std.proofs.Common.{ℕ, ◌≡◌, ◌==◌, ◌++◌, List, [], ◌∷◌, Option, cond, refl}
use Rattle.ipc_kernel.specs.declared.call.Call.{Call}
use Rattle.ipc_kernel.specs.Kernel.{KernelState}
use Rattle.ipc_kernel.specs.Answer.{answer}
use Rattle.lab_sched.specs.declared.stepped.Entry.{Entry}
use Rattle.lab_sched.specs.History.{replay, IsLegal, still, waits_after}

pub replay-append : (k : KernelState) (xs ys : List Entry) → replay k (xs ++ ys) ≡ replay (replay k xs) ys
replay-append k [] ys = refl
replay-append k (x ∷ xs) ys = replay-append (answer k x.pid x.call).1 xs ys

pub legal-append : (k : KernelState) (xs ys : List Entry) → IsLegal k xs → IsLegal (replay k xs) ys → IsLegal k (xs ++ ys)
legal-append k [] ys l m = m
legal-append k (x ∷ xs) ys l m = (l.0, legal-append (answer k x.pid x.call).1 xs ys l.1 m)

pub waits-append : (o : Option Call) (xs ys : List Entry) (p : ℕ) → waits_after o (xs ++ ys) p ≡ waits_after (waits_after o xs p) ys p
waits-append o [] ys p = refl
waits-append o (x ∷ xs) ys p = waits-append (cond (x.pid == p) (still x.call x.answer) o) xs ys p
