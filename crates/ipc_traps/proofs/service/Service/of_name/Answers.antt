use borrow.Author.Count.{below_more}
use Rattle.std.proofs.Common.{◌≡◌, ◌≤◌, IfSome, arith, rules}
use Rattle.ipc_traps.specs.Services.{service_in, service_name}
use Rattle.ipc_traps.proofs.ServiceNames.{unnamed}
use Rattle.ipc_traps.proofs.service.Service.of_name.Goals as goal

pub loop-vector-preserved : goal.loop-vector-preserved
loop-vector-preserved c =
    let here : IfSome (service_in c.loop-vector.vector) (λ s. service_name s ≡ c.args.name.now → ⊥) = search rules in
    below_more (λ v. 0x40 ≤ v → IfSome (service_in v) (λ s. service_name s ≡ c.args.name.now → ⊥)) c.loop-vector.vector c.loop-vector.invariant (λ _. here)

pub returns-clause-none : goal.returns-clause-none
returns-clause-none c none = unnamed c.args.name.now (λ v within. c.loop-vector.invariant v (omega (arith, c.loop-vector-test.false)))
