use Rattle.ipc_store.proofs.CommutingCalls.{own_calls_commute, start_named, stay_named, own_alike}
use Rattle.ipc_store.proofs.laws.own_law.Goals as goal

pub returns : goal.returns
returns c = record { commute = own_calls_commute; empty = start_named; named = stay_named; alike = own_alike }
