use Rattle.ipc_store.proofs.UnnoticedLaws.{unnoticed_calls_commute, unnoticed_calls_harmless, uses_alike}
use Rattle.ipc_store.proofs.laws.unnoticed_law.Goals as goal

pub returns : goal.returns
returns c = record { commute = unnoticed_calls_commute; harmless = unnoticed_calls_harmless; alike = uses_alike }
