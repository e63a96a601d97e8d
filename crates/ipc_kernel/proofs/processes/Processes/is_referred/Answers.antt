use Rattle.std.proofs.Common.{refl, arith}
use Rattle.std.proofs.lemmas.Bool.Decides.{nat_tests}
use Rattle.std.proofs.lemmas.List.{get_or_past}
use Rattle.ipc_kernel.proofs.CountLemmas.{is_referred-references_to}
use Rattle.ipc_kernel.proofs.processes.Processes.is_referred.Goals as goal

pub returns-then-place-lt-OBJECT_PLACES : goal.returns-then-place-lt-OBJECT_PLACES
returns-then-place-lt-OBJECT_PLACES c = record { referred = rw (← c.self.view_is, is_referred-references_to c.self.inside.tables.items c.args.place, ← c.self.invariant.counted c.args.place) refl }

pub returns-else-place-lt-OBJECT_PLACES : goal.returns-else-place-lt-OBJECT_PLACES
returns-else-place-lt-OBJECT_PLACES c = record { referred = rw (← c.self.view_is, is_referred-references_to c.self.inside.tables.items c.args.place, ← c.self.invariant.counted c.args.place, get_or_past c.self.inside.counts c.args.place 0 (omega (arith, c.self.invariant.length_of_counts))) (grind (arith, nat_tests)) }
