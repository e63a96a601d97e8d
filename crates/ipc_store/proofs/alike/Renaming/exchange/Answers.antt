use Rattle.std.proofs.Common.{arith}
use Rattle.ipc_store.proofs.Exchanges.{renamed_by-read, exchanged_to, exchanged_permutes, exchanged_follows}
use Rattle.ipc_store.proofs.alike.Renaming.exchange.Goals as goal
use Rattle.std.proofs.lemmas.Grind.{common_steps}

pub returns-then-other-lt-OBJECT_PLACES-clause-permutation :
    goal.returns-then-other-lt-OBJECT_PLACES-clause-permutation
returns-then-other-lt-OBJECT_PLACES-clause-permutation c = grind (arith, common_steps, exchanged_permutes, renamed_by-read)

pub returns-then-other-lt-OBJECT_PLACES-clause-follows : goal.returns-then-other-lt-OBJECT_PLACES-clause-follows
returns-then-other-lt-OBJECT_PLACES-clause-follows c f g h is = grind (arith, common_steps, renamed_by-read, exchanged_follows, exchanged_to)
