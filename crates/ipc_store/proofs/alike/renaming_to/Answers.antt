use Rattle.ipc_store.proofs.ExactAlikes.{followed}
use Rattle.ipc_store.proofs.alike.renaming_to.Goals as goal

pub returns-clause-alike : goal.returns-clause-alike
returns-clause-alike c =
    let places = c.places.ensures.places in
    let tables = c.tables.ensures.tables in
    followed c.args.kernel.now c.args.other.now c.new-renaming.result c.take_names.new.renaming c.take_all.new.renaming c.places.ensures.settled c.take_all.ensures.permutation
    (rw places at c.take_names.ensures.follows) (rw places at c.take_names.ensures.range)
    (rw (tables, c.tables-2.ensures.tables) at c.take_all.ensures.follows) c.tables.ensures.range
