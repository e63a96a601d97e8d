use Rattle.lab_worlds.proofs.Beginnings.{copies_world}
use Rattle.lab_worlds.proofs.walking.Walk.start.Goals as goal
use Rattle.std.proofs.Common.{rules}

pub join-requires : goal.join-requires
join-requires c = search (rules, copies_world, c.args.processes.now, c.in_ok-copies.copies.items, c.in_ok-kernel.kernel, c.in_ok-copies.ensures.copies, c.requires.starts, c.in_ok-kernel.ensures.empty)
