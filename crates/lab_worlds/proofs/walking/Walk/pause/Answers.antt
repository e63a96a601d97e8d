use Rattle.std.proofs.Common.{rules}
use Rattle.lab_worlds.proofs.walking.Walk.pause.Goals as goal

pub returns : goal.returns
returns c = search rules
