use Rattle.std.proofs.Common.{refl}
use Rattle.lab_worlds.proofs.WalkLemmas.{walk_none}
use Rattle.lab_worlds.proofs.walking.Walk.at.Goals as goal

pub returns-clause-walk : goal.returns-clause-walk
returns-clause-walk c = walk_none c.args.world c.args.world c.new.result c.new.ensures.empty refl
