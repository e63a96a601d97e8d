use Rattle.std.proofs.Common.{refl}
use Rattle.lab_worlds.proofs.WalkedEnds.{walk_end}
use Rattle.lab_worlds.proofs.ends.end_of.Goals as goal

pub returns-clause-end : goal.returns-clause-end
returns-clause-end c start h = walk_end start c.args.walk c.verdict-verdict.result _ h c.verdict-verdict.ensures.verdict c.in_default.not-Open refl
