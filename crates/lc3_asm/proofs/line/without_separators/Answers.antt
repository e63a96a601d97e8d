use Rattle.lc3_asm.proofs.TokenSteps.{tokens-rest, rest_begun}
use Rattle.lc3_asm.proofs.line.without_separators.Goals as goal

pub returns-clause-same : goal.returns-clause-same
returns-clause-same c = tokens-rest c.args.line.now c.separators_len.result c.separators_len.ensures.count

pub returns-clause-begun : goal.returns-clause-begun
returns-clause-begun c = rest_begun c.args.line.now c.separators_len.result c.separators_len.ensures.count
