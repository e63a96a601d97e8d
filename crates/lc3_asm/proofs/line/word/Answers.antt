use Rattle.lc3_asm.proofs.TokenSteps.{tokens-cut}
use Rattle.lc3_asm.proofs.line.word.Goals as goal

pub returns-clause-first : goal.returns-clause-first
returns-clause-first c = tokens-cut c.args.line.now _ _ c.word_len.result c.requires.begins c.word_len.ensures.count c.split_at.ensures.front c.split_at.ensures.back
