use Rattle.lc3_table.proofs.Reading.{word_of-injective}
use Rattle.lc3_table.proofs.laws.one_word_each.Goals as goal

pub returns : goal.returns
returns c = record { injective = word_of-injective }
