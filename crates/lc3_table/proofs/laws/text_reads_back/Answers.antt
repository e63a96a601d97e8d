use Rattle.lc3_table.proofs.TextLines.{word_text-words}
use Rattle.lc3_table.proofs.laws.text_reads_back.Goals as goal

pub returns : goal.returns
returns c = record { reads_back = word_text-words }
