use Rattle.lc3_table.proofs.Reading.{instruction_at-sound, instruction_at-word_of}
use Rattle.lc3_table.proofs.laws.decoding_is_equality.Goals as goal

pub returns : goal.returns
returns c = record { same = λ w i. (instruction_at-sound w i, λ h. instruction_at-word_of i w h.0 h.1) }
