-- What a reader for a terminal says before a read.
use Rattle.std.specs.Prelude.{ℕ, List, []}
use Rattle.lab_io.specs.declared.prompted.Prompt.{Prompt}
use Rattle.lab_io.specs.declared.prompted.Prompt.TheVariants.{Never, Once, Always}

-- the text that comes before the next read
abbrev pub prompt_text : Prompt → List ℕ
prompt_text Never = []
prompt_text (Once text) = text.now
prompt_text (Always text) = text.now

-- the prompt after a read: a text for the first read comes once
abbrev pub next_prompt : Prompt → Prompt
next_prompt Never = Never
next_prompt (Once text) = Never
next_prompt (Always text) = Always text
