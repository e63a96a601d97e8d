use Rattle.std.proofs.Common.{rules}
use Rattle.serde_json.specs.declared.value.Value.{the_lemmas}
use Rattle.lab_page.proofs.SourceLemmas.{source_at_shown}
use Rattle.lab_page.proofs.source.source_at.Goals as goal

pub returns-in-None : goal.returns-in-None
returns-in-None c = record { value = rw (source_at_shown c.args.sources.now c.args.process, ← c.in-None.ensures.source) (search (rules, the_lemmas)) }
