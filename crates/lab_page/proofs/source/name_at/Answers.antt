use Rattle.std.proofs.Common.{rules}
use Rattle.serde_json.specs.declared.value.Value.{the_lemmas}
use Rattle.lab_page.proofs.SourceLemmas.{no-name}
use Rattle.lab_page.proofs.source.name_at.Goals as goal

pub returns-in-None : goal.returns-in-None
returns-in-None c = record { value = rw (no-name c.args.names.now c.args.process c.in-None.ensures.lookup.3) (search (rules, the_lemmas)) }
