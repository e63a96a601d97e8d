use Rattle.std.proofs.Common.{rules}
use Rattle.std.proofs.lemmas.Fn.{filter_same}
use Rattle.lab_notes.proofs.objects.keep_present.Goals as goal

pub returns : goal.returns
returns c = record { kept = filter_same _ _ _ (λ x b f' k. search rules) _ _ c.retain.ensures.filtered }
