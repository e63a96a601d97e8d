use Rattle.std.proofs.Common.{ap, ◌∙◌, take}
use Rattle.std.proofs.lemmas.List.{take_min}
use Rattle.lc3_messages.specs.Told.{most_told}
use Rattle.lc3_messages.proofs.telling.first_findings.Goals as goal

pub returns : goal.returns
returns c = record { first = ap (λ n. take n c.args.findings.now) c.min.ensures ∙ take_min most_told c.args.findings.now }
