use Rattle.std.proofs.Common.{◌∙◌, ap, sym, slice_get}
use Rattle.std.specs.Option.{option_copied}
use Rattle.std.proofs.lemmas.Option.{MatchOption-at_none, MatchOption-at_some}
use Rattle.lc3_asm.proofs.FaultLemmas.{read_as}
use Rattle.lc3_asm.proofs.passes.first_pass.Goals as goal

pub returns-in-None-clause-read : goal.returns-in-None-clause-read
returns-in-None-clause-read c =
    MatchOption-at_none _ _ (sym (ap (λ fs. slice_get fs 0) c.faults.ensures.value) ∙ sym c.first.ensures.value ∙ ap option_copied c.in-None.is)
    (read_as c.args.source.now c.in_ok-reader.reader c.in_ok-reader.ensures.read)

pub returns-in-Some-clause-refused : goal.returns-in-Some-clause-refused
returns-in-Some-clause-refused c =
    MatchOption-at_some _ _ c.in-Some.first.now (sym (ap (λ fs. slice_get fs 0) c.faults.ensures.value) ∙ sym c.first.ensures.value ∙ ap option_copied c.in-Some.is)
    (read_as c.args.source.now c.in_ok-reader.reader c.in_ok-reader.ensures.read)
