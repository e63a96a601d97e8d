use Rattle.std.proofs.Common.{codes, rules, subst}
use Rattle.clap.specs.Words.{found_of}
use Rattle.lab_arguments.specs.Pieces.{words_in}
use Rattle.lab_arguments.specs.Private.Options.{values_in}
use Rattle.lab_arguments.specs.Private.Requirements.{AreRequired}
use Rattle.lab_arguments.proofs.RequiredLemmas.{no_values, nothing_required}
use Rattle.lab_arguments.proofs.commands.required_of.Goals as goal

pub returns-in-Some-clause-any : goal.returns-in-Some-clause-any
returns-in-Some-clause-any c none =
    let found = found_of c.args.words.now in
    let required : AreRequired (words_in (values_in found (codes "require"))) c.in-Some.required = search rules in
    nothing_required c.in-Some.required (subst (λ vs. AreRequired (words_in vs) c.in-Some.required) (no_values found (codes "require") none) required)
