-- What was asked has no floats.
use Rattle.std.proofs.Common.{List, refl}
use Rattle.lab_moments.proofs.PlainLemmas.{IsPlain, plain}
use Rattle.lab_page.specs.Asked.{asked_data, asked_list, shown_data}
use Rattle.lab_page.specs.declared.ends.Asked.{Asked}
use Rattle.lab_page.specs.declared.ends.ShownRun.{ShownRun}
use Rattle.lab_page.specs.declared.ends.ShownRun.TheVariants.{End, Other}

shown-plain : (r : ShownRun) → IsPlain (shown_data r)
shown-plain (End n) = refl
shown-plain (Other n) = refl

pub asked-plain : (all : List Asked) → IsPlain (asked_list all)
unfolding asked_data
asked-plain all = search (plain, shown-plain)
