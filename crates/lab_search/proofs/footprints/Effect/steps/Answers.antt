use Rattle.std.proofs.Common.{subst}
use Rattle.lab_search.specs.Stored.{IsEffect}
use Rattle.lab_worlds.proofs.ErrorLemmas.{still_answered}
use Rattle.lab_search.proofs.footprints.Effect.steps.Goals as goal

pub returns-in-Nothing : goal.returns-in-Nothing
returns-in-Nothing c = record { steps = λ t k p s i h. still_answered k p s (subst (IsEffect t k p s i) c.in-Nothing.is h) }
