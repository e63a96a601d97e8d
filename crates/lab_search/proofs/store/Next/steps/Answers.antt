use Rattle.std.proofs.Common.{subst}
use Rattle.lab_search.specs.Stored.{IsNext}
use Rattle.lab_worlds.proofs.ErrorLemmas.{still_answered}
use Rattle.lab_search.proofs.store.Next.steps.Goals as goal

pub returns-in-Nothing : goal.returns-in-Nothing
returns-in-Nothing c = record { steps = λ t k p s h. still_answered k p s (subst (IsNext t k p s) c.in-Nothing.is h) }
