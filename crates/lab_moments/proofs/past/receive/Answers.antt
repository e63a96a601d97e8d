use Rattle.std.proofs.Common.{◌∙◌, ap, rules}
use Rattle.std.proofs.lemmas.Fn.{filter_same}
use Rattle.lab_moments.specs.Pasts.{received_by}
use Rattle.lab_moments.proofs.past.receive.Goals as goal

pub returns-in-Some : goal.returns-in-Some
returns-in-Some c =
    let is = ap received_by c.in-Calls.is ∙ c.in-Some.is in
    record { left = rw is (filter_same _ _ _ (λ x b f' k. search rules) _ _ c.retain.ensures.filtered) }
