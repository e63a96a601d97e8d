use Rattle.std.proofs.Common.{refl, sym, subst, Some}
use Rattle.lab_questions.specs.declared.limit.LimitMet.TheVariants.{Steps}
use Rattle.lab_commands.specs.Told.{NamesMet}
use Rattle.lab_commands.proofs.explore.limit_of.Goals as goal

pub returns-in_ok-standing_at-in-Steps : goal.returns-in_ok-standing_at-in-Steps
returns-in_ok-standing_at-in-Steps c =
    let s = c.in_ok-standing_at-in-Steps.field-0 in
    record { named = subst (λ m. NamesMet c.args.limits (Some m) (Some (Steps c.in-Steps.run'.pid c.args.limits.steps s))) (sym c.in-Steps.is) (s, refl) }
