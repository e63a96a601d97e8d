use Rattle.std.proofs.lemmas.Result.{IfErr-at_err}
use Rattle.lab_session.proofs.state.Session.new.Goals as goal

pub returns-clause-count : goal.returns-clause-count
returns-clause-count c = (
  (λ fault count. IfErr-at_err (λ e. ⊥) fault tt),
  (λ none. absurd (IfErr-at_err (λ e. ⊥) ((rw c.as_slice.ensures.value at c.in_ok-fresh.ensures.count).1 none) tt)),
)
