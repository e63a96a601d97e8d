use Rattle.std.proofs.Common.{sym, rules, arith, refl, ◌≡◌}
use Rattle.lab_debug.proofs.PendingLemmas.{left-nil, left-same}
use Rattle.std.proofs.lemmas.Bool.Decides.{nat_tests}
use Rattle.lab_debug.proofs.script.Pending.is_at_end.Goals as goal

pub returns-then-self-clause-end : goal.returns-then-self-clause-end
returns-then-self-clause-end g c = (
  (λ same. grind (arith, same)),
  (λ none.
      let same = left-nil c.self.inside.bytes _ c.self.inside.start c.self.inside.end (sym c.self.view_is) c.self.invariant.0 (search (rules, c.self.invariant.1, c.self.told)) none in
      grind (arith, same, c.if-self.true)),
)

pub returns-clause-end : goal.returns-clause-end
returns-clause-end g c = (
  (λ same.
      let equal : 0 ≡ c.in_ok-self-inside.field-0 = grind (arith, nat_tests, same) in
      left-same c.read.new.buf _ 0 c.in_ok-self-inside.field-0 refl equal),
  (λ none.
      let same = left-nil c.read.new.buf _ 0 c.in_ok-self-inside.field-0 refl (search (rules)) c.in_ok-self-inside.ensures.bound.0 none in
      grind (arith, nat_tests, same)),
)
