use Rattle.std.proofs.Common.{[], rules, subst, sym, ◌∙◌}
use Rattle.std.proofs.lemmas.List.{take_all}
use Rattle.lab_questions.specs.Private.Presences.{AreNamed}
use Rattle.lab_questions.proofs.OrderLemmas.{named_none, named_next}
use Rattle.lab_questions.proofs.watching.named_in.Goals as goal

pub loop-basis-init : goal.loop-basis-init
loop-basis-init c = subst (AreNamed c.deref-basis-items.result.now []) (sym c.new-bases.ensures.items) (named_none c.deref-basis-items.result.now)

pub loop-basis-preserved-then-contains : goal.loop-basis-preserved-then-contains
loop-basis-preserved-then-contains c =
    let olds = c.loop-basis.bases.items in
    named_next c.deref-basis-items.result.now olds olds c.loop-basis.basis-index c.basis-item.result c.loop-basis-test.true c.basis-item.is (search rules)
    c.loop-basis.invariant

pub loop-basis-preserved : goal.loop-basis-preserved
loop-basis-preserved c =
    named_next c.deref-basis-items.result.now c.loop-basis.bases.items c.push.new.self.items c.loop-basis.basis-index c.basis-item.result c.loop-basis-test.true
    c.basis-item.is (search rules) c.loop-basis.invariant

pub returns : goal.returns
returns c =
    let bases = c.loop-basis.bases.items in
    let names = c.deref-basis-items.result.now in
    let whole = take_all c.loop-basis.basis-index names c.loop-basis-test.false in
    record {
      named = subst (λ os. AreNamed os os bases) (c.deref-basis-items.ensures.value ∙ c.in_ok-repeated.ensures.bases)
          (subst (λ os. AreNamed names os bases) whole c.loop-basis.invariant);
    }
