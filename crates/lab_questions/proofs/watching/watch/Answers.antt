use Rattle.std.proofs.Common.{◌∷◌, [], ◌++◌, ◌∙◌, append-nil, append_assoc, ap, refl, subst, sym}
use Rattle.std.proofs.lemmas.List.{take_all}
use Rattle.lab_conditions.specs.declared.never.Never.TheVariants.{Holds}
use Rattle.lab_worlds.specs.Calls.{Alongside}
use Rattle.lab_questions.specs.Bases.{all_bases}
use Rattle.lab_questions.specs.Private.Presences.{AreNamed, AsksFor}
use Rattle.lab_questions.proofs.Watched.{along_next}
use Rattle.lab_questions.proofs.watching.watch.Goals as goal

pub loop-basis-init : goal.loop-basis-init
loop-basis-init c = ([], sym (append-nil c.args.conditions.now.items), λ p. tt)

pub loop-basis-preserved : goal.loop-basis-preserved
loop-basis-preserved c =
    let before = c.loop-basis.invariant in
    let one = Holds (record { text = c.new-text.result; parts = c.in_ok-parts.parts }) in (
      before.0 ++ one ∷ [],
      c.in_ok-push.ensures.items ∙ ap (λ all. all ++ one ∷ []) before.1 ∙ append_assoc c.args.conditions.now.items before.0 (one ∷ []),
      along_next AsksFor c.deref-basis-items.result.now before.0 _ c.loop-basis.basis-index c.basis-item.result one before.2 c.loop-basis-test.true c.basis-item.is
          (c.in_ok-parts.ensures.items ∙ ap (λ part. part ∷ []) c.in_ok-part.ensures.part) refl,
    )

pub returns : goal.returns
returns c =
    let bases = c.deref-basis-items.result.now in
    let before = c.loop-basis.invariant in
    record {
      asks = (
        before.0,
        before.1,
        subst (λ xs. Alongside AsksFor xs before.0) (take_all c.loop-basis.basis-index bases c.loop-basis-test.false ∙ c.deref-basis-items.ensures.value) before.2,
      );
      named = subst (λ ns. AreNamed (all_bases ns) (all_bases ns) c.in_ok-bases.bases.items) c.deref.ensures.value c.in_ok-bases.ensures.named;
    }
