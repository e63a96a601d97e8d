use Rattle.std.proofs.Common.{map, rules, subst, ◌∙◌}
use Rattle.std.proofs.lemmas.List.{take_all}
use Rattle.serde_json.specs.View.{view}
use Rattle.serde_json.specs.declared.value.Value.{the_lemmas}
use Rattle.lab_documents.specs.Diagnostics.{AreOf}
use Rattle.lab_documents.proofs.MessageLemmas.{AreOf-next}
use Rattle.lab_documents.proofs.messages.diagnostics.Goals as goal

pub loop-told-preserved : goal.loop-told-preserved
loop-told-preserved c =
    AreOf-next c.deref-told-items.result.now c.loop-told.told-index c.told-item.result c.loop-told.values.items _ _
    c.loop-told.invariant c.loop-told-test.true c.told-item.is c.in_ok-diagnostic.ensures.diagnostic c.in_ok-push.ensures.items

pub returns : goal.returns
returns c =
    let told = c.deref-told-items.result.now in
    record {
      told = record {
        told = c.in_ok-told.told.items;
        found = c.in_ok-told.ensures.told;
        items = map view c.loop-told.values.items;
        each = subst (λ ts. AreOf ts (map view c.loop-told.values.items)) (take_all c.loop-told.told-index told c.loop-told-test.false ∙ c.deref-told-items.ensures.value) c.loop-told.invariant;
        whole = search (rules, the_lemmas);
      };
    }
