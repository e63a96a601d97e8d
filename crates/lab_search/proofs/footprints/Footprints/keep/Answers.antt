use Rattle.std.proofs.Common.{All, sym, subst}
use Rattle.std.proofs.lemmas.List.Elements.{All-push}
use Rattle.lab_search.specs.declared.footprints.FootprintEffect.{FootprintEffect}
use Rattle.lab_search.specs.Stored.{IsFootprintEffect}
use Rattle.lab_search.proofs.footprints.Footprints.keep.Goals as goal

pub returns : goal.returns
returns c = record {
  known = λ t known made.
      subst (λ xs. All (λ (m : FootprintEffect). IsFootprintEffect t m.footprint m.effect) xs) (sym c.in_ok-push.ensures.items)
      (All-push (λ (m : FootprintEffect). IsFootprintEffect t m.footprint m.effect) c.args.self.now.made.items _ known made);
}
