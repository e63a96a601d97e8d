-- Two outputs in which a run is told at once.
use Rattle.std.proofs.Common.{ℕ, List, [], ◌∷◌, ap, ◌∙◌}
use Rattle.lab_told.specs.Scenes.{Scene, next}
use Rattle.lab_told.specs.Tellings.{TellsAll}

module _ {O P : Type 0} (T : Scene → ℕ → O → O → Type 0) (U : Scene → ℕ → P → P → Type 0) where
  abbrev pub Both : Scene → ℕ → O × P → O × P → Type 0
  Both s p a b = T s p a.0 b.0 × U s p a.1 b.1

  pub both-told : (s : Scene) (ps : List ℕ) (a b : O × P) → TellsAll T s ps a.0 b.0 → TellsAll U s ps a.1 b.1 → TellsAll Both s ps a b
  both-told s [] a b t u =
      let pair : O → P → O × P = λ x y. (x, y) in
      ap (λ (x : O). pair x b.1) t ∙ ap (λ (y : P). pair a.0 y) u
  both-told s (p ∷ ps) a c t u = ((t.0, u.0), (t.1, u.1), both-told (next s p) ps (t.0, u.0) c t.2 u.2)

  pub first-told : (s : Scene) (ps : List ℕ) (a b : O × P) → TellsAll Both s ps a b → TellsAll T s ps a.0 b.0
  first-told s [] a b t = ap (λ (x : O × P). x.0) t
  first-told s (p ∷ ps) a c t = (t.0.0, t.1.0, first-told (next s p) ps t.0 c t.2)

  pub second-told : (s : Scene) (ps : List ℕ) (a b : O × P) → TellsAll Both s ps a b → TellsAll U s ps a.1 b.1
  second-told s [] a b t = ap (λ (x : O × P). x.1) t
  second-told s (p ∷ ps) a c t = (t.0.1, t.1.1, second-told (next s p) ps t.0 c t.2)
