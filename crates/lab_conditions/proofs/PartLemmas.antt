-- Parts of a condition, one by one.
use Rattle.std.proofs.Common.{◌≡◌, ℕ, List, [], ◌∷◌, ◌++◌, Option, Some, None, refl, ap, append-nil, rules, arith}
use Rattle.std.specs.Option.{option_map}
use Rattle.lab_conditions.specs.declared.condition.Part.{Part}
use Rattle.lab_conditions.specs.Written.{part_in, parts_in}
use Rattle.std.proofs.lemmas.Grind.{common_steps}

-- parts found so far, and those that are read
abbrev pub with_front : List Part → Option (List Part) → Option (List Part)
with_front found read = option_map (λ parts. found ++ parts) read

pub front-start : (read : Option (List Part)) → read ≡ with_front [] read
front-start x = search rules

more : (found : List Part) (part : Part) (read : Option (List Part)) → with_front found (option_map (λ parts. part ∷ parts) read) ≡ with_front (found ++ part ∷ []) read
more found part x = grind (arith, common_steps)

pub front-more : (found : List Part) (words : List (List ℕ)) (rest : List (List (List ℕ))) (part : Part) → Some part ≡ part_in words
    → with_front found (parts_in (words ∷ rest)) ≡ with_front (found ++ part ∷ []) (parts_in rest)
unfolding parts_in
front-more found words rest part e = rw (← e) (more found part (parts_in rest))

pub front-none : (found : List Part) (words : List (List ℕ)) (rest : List (List (List ℕ))) → None ≡ part_in words → with_front found (parts_in (words ∷ rest)) ≡ None
unfolding parts_in
front-none found words rest e = rw (← e) refl

pub front-end : (found : List Part) → with_front found (parts_in []) ≡ Some found
unfolding parts_in
front-end found = ap (λ ps. Some ps) (append-nil found)
