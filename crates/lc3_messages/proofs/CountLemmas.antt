-- How many faults and warnings are found.
use Rattle.std.proofs.Common.{ℕ, ◌≡◌, ◌+◌, ◌-◌, ◌++◌, ◌↔◌, ◌||◌, Bool, true, false, cond, not, IsTrue, List, [], ◌∷◌, length, map, if◌then◌else◌, refl, subst, sym, ap, ◌∙◌, inl, inr, arith}
use Rattle.std.proofs.lemmas.List.{length-map, length-append}
use Rattle.std.proofs.lemmas.List.Sums.{sum_by-cons, sum_by-append}
use Rattle.std.proofs.lemmas.List.Sorted.{sum_by-IsPermutation, length_permutation}
use Rattle.lc3_table.specs.declared.operation.Fault.TheVariants.{NoOrig}
use Rattle.std.specs.List.{list_any}
use Rattle.lc3_asm.specs.Texts.{lines, is_origin}
use Rattle.lc3_asm.specs.Faults.{Reading, reading, has_faults, label_faults, faults_of}
use Rattle.lc3_asm.specs.declared.passes.LineFault.{LineFault}
use Rattle.lc3_warnings.specs.declared.texts.Warning.{Warning}
use Rattle.lc3_warnings.specs.Warnings.{is_accepted}
use Rattle.lc3_messages.specs.declared.source.Finding.{Finding}
use Rattle.lc3_messages.specs.Told.{AreFrom, finding_of, finding_of_warning, Tells}
use Rattle.lc3_messages.specs.Counts.{is_error, error_count}

-- each fault is counted
all-faults : (faults : List LineFault) (told : List Finding) → AreFrom faults told → error_count told ≡ length told
all-faults [] told none = rw none refl
all-faults (f ∷ fs) told (inl (about, from)) = all-faults fs told from
all-faults (f ∷ fs) told (inr (rest, is, from)) =
    let one : error_count (finding_of f ∷ rest) ≡ 1 + error_count rest = sum_by-cons _ (finding_of f) rest in
    rw is (omega (arith, one, all-faults fs rest from))

-- no warning is counted
no-warnings : (warnings : List Warning) → error_count (map finding_of_warning warnings) ≡ 0
no-warnings [] = refl
no-warnings (w ∷ ws) =
    let one : error_count (map finding_of_warning (w ∷ ws)) ≡ 0 + error_count (map finding_of_warning ws) = sum_by-cons _ (finding_of_warning w) (map finding_of_warning ws) in
    omega (arith, one, no-warnings ws)

-- so many errors are found as faults are told
errors-told : (faults : List LineFault) (warnings : List Warning) (found : List Finding) (t : Tells faults warnings found) → error_count found ≡ length t.told
errors-told faults warnings found t =
    let others = map finding_of_warning warnings in
    let all : error_count found ≡ error_count (t.told ++ others) = sum_by-IsPermutation is-counted (t.told ++ others) found t.all in
    let split : error_count (t.told ++ others) ≡ error_count t.told + error_count others = sum_by-append is-counted t.told others in
    omega (arith, all, split, all-faults faults t.told t.from, no-warnings warnings)
  where
    is-counted : Finding → ℕ
    is-counted f = cond (is_error f.what) 1 0

-- no fault is told exactly where there is none
none-told : (faults : List LineFault) (told : List Finding) → AreFrom faults told → (told ≡ [] → faults ≡ []) → (length told ≡ 0) ↔ IsTrue (not (has_faults faults))
none-told [] told from some = (λ _. refl, λ _. ap length from)
none-told (f ∷ fs) [] from some = let none = some refl in absurd (cc)
none-told (f ∷ fs) (t ∷ ts) from some = (λ none. absurd (omega (arith, none)), λ none. absurd (cc))

either : (b : Bool) (xs : List LineFault) (f g : LineFault) → has_faults (if b then xs else f ∷ []) ≡ has_faults (if b then xs else g ∷ [])
either true xs f g = refl
either false xs f g = refl

-- it doesn't depend on the number of lines whether a text has faults
same-faults : (m n : ℕ) (r : Reading) → has_faults (faults_of m r) ≡ has_faults (faults_of n r)
same-faults m n r =
    either (has_faults r.found || list_any is_origin r.read) (r.found ++ label_faults r) (record { line = m; kind = NoOrig }) (record { line = n; kind = NoOrig })

-- errors are told of a text exactly where it has faults
pub errors-as-accepted : (text : List ℕ) (count : ℕ) (warnings : List Warning) (found : List Finding) (errors : ℕ)
    → Tells (faults_of count (reading text)) warnings found → errors ≡ error_count found → (errors ≡ 0) ↔ IsTrue (is_accepted text)
errors-as-accepted text count warnings found errors t counted =
    let faults = faults_of count (reading text) in
    let as_many = counted ∙ errors-told faults warnings found t in
    let same = same-faults count (length (lines text)) (reading text) in
    let none = none-told faults t.told t.from t.some in
    (λ zero. subst (λ b. IsTrue (not b)) same (none.0 (sym as_many ∙ zero)), λ accepted. as_many ∙ none.1 (subst (λ b. IsTrue (not b)) (sym same) accepted))

-- each warning is told
pub warnings-as-told : (faults : List LineFault) (warnings : List Warning) (found : List Finding) (counted : ℕ)
    → Tells faults warnings found → counted ≡ length found - error_count found → counted ≡ length warnings
warnings-as-told faults warnings found counted t are =
    let others = map finding_of_warning warnings in
    let every : length found ≡ length t.told + length warnings =
    length_permutation _ _ t.all ∙ length-append t.told others ∙ ap (λ n. length t.told + n) (length-map warnings finding_of_warning) in
    omega (arith, are, every, errors-told faults warnings found t)
