-- Messages, one more.
use Rattle.std.proofs.Common.{◌≡◌, ◌<◌, ◌+◌, ℕ, List, [], ◌∷◌, ◌++◌, length, take, map, get_or, refl, ap, sym, subst, ◌∙◌}
use Rattle.std.proofs.lemmas.List.{take_more, map-append}
use Rattle.serde_json.specs.Data.{Data}
use Rattle.serde_json.specs.View.{view}
use Rattle.serde_json.specs.declared.value.Value.{Value}
use Rattle.lc3_messages.specs.declared.telling.Told.{Told}
use Rattle.lab_documents.specs.Diagnostics.{IsDiagnostic, AreOf}

AreOf-more : (ts : List Told) (t : Told) (ds : List Data) (d : Data) → AreOf ts ds → IsDiagnostic t d → AreOf (ts ++ t ∷ []) (ds ++ d ∷ [])
AreOf-more [] t ds d none one = (d, [], one, refl, ap (λ xs. xs ++ d ∷ []) none)
AreOf-more (x ∷ ts) t ds d all one =
    (all.0, all.1 ++ d ∷ [], all.2, AreOf-more ts t all.1 d all.3 one, ap (λ xs. xs ++ d ∷ []) all.4)

-- the next message, and its value
pub AreOf-next : (ts : List Told) (i : ℕ) (t : Told) (values pushed : List Value) (v : Value) → AreOf (take i ts) (map view values) → i < length ts → t ≡ get_or ts i t
    → IsDiagnostic t (view v) → pushed ≡ values ++ v ∷ [] → AreOf (take (i + 1) ts) (map view pushed)
AreOf-next ts i t values pushed v all within read one added =
    let more : take (i + 1) ts ≡ take i ts ++ t ∷ [] = take_more ts i t within ∙ ap (λ x. take i ts ++ x ∷ []) (sym read) in
    let seen : map view pushed ≡ map view values ++ view v ∷ [] = ap (map view) added ∙ map-append view values (v ∷ []) in
    subst (λ us. AreOf us (map view pushed)) (sym more) (subst (AreOf (take i ts ++ t ∷ [])) (sym seen) (AreOf-more (take i ts) t (map view values) (view v) all one))
