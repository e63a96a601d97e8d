-- Documents as they are seen.
use Rattle.std.proofs.Common.{◌≡◌, ◌+◌, ℕ, zero, suc, Bool, not, List, [], ◌∷◌, ◌++◌, map, length, take, drop, slice_set, refl, ap, sym, ◌∙◌, cond}
use Rattle.std.specs.List.{position, position_or_len, prefix_len, remove}
use Rattle.std.proofs.lemmas.List.{map-append, map-set, drop-map, length-map}
use Rattle.lab_server.specs.declared.documents.Open.{Open}
use Rattle.lab_server.specs.Documents.{Document}
use Rattle.lab_server.specs.Private.Seen.{document_seen}

prefix_seen : (t : Document → Bool) (ds : List Open) → prefix_len t (map document_seen ds) ≡ prefix_len (λ d. t (document_seen d)) ds
prefix_seen t [] = refl
prefix_seen t (d ∷ ds) = ap (λ n. cond (t (document_seen d)) (1 + n) 0) (prefix_seen t ds)

pub position_seen : (p : Document → Bool) (ds : List Open) → position p (map document_seen ds) ≡ position (λ d. p (document_seen d)) ds
position_seen p ds =
    let front : position_or_len p (map document_seen ds) ≡ position_or_len (λ d. p (document_seen d)) ds = prefix_seen (λ d. not (p d)) ds in
    let all : length (map document_seen ds) ≡ length ds = length-map ds document_seen in
    rw (front, all) refl

take_seen : (n : ℕ) (ds : List Open) → map document_seen (take n ds) ≡ take n (map document_seen ds)
take_seen zero ds = refl
take_seen (suc n) [] = refl
take_seen (suc n) (d ∷ ds) = ap (λ xs. document_seen d ∷ xs) (take_seen n ds)

pub remove_seen : (ds : List Open) (n : ℕ) → map document_seen (remove ds n) ≡ remove (map document_seen ds) n
remove_seen ds n =
    map-append document_seen (take n ds) (drop (suc n) ds) ∙ ap (λ xs. xs ++ map document_seen (drop (suc n) ds)) (take_seen n ds)
    ∙ ap (λ xs. take n (map document_seen ds) ++ xs) (sym (drop-map document_seen (suc n) ds))

pub set_seen : (ds : List Open) (n : ℕ) (d : Open) → map document_seen (slice_set ds n d) ≡ slice_set (map document_seen ds) n (document_seen d)
set_seen ds n d = map-set document_seen ds n d
