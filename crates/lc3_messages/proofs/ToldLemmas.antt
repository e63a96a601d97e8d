-- Faults that are told, and what is found.
use Rattle.std.proofs.Common.{ℕ, ◌≡◌, ◌<◌, ◌+◌, ◌++◌, true, List, [], ◌∷◌, length, take, get_or, inl, inr, refl, ap, arith}
use Rattle.std.proofs.lemmas.List.{length-append, take_more}
use Rattle.lc3_asm.specs.declared.passes.LineFault.{LineFault}
use Rattle.lc3_messages.specs.declared.source.Finding.{Finding}
use Rattle.lc3_messages.specs.Told.{names_a_label, finding_of, AreFrom}

-- one fault more that is told
from_kept : (fs : List LineFault) (told : List Finding) (f : LineFault) → AreFrom fs told → AreFrom (fs ++ f ∷ []) (told ++ finding_of f ∷ [])
from_kept [] told f none = inr ([], ap (λ t. t ++ finding_of f ∷ []) none, refl)
from_kept (g ∷ fs) told f (inl (about, h)) = inl (about, from_kept fs told f h)
from_kept (g ∷ fs) told f (inr (rest, is, h)) = inr (rest ++ finding_of f ∷ [], ap (λ t. t ++ finding_of f ∷ []) is, from_kept fs rest f h)

-- one fault more that is left out
from_left_out : (fs : List LineFault) (told : List Finding) (f : LineFault) → names_a_label f.kind ≡ true → AreFrom fs told → AreFrom (fs ++ f ∷ []) told
from_left_out [] told f about none = inl (about, none)
from_left_out (g ∷ fs) told f about (inl (other, h)) = inl (other, from_left_out fs told f about h)
from_left_out (g ∷ fs) told f about (inr (rest, is, h)) = inr (rest, is, from_left_out fs rest f about h)

-- the first faults of some with one more, which is told or left out
pub told_more : (fs : List LineFault) (told new : List Finding) (i : ℕ) (d : LineFault) → i < length fs → new ≡ told ++ finding_of (get_or fs i d) ∷ []
    → AreFrom (take i fs) told → AreFrom (take (i + 1) fs) new × (new ≡ [] → take (i + 1) fs ≡ [])
told_more fs told new i d within is from =
    rw (is, take_more fs i d within)
    (from_kept (take i fs) told (get_or fs i d) from, λ none. absurd (omega (arith, ap length none, length-append told (finding_of (get_or fs i d) ∷ []))))

pub told_less : (fs : List LineFault) (told : List Finding) (i : ℕ) (d : LineFault) → i < length fs → names_a_label (get_or fs i d).kind ≡ true → 0 < length told
    → AreFrom (take i fs) told → AreFrom (take (i + 1) fs) told × (told ≡ [] → take (i + 1) fs ≡ [])
told_less fs told i d within about some from =
    rw (take_more fs i d within) (from_left_out (take i fs) told (get_or fs i d) about from, λ none. absurd (omega (arith, some, ap length none)))
