-- Header lines, byte by byte.
use Rattle.std.proofs.Common.{◌≡◌, ℕ, ◌<◌, ◌≤◌, ◌+◌, ◌-◌, ◌==◌, arith, List, [], ◌∷◌, ◌++◌, length, Option, Some, None, refl, sym, ap, ◌∙◌, subst}
use Rattle.std.specs.Prelude.{⊤, ◌≢◌, IfSome}
use Rattle.std.specs.Io.KnownBytes.{Consumes, Keeps, IsAtEnd}
use Rattle.std.proofs.lemmas.Bool.{ne_eqb}
use Rattle.lab_frames.specs.Headers.{field_of}
use Rattle.lab_frames.specs.Frames.{Begun, over, cut, bad, header_limit, without_return, known_after, body_of, after_header, if_known, begun, frame}
use Rattle.lab_frames.specs.Private.Parts.{TakesHeader}

begun-more : (room b : ℕ) (line after : List ℕ) (known : Option ℕ) → room ≢ 0 → b ≢ 10 → begun room line known (b ∷ after) ≡ begun (room - 1) (line ++ b ∷ []) known after
unfolding begun
begun-more room b line after known some other = rw (ne_eqb room 0 some, ne_eqb b 10 other) refl

begun-line : (room : ℕ) (line after : List ℕ) (known : Option ℕ) → room ≢ 0 → length (without_return line) ≢ 0
    → begun room line known (10 ∷ after) ≡ if_known (known_after known (field_of (without_return line))) (λ k. begun (room - 1) [] k after)
unfolding begun
begun-line room line after known some text = rw (ne_eqb room 0 some, ne_eqb (length (without_return line)) 0 text) refl

begun-empty : (room : ℕ) (line after : List ℕ) (known : Option ℕ) → room ≢ 0 → length (without_return line) ≡ 0 → begun room line known (10 ∷ after) ≡ after_header known after
unfolding begun
begun-empty room line after known some empty = rw (ne_eqb room 0 some, empty) refl

begun-full : (line bytes : List ℕ) (known : Option ℕ) → begun 0 line known bytes ≡ bad
unfolding begun
begun-full line [] known = refl
begun-full line (b ∷ bytes) known = refl

begun-over : (line : List ℕ) (known : Option ℕ) → begun header_limit line known [] ≡ over
unfolding begun
begun-over line known = refl

begun-cut : (room : ℕ) (line : List ℕ) (known : Option ℕ) → room ≢ 0 → room ≢ header_limit → begun room line known [] ≡ cut
unfolding begun
begun-cut room line known some more = rw (ne_eqb room 0 some, ne_eqb room header_limit more) refl

-- the known bytes that came begin as the rest does after this much of the header lines
abbrev pub IsIn : Option (List ℕ) → Option (List ℕ) → ℕ → List ℕ → Option ℕ → Type 0
IsIn None now room line known = ⊤
IsIn (Some bytes) None room line known = ⊥
IsIn (Some bytes) (Some rest) room line known = frame bytes ≡ begun room line known rest

pub IsIn-start : (start : Option (List ℕ)) → IsIn start start header_limit [] None
IsIn-start None = tt
IsIn-start (Some bytes) = refl

pub IsIn-more : (start now next : Option (List ℕ)) (room b : ℕ) (line : List ℕ) (known : Option ℕ) → room ≢ 0 → b ≢ 10
    → IsIn start now room line known → Consumes now next (b ∷ []) → IsIn start next (room - 1) (line ++ b ∷ []) known
IsIn-more None now next room b line known some other w p = tt
IsIn-more (Some bytes) None next room b line known some other w p = absurd w
IsIn-more (Some bytes) (Some rest) None room b line known some other w p = absurd p
IsIn-more (Some bytes) (Some rest) (Some after) room b line known some other w p =
    w ∙ ap (begun room line known) p ∙ begun-more room b line after known some other

pub IsIn-line : (start now next : Option (List ℕ)) (room : ℕ) (line : List ℕ) (known k : Option ℕ) → room ≢ 0 → length (without_return line) ≢ 0
    → known_after known (field_of (without_return line)) ≡ Some k → IsIn start now room line known → Consumes now next (10 ∷ []) → IsIn start next (room - 1) [] k
IsIn-line None now next room line known k some text new w p = tt
IsIn-line (Some bytes) None next room line known k some text new w p = absurd w
IsIn-line (Some bytes) (Some rest) None room line known k some text new w p = absurd p
IsIn-line (Some bytes) (Some rest) (Some after) room line known k some text new w p =
    w ∙ ap (begun room line known) p ∙ begun-line room line after known some text ∙ ap (λ n. if_known n (λ k. begun (room - 1) [] k after)) new

pub IsIn-refused : (start now next : Option (List ℕ)) (room : ℕ) (line : List ℕ) (known : Option ℕ) → room ≢ 0 → length (without_return line) ≢ 0
    → known_after known (field_of (without_return line)) ≡ None → IsIn start now room line known → Consumes now next (10 ∷ []) → IfSome start (λ bytes. frame bytes ≡ bad)
IsIn-refused None now next room line known some text new w p = tt
IsIn-refused (Some bytes) None next room line known some text new w p = absurd w
IsIn-refused (Some bytes) (Some rest) None room line known some text new w p = absurd p
IsIn-refused (Some bytes) (Some rest) (Some after) room line known some text new w p =
    w ∙ ap (begun room line known) p ∙ begun-line room line after known some text ∙ ap (λ n. if_known n (λ k. begun (room - 1) [] k after)) new

pub IsIn-found : (start now next : Option (List ℕ)) (room : ℕ) (line : List ℕ) (n : ℕ) → room ≢ 0 → length (without_return line) ≡ 0
    → IsIn start now room line (Some n) → Consumes now next (10 ∷ []) → TakesHeader start next (Some n)
IsIn-found None now next room line n some empty w p = tt
IsIn-found (Some bytes) None next room line n some empty w p = absurd w
IsIn-found (Some bytes) (Some rest) None room line n some empty w p = absurd p
IsIn-found (Some bytes) (Some rest) (Some after) room line n some empty w p =
    w ∙ ap (begun room line (Some n)) p ∙ begun-empty room line after (Some n) some empty

pub IsIn-unknown : (start now next : Option (List ℕ)) (room : ℕ) (line : List ℕ) → room ≢ 0 → length (without_return line) ≡ 0
    → IsIn start now room line None → Consumes now next (10 ∷ []) → IfSome start (λ bytes. frame bytes ≡ bad)
IsIn-unknown None now next room line some empty w p = tt
IsIn-unknown (Some bytes) None next room line some empty w p = absurd w
IsIn-unknown (Some bytes) (Some rest) None room line some empty w p = absurd p
IsIn-unknown (Some bytes) (Some rest) (Some after) room line some empty w p =
    w ∙ ap (begun room line None) p ∙ begun-empty room line after None some empty

pub IsIn-over : (start now next : Option (List ℕ)) (line : List ℕ) (known : Option ℕ) → IsIn start now header_limit line known → IsAtEnd now → Keeps now next → TakesHeader start next None
IsIn-over None now next line known w e k = tt
IsIn-over (Some bytes) None next line known w e k = absurd w
IsIn-over (Some bytes) (Some rest) None line known w e k = absurd k
IsIn-over (Some bytes) (Some rest) (Some after) line known w e k = (w ∙ ap (begun header_limit line known) e ∙ begun-over line known, k ∙ e)

pub IsIn-cut : (start now : Option (List ℕ)) (room : ℕ) (line : List ℕ) (known : Option ℕ) → room ≢ 0 → room ≢ header_limit → IsIn start now room line known → IsAtEnd now
    → IfSome start (λ bytes. frame bytes ≡ cut)
IsIn-cut None now room line known some more w e = tt
IsIn-cut (Some bytes) None room line known some more w e = absurd w
IsIn-cut (Some bytes) (Some rest) room line known some more w e = w ∙ ap (begun room line known) e ∙ begun-cut room line known some more

pub IsIn-full : (start now : Option (List ℕ)) (line : List ℕ) (known : Option ℕ) → IsIn start now 0 line known → IfSome start (λ bytes. frame bytes ≡ bad)
IsIn-full None now line known w = tt
IsIn-full (Some bytes) None line known w = absurd w
IsIn-full (Some bytes) (Some rest) line known w = w ∙ begun-full line rest known

-- the same by how many bytes of the header lines came
left-some : (t : ℕ) → t < header_limit → (header_limit - t) ≢ 0
left-some t within none = omega (arith, within, none)

left-next : (t : ℕ) → header_limit - t - 1 ≡ header_limit - (t + 1)
left-next t = omega arith

pub Came-more : (start now next : Option (List ℕ)) (t b : ℕ) (line : List ℕ) (known : Option ℕ) → t < header_limit → b ≢ 10
    → IsIn start now (header_limit - t) line known → Consumes now next (b ∷ []) → IsIn start next (header_limit - (t + 1)) (line ++ b ∷ []) known
Came-more start now next t b line known within other w p =
    rw (← left-next t) (IsIn-more start now next (header_limit - t) b line known (left-some t within) other w p)

pub Came-line : (start now next : Option (List ℕ)) (t : ℕ) (line : List ℕ) (known k : Option ℕ) → t < header_limit → length (without_return line) ≢ 0
    → known_after known (field_of (without_return line)) ≡ Some k → IsIn start now (header_limit - t) line known → Consumes now next (10 ∷ []) → IsIn start next (header_limit - (t + 1)) [] k
Came-line start now next t line known k within text new w p =
    rw (← left-next t) (IsIn-line start now next (header_limit - t) line known k (left-some t within) text new w p)

pub Came-refused : (start now next : Option (List ℕ)) (t : ℕ) (line : List ℕ) (known : Option ℕ) → t < header_limit → length (without_return line) ≢ 0
    → known_after known (field_of (without_return line)) ≡ None → IsIn start now (header_limit - t) line known → Consumes now next (10 ∷ []) → IfSome start (λ bytes. frame bytes ≡ bad)
Came-refused start now next t line known within text new w p = IsIn-refused start now next (header_limit - t) line known (left-some t within) text new w p

pub Came-found : (start now next : Option (List ℕ)) (t : ℕ) (line : List ℕ) (n : ℕ) → t < header_limit → length (without_return line) ≡ 0
    → IsIn start now (header_limit - t) line (Some n) → Consumes now next (10 ∷ []) → TakesHeader start next (Some n)
Came-found start now next t line n within empty w p = IsIn-found start now next (header_limit - t) line n (left-some t within) empty w p

pub Came-unknown : (start now next : Option (List ℕ)) (t : ℕ) (line : List ℕ) → t < header_limit → length (without_return line) ≡ 0
    → IsIn start now (header_limit - t) line None → Consumes now next (10 ∷ []) → IfSome start (λ bytes. frame bytes ≡ bad)
Came-unknown start now next t line within empty w p = IsIn-unknown start now next (header_limit - t) line (left-some t within) empty w p

pub Came-cut : (start now : Option (List ℕ)) (t : ℕ) (line : List ℕ) (known : Option ℕ) → t < header_limit → t ≢ 0 → IsIn start now (header_limit - t) line known → IsAtEnd now
    → IfSome start (λ bytes. frame bytes ≡ cut)
Came-cut start now t line known within some w e = IsIn-cut start now (header_limit - t) line known (left-some t within) (λ all. some (omega (arith, within, all))) w e

pub Came-over : (start now next : Option (List ℕ)) (t : ℕ) (line : List ℕ) (known : Option ℕ) → t ≡ 0 → IsIn start now (header_limit - t) line known → IsAtEnd now → Keeps now next → TakesHeader start next None
Came-over start now next t line known none w e k = IsIn-over start now next line known (rw none at w) e k

pub Came-full : (start now : Option (List ℕ)) (t : ℕ) (line : List ℕ) (known : Option ℕ) → header_limit ≤ t → IsIn start now (header_limit - t) line known → IfSome start (λ bytes. frame bytes ≡ bad)
Came-full start now t line known all w = let none : header_limit - t ≡ 0 = omega (arith, all) in IsIn-full start now line known (rw none at w)
