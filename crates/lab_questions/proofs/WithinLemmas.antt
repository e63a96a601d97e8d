-- Bytes that stand in an output, one behind the other.
use Rattle.std.proofs.Common.{ℕ, ◌≡◌, ◌<◌, ◌+◌, true, false, bytes_eq, List, ◌++◌, length, take, drop, sym, ap, ◌∙◌, arith}
use Rattle.std.proofs.lemmas.List.{take-append-drop, length-append}
use Rattle.std.proofs.lemmas.Slice.Eq.{bytes_eq-Decides}
use Rattle.std.proofs.Math.Seq.{take-append_seam, drop-append_seam}
use Rattle.lab_questions.specs.Outputs.{IsWithin}

pub within_from : (bytes output : List ℕ) (place : ℕ) → bytes_eq bytes (take (length bytes) (drop place output)) ≡ true → IsWithin bytes output
within_from bytes output place same =
    let rest = drop place output in
    let is : take (length bytes) rest ≡ bytes = sym ((bytes_eq-Decides bytes (take (length bytes) rest)).0 same) in (
      take place output,
      drop (length bytes) rest,
      sym (take-append-drop place output) ∙ ap (λ l. take place output ++ l) (sym (take-append-drop (length bytes) rest) ∙ ap (λ l. l ++ drop (length bytes) rest) is),
    )

pub within_nowhere : (bytes output : List ℕ) → ((i : ℕ) → i < length output + 1 → bytes_eq bytes (take (length bytes) (drop i output)) ≡ false) → IsWithin bytes output → ⊥
within_nowhere bytes output nowhere (front, back, is) =
    let count : length output ≡ length front + length (bytes ++ back) = ap length is ∙ length-append front (bytes ++ back) in
    let there : take (length bytes) (drop (length front) output) ≡ bytes =
    ap (λ l. take (length bytes) (drop (length front) l)) is ∙ ap (take (length bytes)) (drop-append_seam front (bytes ++ back)) ∙ take-append_seam bytes back in
    let yes = (bytes_eq-Decides bytes (take (length bytes) (drop (length front) output))).1 (sym there) in
    let both : true ≡ false = sym yes ∙ nowhere (length front) (omega (arith, count)) in
    absurd (cc)
