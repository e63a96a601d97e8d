-- The steps between two lines.
use Rattle.std.proofs.Common.{◌≡◌, ℕ, suc, ◌+◌, Bool, true, false, List, length, set, inl, inr, sym, ap, ◌∙◌, arith}
use Rattle.std.proofs.lemmas.Bool.{cases_lt}
use Rattle.std.proofs.lemmas.List.{set-set, set_past, get_or-set_same}
use Rattle.lab_told.specs.declared.told.Told.TheVariants.{Nothing}
use Rattle.lab_moments.specs.Between.{no_steps, count_of, with_steps, idle_of, between_after, between_data}
use Rattle.lab_moments.specs.declared.past.StepCount.{StepCount}
use Rattle.lab_moments.proofs.PlainLemmas.{IsPlain, plain}

pub between-plain : (b : List StepCount) → IsPlain (between_data b)
unfolding between_data
between-plain b = search plain

abbrev counts : ℕ → ℕ → StepCount
counts local idle = record { local = local; idle = idle }

-- n steps without an effect, and one more
idle-more : (n : ℕ) (waits : Bool) (c : StepCount)
    → with_steps 0 (idle_of 1 waits) (with_steps 0 (idle_of n waits) c) ≡ with_steps 0 (idle_of (suc n) waits) c
idle-more n true c =
    let local : (c.local + 0) + 0 ≡ c.local + 0 = omega arith in
    let idle : (c.idle + n) + 1 ≡ c.idle + suc n = omega arith in
    ap (λ (l : ℕ). counts l ((c.idle + n) + 1)) local ∙ ap (counts (c.local + 0)) idle
idle-more n false c =
    let local : (c.local + 0) + 0 ≡ c.local + 0 = omega arith in
    let idle : (c.idle + 0) + 0 ≡ c.idle + 0 = omega arith in
    ap (λ (l : ℕ). counts l ((c.idle + 0) + 0)) local ∙ ap (counts (c.local + 0)) idle

-- also of a process that isn't there
pub after-more : (n p : ℕ) (waits : Bool) (b : List StepCount)
    → between_after 1 p waits Nothing (between_after n p waits Nothing b) ≡ between_after (suc n) p waits Nothing b
after-more n p waits b = elim (cases_lt p (length b)) [
  | inl h ↦
      let many : StepCount = with_steps 0 (idle_of n waits) (count_of b p) in
      set-set b p many (with_steps 0 (idle_of 1 waits) (count_of (set b p many) p))
      ∙ ap (λ (c : StepCount). set b p (with_steps 0 (idle_of 1 waits) c)) (get_or-set_same b p many no_steps h)
      ∙ ap (λ (c : StepCount). set b p c) (idle-more n waits (count_of b p))
  | inr out ↦
      ap (between_after 1 p waits Nothing) (set_past b p (with_steps 0 (idle_of n waits) (count_of b p)) out)
      ∙ set_past b p (with_steps 0 (idle_of 1 waits) (count_of b p)) out
      ∙ sym (set_past b p (with_steps 0 (idle_of (suc n) waits) (count_of b p)) out)
]
