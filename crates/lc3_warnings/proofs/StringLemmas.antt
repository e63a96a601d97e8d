-- One more line with which a string may begin, from the last line on.
use Rattle.std.proofs.Common.{◌≡◌, ℕ, ◌+◌, ◌-◌, ◌<◌, ◌≤◌, Bool, ◌||◌, ◌&&◌, List, ◌∷◌, length, drop, map, get_or, ap, sym, ◌∙◌, arith}
use Rattle.std.proofs.lemmas.List.{drop_more}
use Rattle.lc3_asm.specs.Views.{seen_line}
use Rattle.lc3_asm.specs.declared.line.Line.{Line as Read}
use Rattle.lc3_warnings.specs.Strings.{is_string_from, begin_string, has_label, strings}

module _ (read : List Read) (i : ℕ) (d x : Read) (more : 0 < i) (h : i ≤ length read) (is : x ≡ get_or read (i - 1) d) where
  drop-less : drop (i - 1) read ≡ x ∷ drop i read
  drop-less =
      let next : i - 1 + 1 ≡ i = omega (arith, more) in
      drop_more read (i - 1) d (omega (arith, more, h)) ∙ ap (λ y. y ∷ drop (i - 1 + 1) read) (sym is) ∙ ap (λ k. x ∷ drop k read) next

  -- whether a string begins from this line on
  pub begins-more : (was now : Bool) → was ≡ begin_string (map seen_line (drop i read)) → now ≡ is_string_from (seen_line x) was
      → now ≡ begin_string (map seen_line (drop (i - 1) read))
  begins-more was now w n = n ∙ ap (is_string_from (seen_line x)) w ∙ ap (λ ls. begin_string (map seen_line ls)) (sym drop-less)

  -- the labels with that of this line
  pub strings-more : (was now old new : Bool) (name : List ℕ) → was ≡ begin_string (map seen_line (drop i read)) → now ≡ is_string_from (seen_line x) was
      → old ≡ strings (map seen_line (drop i read)) name → new ≡ (old || (now && has_label name (seen_line x)))
      → new ≡ strings (map seen_line (drop (i - 1) read)) name
  strings-more was now old new name w n o e =
      e ∙ ap (λ b. b || (now && has_label name (seen_line x))) o
      ∙ ap (λ b. strings (map seen_line (drop i read)) name || (b && has_label name (seen_line x))) (n ∙ ap (is_string_from (seen_line x)) w)
      ∙ ap (λ ls. strings (map seen_line ls) name) (sym drop-less)
