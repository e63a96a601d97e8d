-- What is required of outputs, read one by one.
use Rattle.std.proofs.Common.{ℕ, zero, suc, ◌≡◌, ◌<◌, ◌≤◌, Bool, true, false, List, [], ◌∷◌, ◌++◌, Option, Some, None, length, refl, sym, ap, ◌∙◌, append_assoc, append-nil, bytes_eq, cond, nat_lt, position, take, drop, ◌+◌, ◌-◌, arith}
use Rattle.std.specs.List.{position_or_len, before_first, after_first}
use Rattle.std.proofs.lemmas.Grind.{common_steps}
use Rattle.std.proofs.lemmas.List.{drop_all, take_all, length-drop}
use Rattle.std.proofs.lemmas.Slice.Eq.{bytes_eq-Decides}
use Rattle.std.specs.Prelude.{option_map, option_and_then}
use Rattle.lab_questions.specs.Written.{is_quote, before, Part, front_in, with_part, more_in, need_in}
use Rattle.lab_questions.specs.Private.Readings.{joined, ended, left, behind_these}

-- a string, with what stands behind it
abbrev string_of : List ℕ → List ℕ → Option (List ℕ × List ℕ)
string_of rest cs = Some (cs, rest)

-- a character more of a string
pub before-append : (front new : List ℕ) (b : ℕ) (o : Option (List ℕ × List ℕ)) → new ≡ front ++ b ∷ []
    → option_map (behind_these new) o ≡ option_map (behind_these front) (before (Some b) o)
before-append front new b None e = refl
before-append front new b (Some s) e =
    ap (λ cs. option_map (behind_these cs) (Some s)) e ∙ ap (string_of s.1) (append_assoc front (b ∷ []) s.0)

-- a part more
pub join : (alternatives : List (List Part)) (parts : List Part) (begins : Bool) (part : Part) (m : List Part × List (List Part))
    → joined (ended begins alternatives parts) (left begins parts ++ part ∷ []) m ≡ joined alternatives parts (with_part begins part m)
join alternatives parts true part m =
    append_assoc alternatives (parts ∷ []) ((part ∷ m.0) ∷ m.1) ∙ ap (λ ps. alternatives ++ ps ∷ (part ∷ m.0) ∷ m.1) (sym (append-nil parts))
join alternatives parts false part m = ap (λ ps. alternatives ++ ps ∷ m.1) (append_assoc parts (part ∷ []) m.0)

-- a part that is read, and what stands behind it
pub more-step : (n : ℕ) (text rest : List ℕ) (begins : Bool) (part : Part) → length text ≤ n → 0 < length text → length rest < length text
    → front_in false text ≡ Some (begins, part, rest)
    → (k : ℕ) × (length rest ≤ k) × (more_in n text ≡ option_map (with_part begins part) (more_in k rest))
more-step n [] rest begins part enough some shorter is = absurd (omega (arith, some))
more-step zero (c ∷ cs) rest begins part enough some shorter is = absurd (omega (arith, enough))
more-step (suc n) (c ∷ cs) rest begins part enough some shorter is =
    (n, omega (arith, enough, shorter), ap (λ o. option_and_then (λ f. option_map (with_part f.0 f.1) (more_in n f.2)) o) is)

pub more-none : (n : ℕ) (text : List ℕ) → 0 < length text → front_in false text ≡ None → more_in n text ≡ None
more-none n [] some is = absurd (omega (arith, some))
more-none zero (c ∷ cs) some is = refl
more-none (suc n) (c ∷ cs) some is = ap (λ o. option_and_then (λ f. option_map (with_part f.0 f.1) (more_in n f.2)) o) is

pub more-end : (n : ℕ) (text : List ℕ) → length text ≤ 0 → more_in n text ≡ Some ([], [])
more-end n [] past = refl
more-end n (c ∷ cs) past = absurd (omega (arith, past))

-- what is joined to what was read
pub joins : (f g : List Part × List (List Part) → List (List Part)) (h : List Part × List (List Part) → List Part × List (List Part)) (o : Option (List Part × List (List Part)))
    → ((m : List Part × List (List Part)) → f m ≡ g (h m)) → option_map f o ≡ option_map g (option_map h o)
joins f g h None each = refl
joins f g h (Some m) each = ap Some (each m)

-- a word that is this one
pub same_word : (name word : List ℕ) → bytes_eq name word ≡ true → word ≡ name
same_word name word is = sym ((bytes_eq-Decides name word).0 is)

-- and one that isn't
pub other_word : (name word : List ℕ) → bytes_eq name word ≡ false → name ≡ word → ⊥
other_word name word other is = let same : bytes_eq name word ≡ true = (bytes_eq-Decides name word).1 is in absurd (cc)

by_cond : (b : Bool) (n i : ℕ) → cond b (Some n) None ≡ Some i → n ≡ i
by_cond true n i is = let some : ◌≡◌ {A = Option ℕ} (Some n) (Some i) = is in cc
by_cond false n i is = let some : ◌≡◌ {A = Option ℕ} None (Some i) = is in absurd (cc)

by_none : (b : Bool) (n : ℕ) → cond b (Some n) None ≡ None → b ≡ false
by_none true n is = let some : ◌≡◌ {A = Option ℕ} (Some n) None = is in absurd (cc)
by_none false n is = refl

quote_at : (text : List ℕ) (i : ℕ) → position is_quote text ≡ Some i → position_or_len is_quote text ≡ i
quote_at text i is = by_cond (nat_lt (position_or_len is_quote text) (length text)) (position_or_len is_quote text) i is

-- what stands before the first quote of a text, and behind it
pub before_quote : (text : List ℕ) (i : ℕ) → position is_quote text ≡ Some i → take i text ≡ before_first is_quote text
before_quote text i is = ap (λ n. take n text) (sym (quote_at text i is))

pub behind_quote : (text : List ℕ) (i : ℕ) → position is_quote text ≡ Some i → take (length text - (i + 1)) (drop (i + 1) text) ≡ after_first is_quote text
behind_quote text i is =
    take_all (length text - (i + 1)) (drop (i + 1) text) (omega (arith, length-drop (i + 1) text)) ∙ ap (λ n. drop (n + 1) text) (sym (quote_at text i is))

pub behind_none : (text : List ℕ) → position is_quote text ≡ None → after_first is_quote text ≡ []
behind_none text is =
    let n = position_or_len is_quote text in
    let no : nat_lt n (length text) ≡ false = by_none (nat_lt n (length text)) n is in
    let past : length text ≤ n + 1 = grind (arith, common_steps) in
    drop_all (n + 1) text past

-- the first part of a need
pub need_init : (text rest : List ℕ) (begins : Bool) (part : Part) → front_in true text ≡ Some (begins, part, rest)
    → (n : ℕ) × (length rest ≤ n) × (option_map (joined [] (part ∷ [])) (more_in n rest) ≡ need_in text)
need_init text rest begins part is =
    (length rest, omega arith, ap (λ o. option_and_then (λ f. option_map (λ m. (f.1 ∷ m.0) ∷ m.1) (more_in (length f.2) f.2)) o) (sym is))

-- a part more
pub need_step : (whole : Option (List (List Part))) (alternatives news : List (List Part)) (parts more : List Part) (begins : Bool) (part : Part) (n : ℕ) (rest after : List ℕ)
    → length rest ≤ n → 0 < length rest → length after < length rest → front_in false rest ≡ Some (begins, part, after)
    → news ≡ ended begins alternatives parts → more ≡ left begins parts ++ part ∷ [] → option_map (joined alternatives parts) (more_in n rest) ≡ whole
    → (k : ℕ) × (length after ≤ k) × (option_map (joined news more) (more_in k after) ≡ whole)
need_step whole alternatives news parts more begins part n rest after enough some shorter is ends adds before =
    let step = more-step n rest after begins part enough some shorter is in (
      step.0,
      step.1,
      ap (λ these. option_map (joined these more) (more_in step.0 after)) ends ∙ ap (λ ps. option_map (joined (ended begins alternatives parts) ps) (more_in step.0 after)) adds
          ∙ joins (joined (ended begins alternatives parts) (left begins parts ++ part ∷ [])) (joined alternatives parts) (with_part begins part) (more_in step.0 after) (join alternatives parts begins part)
          ∙ ap (option_map (joined alternatives parts)) (sym step.2) ∙ before,
    )

-- what isn't read
pub need_none : (whole : Option (List (List Part))) (alternatives : List (List Part)) (parts : List Part) (n : ℕ) (rest : List ℕ) → 0 < length rest → front_in false rest ≡ None
    → option_map (joined alternatives parts) (more_in n rest) ≡ whole → None ≡ whole
need_none whole alternatives parts n rest some is before = ap (option_map (joined alternatives parts)) (sym (more-none n rest some is)) ∙ before

-- the end
pub need_end : (whole : Option (List (List Part))) (alternatives news : List (List Part)) (parts : List Part) (n : ℕ) (rest : List ℕ) → length rest ≤ 0
    → option_map (joined alternatives parts) (more_in n rest) ≡ whole → news ≡ alternatives ++ parts ∷ [] → Some news ≡ whole
need_end whole alternatives news parts n rest past before adds =
    ap Some (adds ∙ ap (λ ps. alternatives ++ ps ∷ []) (sym (append-nil parts)))
    ∙ ap (option_map (joined alternatives parts)) (sym (more-end n rest past)) ∙ before
