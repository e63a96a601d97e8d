-- What is required of an output, as it is written.
use Rattle.std.specs.Prelude.{ℕ, zero, suc, ◌==◌, Bool, true, false, if◌then◌else◌, min, Option, Some, None, List, [], ◌∷◌, codes, length, map}
use Rattle.std.specs.Option.{option_map, option_and_then}
use Rattle.std.specs.List.{before_first, after_first}
use Rattle.std.specs.Str.{bytes_eq}
use Rattle.lc3_word.specs.Blanks.{words_between}
use Rattle.lc3_word.specs.Numbers.{unsigned_number}
use Rattle.lc3_table.specs.Statements.{escape, is_string_byte}
use Rattle.lab_questions.specs.declared.output.Alternative.{Alternative}
use Rattle.lab_questions.specs.declared.output.OutputPart.{OutputPart}
use Rattle.lab_questions.specs.declared.output.OutputRelation.{OutputRelation}
use Rattle.lab_questions.specs.declared.output.OutputRelation.TheVariants.{Equals, Contains}

-- whether a byte is a double quote
abbrev pub is_quote : ℕ → Bool
is_quote c = c == 34

-- a character before those of a string, where both are there
abbrev pub before : Option ℕ → Option (List ℕ × List ℕ) → Option (List ℕ × List ℕ)
before (Some c) (Some s) = Some (c ∷ s.0, s.1)
before _ _ = None

-- the characters of a string of a source, from what stands behind the quote that opens it, and what stands behind the one that closes it
abbrev pub string_in : List ℕ → Option (List ℕ × List ℕ)
string_in [] = None
string_in (c ∷ []) = if is_quote c then Some ([], []) else None
string_in (c ∷ d ∷ cs) =
    if is_quote c then Some ([], d ∷ cs) else
    if c == 92 then before (escape d) (string_in cs) else
    before (if is_string_byte c then Some c else None) (string_in (d ∷ cs))

-- `=` or `has`
abbrev pub relation_in : List ℕ → Option OutputRelation
relation_in word =
    if bytes_eq (codes "=") word then Some Equals else
    if bytes_eq (codes "has") word then Some Contains else
    None

-- a process in decimal digits; one above a thousand million, which no run has, is taken for that
abbrev pub process_in : List ℕ → Option ℕ
process_in word = option_map (λ n. min n 1_000_000_000) (unsigned_number 10 word)

-- `out`, a process, and a relation
abbrev pub subject_in : List (List ℕ) → Option (ℕ × OutputRelation)
subject_in (name ∷ process ∷ relation ∷ []) =
    if bytes_eq (codes "out") name then option_and_then (λ p. option_map (λ r. (p, r)) (relation_in relation)) (process_in process)
    else None
subject_in words = None

-- what one process must have written
abbrev pub Part : Type 0
Part = ℕ × OutputRelation × List ℕ

-- a part, as it is read
abbrev pub part_read : OutputPart → Part
part_read part = (part.process, part.relation, part.bytes.items)

-- parts
abbrev pub parts_read : List OutputPart → List Part
parts_read parts = map part_read parts

-- alternatives
abbrev pub need_read : List Alternative → List (List Part)
need_read alternatives = map (λ a. parts_read a.parts.items) alternatives

-- these, with whether they begin an alternative
abbrev pub linked : Bool → Option (ℕ × OutputRelation) → Option (Bool × ℕ × OutputRelation)
linked begins None = None
linked begins (Some subject) = Some (begins, subject.0, subject.1)

-- such words: those of the first part, or behind `or`, which begins an alternative, or behind `and`, which doesn't
abbrev pub heading_in : Bool → List (List ℕ) → Option (Bool × ℕ × OutputRelation)
heading_in true words = linked true (subject_in words)
heading_in false [] = None
heading_in false (word ∷ words) =
    if bytes_eq (codes "or") word then linked true (subject_in words) else
    if bytes_eq (codes "and") word then linked false (subject_in words) else
    None

-- these, and a string
abbrev pub front_of : Option (Bool × ℕ × OutputRelation) → Option (List ℕ × List ℕ) → Option (Bool × Part × List ℕ)
front_of (Some heading) (Some s) = Some (heading.0, (heading.1, heading.2, s.0), s.1)
front_of _ _ = None

-- the first part of a text, up to the end of its string, and what stands behind it
abbrev pub front_in : Bool → List ℕ → Option (Bool × Part × List ℕ)
front_in first text =
    front_of (heading_in first (words_between (codes " ") (before_first is_quote text))) (string_in (after_first is_quote text))

-- with a part before others, which begins an alternative or belongs to the one before it
abbrev pub with_part : Bool → Part → List Part × List (List Part) → List Part × List (List Part)
with_part true part m = ([], (part ∷ m.0) ∷ m.1)
with_part false part m = (part ∷ m.0, m.1)

-- the parts behind one that belong to its alternative, and the alternatives behind that: so many parts at most
abbrev pub more_in : ℕ → List ℕ → Option (List Part × List (List Part))
more_in n [] = Some ([], [])
more_in zero (c ∷ cs) = None
more_in (suc n) (c ∷ cs) = option_and_then (λ f. option_map (with_part f.0 f.1) (more_in n f.2)) (front_in false (c ∷ cs))

-- alternatives with `or` between them, each of parts with `and` between them
abbrev pub need_in : List ℕ → Option (List (List Part))
need_in text = option_and_then (λ f. option_map (λ m. (f.1 ∷ m.0) ∷ m.1) (more_in (length f.2) f.2)) (front_in true text)
