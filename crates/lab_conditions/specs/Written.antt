-- Conditions as they are written.
use Rattle.std.specs.Prelude.{ℕ, ◌+◌, ◌≡◌, ◌++◌, ◌==◌, not, filter, flat_map, nat_le, min, if◌then◌else◌, Bool, Option, Some, None, Result, Ok, Err, List, [], ◌∷◌, codes, length, take, drop, position, string_bytes, IsTrue, IfSome, All, ◌<◌, false}
use Rattle.std.specs.Option.{option_map, option_and_then}
use Rattle.std.specs.List.{slice_split}
use Rattle.std.specs.Str.{bytes_eq}
use Rattle.lc3_word.specs.Numbers.{unsigned_number}
use Rattle.ipc_names.specs.declared.errno.Errno.{Errno}
use Rattle.ipc_names.specs.Name.{name_read}
use Rattle.ipc_errors.specs.Names.{error_named}
use Rattle.lab_conditions.specs.declared.condition.Relation.{Relation}
use Rattle.lab_conditions.specs.declared.condition.Relation.TheVariants.{More, Less, Equal}
use Rattle.lab_conditions.specs.declared.condition.State.{State}
use Rattle.lab_conditions.specs.declared.condition.State.TheVariants.{Blocked, Ended, Crashed, At}
use Rattle.lab_conditions.specs.declared.condition.Part.{Part}
use Rattle.lab_conditions.specs.declared.condition.Part.TheVariants.{Semaphore, Queue, Of, MoreThan}
use Rattle.lab_conditions.specs.Conditions.{NamesOnly}
use Rattle.lab_conditions.specs.declared.never.Never.{Never}
use Rattle.lab_conditions.specs.declared.never.Never.TheVariants.{Holds, Lost, Refused}

-- whether a word is this one
unfoldable pub is_word : List ℕ → List ℕ → Bool
is_word name word = bytes_eq name word

-- a number in decimal digits, at most 65535
unfoldable pub number_in : List ℕ → Option ℕ
number_in word = option_and_then (λ n. if nat_le n 65535 then Some n else None) (unsigned_number 10 word)

-- the number of a process in decimal digits; one above a thousand million, which no run has, is taken for that
unfoldable pub process_in : List ℕ → Option ℕ
process_in word = option_map (λ n. min n 1_000_000_000) (unsigned_number 10 word)

-- one to four hexadecimal digits
unfoldable pub hexadecimal_in : List ℕ → Option ℕ
hexadecimal_in digits = if nat_le (length digits) 4 then unsigned_number 16 digits else None

-- an address: `x`, and such digits
unfoldable pub address_in : List ℕ → Option ℕ
address_in [] = None
address_in (c ∷ digits) = if c == 120 then hexadecimal_in digits else None

-- from one address to another, the first not above the second
abbrev pub from_to : ℕ → ℕ → Option State
from_to first last = if nat_le first last then Some (At first last) else None

-- whether a byte is `-`
abbrev pub is_dash : ℕ → Bool
is_dash c = c == 45

-- a word whose first `-` stands here, or that has none
abbrev pub range_at : Option ℕ → List ℕ → Option State
range_at None word = option_and_then (λ a. from_to a a) (address_in word)
range_at (Some dash) word =
    option_and_then (λ first. option_and_then (λ last. from_to first last) (address_in (drop (dash + 1) word)))
    (address_in (take dash word))

-- `A`, or `A-B`
unfoldable pub range_in : List ℕ → Option State
range_in word = range_at (position is_dash word) word

-- a state of processes, with the words behind it
abbrev pub Front : Type 0
Front = State × List (List ℕ)

-- `A` or `A-B`, behind `at`
abbrev pub place_in : List (List ℕ) → Option Front
place_in [] = None
place_in (word ∷ rest) = option_map (λ x. (x, rest)) (range_in word)

-- `blocked`, `ended`, `crashed`, `at A` or `at A-B`
abbrev pub state_in : List (List ℕ) → Option Front
state_in [] = None
state_in (word ∷ rest) =
    if is_word (codes "blocked") word then Some (Blocked, rest) else
    if is_word (codes "ended") word then Some (Ended, rest) else
    if is_word (codes "crashed") word then Some (Crashed, rest) else
    if is_word (codes "at") word then place_in rest else
    None

-- `>`, `<` or `=`
unfoldable pub relation_in : List ℕ → Option Relation
relation_in word =
    if is_word (codes ">") word then Some More else
    if is_word (codes "<") word then Some Less else
    if is_word (codes "=") word then Some Equal else
    None

-- the name that was read
abbrev pub name_of : Result (List ℕ) Errno → Option (List ℕ)
name_of (Ok name) = Some name
name_of (Err e) = None

-- a name, how a number stands to another, and the other
abbrev pub Compared : Type 0
Compared = List ℕ × Relation × ℕ

-- `NAME > N`, `NAME < N` or `NAME = N`
abbrev pub compared_in : List (List ℕ) → Option Compared
compared_in (name ∷ sign ∷ number ∷ []) =
    option_and_then (λ n. option_and_then (λ r. option_map (λ x. (n, r, x)) (number_in number)) (relation_in sign))
    (name_of (name_read name))
compared_in words = None

-- a state of one process, with nothing behind it
abbrev pub state_of : ℕ → Front → Option Part
state_of p (x, []) = Some (Of p x)
state_of p (x, (word ∷ rest)) = None

-- a state of some process, or behind it `> N`
abbrev pub state_of_some : Front → Option Part
state_of_some (x, []) = Some (MoreThan x 0)
state_of_some (x, (sign ∷ number ∷ [])) = if is_word (codes ">") sign then option_map (λ n. MoreThan x n) (number_in number) else None
state_of_some (x, rest) = None

-- a state of this process, or of some process where the first word is no number
abbrev pub states_in : Option ℕ → List ℕ → List (List ℕ) → Option Part
states_in (Some p) word rest = option_and_then (state_of p) (state_in rest)
states_in None word rest = option_and_then state_of_some (state_in (word ∷ rest))

-- `P` and a state, or a state of some process
abbrev pub processes_in : List (List ℕ) → Option Part
processes_in [] = None
processes_in (word ∷ rest) = states_in (process_in word) word rest

-- a part of a condition
unfoldable pub part_in : List (List ℕ) → Option Part
part_in [] = None
part_in (word ∷ rest) =
    if is_word (codes "sem") word then option_map (λ x. Semaphore x.0 x.1 x.2) (compared_in rest) else
    if is_word (codes "mq") word then option_map (λ x. Queue x.0 x.1 x.2) (compared_in rest) else
    processes_in (word ∷ rest)

-- each of these is a part of a condition
unfoldable pub parts_in : List (List (List ℕ)) → Option (List Part)
parts_in [] = Some []
parts_in (words ∷ rest) = option_and_then (λ part. option_map (λ parts. part ∷ parts) (parts_in rest)) (part_in words)

-- whether a piece between blanks has a byte
abbrev pub has_byte : List ℕ → Bool
has_byte piece = not (length piece == 0)

-- the words of a text, between blanks
abbrev pub words : List ℕ → List (List ℕ)
words text = filter has_byte (slice_split (λ c. c == 32) text)

-- the parts of the condition that a text writes, with `and` between them
abbrev pub condition_in : List ℕ → Option (List Part)
condition_in text = parts_in (slice_split (is_word (codes "and")) (words text))

-- words with one blank between each two
abbrev pub spaced : List (List ℕ) → List ℕ
spaced [] = []
spaced (word ∷ rest) = word ++ flat_map (λ w. 32 ∷ w) rest

-- whether the words are `lost` alone
abbrev pub are_lost : List (List ℕ) → Bool
are_lost (word ∷ []) = is_word (codes "lost") word
are_lost words = false

-- `refused`, or behind it the name of an error
abbrev pub refused_in : List (List ℕ) → Option (Option Errno)
refused_in (word ∷ []) = if is_word (codes "refused") word then Some None else None
refused_in (word ∷ name ∷ []) =
    if is_word (codes "refused") word then option_map (λ e. Some e) (error_named name) else None
refused_in words = None

-- of this process, or of any where the first word is no number
abbrev pub refused_by : Option ℕ → List ℕ → List (List ℕ) → Option (Option ℕ × Option Errno)
refused_by (Some p) word rest = option_map (λ e. (Some p, e)) (refused_in rest)
refused_by None word rest = option_map (λ e. (None, e)) (refused_in (word ∷ rest))

-- the process whose call is refused and the error, where they are named: `refused`, `refused E`, `P refused` or
-- `P refused E`
unfoldable pub refusal_in : List (List ℕ) → Option (Option ℕ × Option Errno)
refusal_in [] = None
refusal_in (word ∷ rest) = refused_by (process_in word) word rest

-- a text writes what must never be so: `lost`, a call that is refused, or a condition
abbrev pub Writes : List ℕ → Never → Type 0
Writes text (Holds c) = (condition_in text ≡ Some c.parts.items) × (string_bytes c.text ≡ spaced (words text))
Writes text Lost = IsTrue (are_lost (words text))
Writes text (Refused r) =
    (refusal_in (words text) ≡ Some (r.process, r.error)) × (string_bytes r.text ≡ spaced (words text))

-- what must never be so, as it is written
abbrev pub never_text : Never → List ℕ
never_text (Holds c) = string_bytes c.text
never_text Lost = codes "lost"
never_text (Refused r) = string_bytes r.text

-- what must never be so names no process but those below a number
abbrev pub NamesOnlyIn : ℕ → Never → Type 0
NamesOnlyIn count (Holds c) = All (NamesOnly count) c.parts.items
NamesOnlyIn count Lost = Unit {0}
NamesOnlyIn count (Refused r) = IfSome r.process (λ p. p < count)
