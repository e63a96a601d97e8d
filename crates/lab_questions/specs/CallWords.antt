-- What is asked of calls, as it is written.
use Rattle.std.specs.Prelude.{ℕ, ◌-◌, ◌==◌, ◌≡◌, ◌⊎◌, ◌++◌, ◌&&◌, nat_le, nat_lt, if◌then◌else◌, Bool, true, false, Option, Some, None, List, [], ◌∷◌, codes, flat_map, length, map, slice_index, take}
use Rattle.std.specs.Option.{option_and_then, option_to_list}
use Rattle.std.specs.List.{slice_split}
use Rattle.std.specs.Str.{bytes_eq}
use Rattle.ipc_traps.specs.Services.{service_name}
use Rattle.lc3_word.specs.Blanks.{words_between}
use Rattle.lc3_word.specs.Numbers.{unsigned_number}
use Rattle.lab_ways.specs.declared.calls.CallKind.{CallKind}
use Rattle.lab_ways.specs.declared.wanted.Pattern.{Pattern}
use Rattle.lab_ways.specs.declared.wanted.Pattern.TheVariants.{AtLeast, InOrder, Together, NoneOf, NoneBut}
use Rattle.lab_ways.specs.declared.wanted.Wanted.{Wanted}
use Rattle.lab_questions.specs.Written.{process_in}

-- a kind of calls: the name of the call, and the object where there is one
abbrev pub kind_words : CallKind → List (List ℕ)
kind_words kind = service_name kind.service ∷ option_to_list kind.object

-- a number of calls in decimal digits: 1 to 1000
abbrev pub call_count : List ℕ → Option ℕ
call_count word = option_and_then (λ n. if nat_le 1 n && nat_le n 1000 then Some n else None) (unsigned_number 10 word)

-- the words `>=` and a number
abbrev pub IsCount : List (List ℕ) → ℕ → Type 0
IsCount words n = (number : List ℕ) × (words ≡ codes ">=" ∷ number ∷ []) × (call_count number ≡ Some n)

-- the pieces of words between those that are this one
abbrev pub pieces : List ℕ → List (List ℕ) → List (List (List ℕ))
pieces word words = slice_split (bytes_eq word) words

-- words that begin with these, and behind them write these things, with one word between each two
abbrev pub Lists : {A : Type 0} → List (List ℕ) → List ℕ → (A → List (List ℕ)) → List A → List (List ℕ) → Type 0
Lists front between written things words = (rest : List (List ℕ)) × (words ≡ front ++ rest) × (pieces between rest ≡ map written things)

-- a name alone
abbrev pub name_words : List ℕ → List (List ℕ)
name_words name = name ∷ []

-- the words behind a process, or all where there is none
abbrev pub Say : List (List ℕ) → Pattern → Type 0
Say words (AtLeast kind n) =
    (count : List (List ℕ)) × (words ≡ codes "calls" ∷ kind_words kind ++ count) × (((count ≡ []) × (n ≡ 1)) ⊎ IsCount count n)
Say words (InOrder kinds) = Lists (codes "calls" ∷ codes "in" ∷ codes "order" ∷ []) (codes ",") kind_words kinds.items words
Say words (Together names) = Lists (codes "holds" ∷ []) (codes "and") name_words names.items words
Say words (NoneOf kinds) = Lists (codes "calls" ∷ []) (codes "or") kind_words kinds.items words
Say words (NoneBut kinds) = Lists (codes "calls" ∷ codes "other" ∷ codes "than" ∷ []) (codes ",") kind_words kinds.items words

-- whether it says what must never be so, and not what must be
abbrev pub forbids : Pattern → Bool
forbids (AtLeast kind n) = false
forbids (InOrder kinds) = false
forbids (Together names) = false
forbids (NoneOf kinds) = true
forbids (NoneBut kinds) = true

-- words, of which the first is the process where there is one
abbrev pub SayOf : Option ℕ → List (List ℕ) → Pattern → Type 0
SayOf None words pattern = Say words pattern
SayOf (Some p) words pattern =
    (number : List ℕ) × (rest : List (List ℕ)) × (words ≡ number ∷ rest) × (process_in number ≡ Some p) × Say rest pattern

-- a word; a comma at the end of another is a word of its own
abbrev pub comma_apart : List ℕ → List (List ℕ)
comma_apart word =
    if nat_lt 1 (length word) && (slice_index word (length word - 1) == 44) then take (length word - 1) word ∷ codes "," ∷ [] else word ∷ []

-- the words of a text, with blanks between them
abbrev pub words_in : List ℕ → List (List ℕ)
words_in text = flat_map comma_apart (words_between (codes " ") text)

-- a text asks for this
abbrev pub Asks : List ℕ → Wanted → Type 0
Asks text wanted = SayOf wanted.process (words_in text) wanted.pattern
