-- The run of an image by itself.
use Rattle.std.proofs.Common.{◌≡◌, ◌≢◌, ℕ, Bool, true, false, List, [], ◌∷◌, ◌++◌, Option, Some, None, Result, Ok, Err, refl, replicate, subst, sym, ◌∙◌, cond}
use Rattle.std.specs.Prelude.{IfSome, position, nat_lt, length, ◌+◌}
use Rattle.std.specs.List.{filter_map}
use Rattle.lab_hex.specs.Fault.{Explains}
use Rattle.lab_hex.specs.Hex.{is_bad, number_of, segment_of, image_of}
use Rattle.lab_hex.specs.declared.run.CliFault.{CliFault}
use Rattle.lab_hex.specs.declared.run.CliFault.TheVariants.{Empty, BadWord, TooLong, TooLarge, Read, Write, NoMemory}
use Rattle.lc3_word.specs.Segment.{Segment, first_device}
use Rattle.lc3_table.specs.declared.profile.Profile.TheVariants.{A}
use Rattle.lab_sched.specs.Worlds.{WorldState, run}
use Rattle.lab_sched.specs.Schedules.{steps_of}
use Rattle.lab_sched.specs.ScheduleTexts.{words}
use Rattle.lab_sched.specs.Starts.{fresh}
use Rattle.lab_sched.specs.declared.process.Program.{Program}
use Rattle.lab_sched.specs.declared.schedule.Block.{Block}
use Rattle.lab_hex.specs.Run.{world_after}

-- the one program of a laboratory, run by a schedule of n steps
pub ran_alone : (n : ℕ) (image : Segment) (p : Program) (f w v : WorldState) (before schedule : List Block)
    → p.image ≡ image → p.input.items ≡ [] → f ≡ fresh A (p ∷ []) → w ≡ f
    → before ≡ [] → steps_of schedule ≡ steps_of before ++ replicate n 0 → v ≡ run w (steps_of schedule)
    → v ≡ world_after n image
unfolding world_after steps_of
ran_alone n image p f w v before schedule pi pe fe we be se ve = rw (ve, se, be, we, fe, pi, pe) refl

-- a fault that a text explains is explained by the text that came, where that is known
pub explained : (e : CliFault) (text : List ℕ) (known : Option (List ℕ)) (read write : Bool) → IfSome known (λ all. text ≡ all)
    → Explains e (Some text) false false → Explains e known read write
explained TooLarge text None read write same h = tt
explained TooLarge text (Some all) read write same h = subst (λ bytes. Explains TooLarge (Some bytes) false false) same h
explained Read text known read write same h = cc
explained Write text known read write same h = cc
explained NoMemory text known read write same h = tt
explained Empty text None read write same h = tt
explained Empty text (Some all) read write same h = subst (λ bytes. image_of bytes ≡ Err Empty) same h
explained (BadWord at) text None read write same h = tt
explained (BadWord at) text (Some all) read write same h = subst (λ bytes. image_of bytes ≡ Err (BadWord at)) same h
explained TooLong text None read write same h = tt
explained TooLong text (Some all) read write same h = subst (λ bytes. image_of bytes ≡ Err TooLong) same h

-- a text's own faults
abbrev IsOfText : CliFault → Type 0
IsOfText TooLarge = ⊥
IsOfText Read = ⊥
IsOfText Write = ⊥
IsOfText NoMemory = ⊥
IsOfText e = Unit {0}

bad_word : (text : List ℕ) (n : ℕ) → position is_bad (words text) ≡ Some n → image_of text ≡ Err (BadWord (n + 1))
unfolding image_of
bad_word text n at = rw at refl

good_words : (text : List ℕ) → position is_bad (words text) ≡ None → image_of text ≡ segment_of (filter_map number_of (words text))
unfolding image_of
good_words text at = rw at refl

fault_of_segment : (numbers : List ℕ) (e : CliFault) → segment_of numbers ≡ Err e → IsOfText e
fault_of_segment [] e h = let same : Empty ≡ e = cc in subst IsOfText same tt
fault_of_segment (origin ∷ words) e h = by (nat_lt first_device (origin + length words)) h
  where
    by : (b : Bool) → cond {A = Result Segment CliFault} b (Err TooLong) (Ok (record { origin = origin; words = words })) ≡ Err e → IsOfText e
    by true h = let same : TooLong ≡ e = cc in subst IsOfText same tt
    by false h = cc

of_text : (text : List ℕ) (e : CliFault) → image_of text ≡ Err e → IsOfText e
of_text text e h = by (position is_bad (words text)) refl
  where
    by : (o : Option ℕ) → position is_bad (words text) ≡ o → IsOfText e
    by (Some n) at =
        let is = bad_word text n at in
        let same : BadWord (n + 1) ≡ e = cc in
        subst IsOfText same tt
    by None at = fault_of_segment (filter_map number_of (words text)) e (sym (good_words text at) ∙ h)

-- what reading a text answers is explained by the text
pub fault_of_text : (e : CliFault) (text : List ℕ) → (e ≢ NoMemory → image_of text ≡ Err e) → Explains e (Some text) false false
fault_of_text NoMemory text h = tt
fault_of_text TooLarge text h = let is : image_of text ≡ Err TooLarge = h (λ same. cc) in absurd (of_text text TooLarge is)
fault_of_text Read text h = let is : image_of text ≡ Err Read = h (λ same. cc) in absurd (of_text text Read is)
fault_of_text Write text h = let is : image_of text ≡ Err Write = h (λ same. cc) in absurd (of_text text Write is)
fault_of_text Empty text h = h (λ same. cc)
fault_of_text (BadWord at) text h = h (λ same. cc)
fault_of_text TooLong text h = h (λ same. cc)
