-- A step doesn't read the output so far: what it writes stands behind that.
use Rattle.std.proofs.Common.{◌≡◌, ℕ, Bool, List, [], ◌∷◌, ◌++◌, Option, Some, None, refl, sym, ap, ◌∙◌, ◌==◌, nat_lt, map, flat_map, if◌then◌else◌, append_assoc, append-nil, rules}
use Rattle.lc3_word.specs.Segment.{first_device}
use Rattle.lc3_word.specs.Words.{word_sum}
use Rattle.lc3_table.specs.declared.instr.Instr.{Instr}
use Rattle.lc3_table.specs.declared.instr.Instr.TheVariants as instr
use Rattle.lc3_machine.specs.declared.want.Want.{Want}
use Rattle.lc3_machine.specs.declared.want.How.{How}
use Rattle.lc3_machine.specs.Process.{Process, Outcome, GoesOn, Stops, reg, target, signed_word, with_output, with_whole_output, at_address, at_next_instruction, outcome_of_load, outcome_of_store}
use Rattle.lc3_machine.specs.Console.{low_byte, packed_bytes, string_at, after_trap, getc, outcome_of_in, outcome_of_string}
use Rattle.lc3_machine.specs.Effects.{is_among, is_kernel_trap, outcome_of_trap, effect, effect_of_word, next_step}
use Rattle.lc3_machine.specs.Reply.{process_after_end}

-- a process that has written these bytes before its own output
abbrev pub behind : List ℕ → Process → Process
behind o p = with_whole_output p (o ++ p.output)

-- an outcome of such a process
abbrev pub outcome_behind : List ℕ → Outcome → Outcome
outcome_behind o (GoesOn p) = GoesOn (behind o p)
outcome_behind o (Stops w) = Stops w

-- outcomes by a test
behind_if : (b : Bool) (o : List ℕ) (x y z w : Outcome) → x ≡ outcome_behind o z → y ≡ outcome_behind o w → (if b then x else y) ≡ outcome_behind o (if b then z else w)
behind_if u o x y z w e f = search rules

behind_load : (p : Process) (o : List ℕ) (r address : ℕ) → outcome_of_load (behind o p) r address ≡ outcome_behind o (outcome_of_load p r address)
behind_load p o r address = behind_if (nat_lt address first_device) o _ _ _ _ refl refl

behind_store : (p : Process) (o : List ℕ) (address word : ℕ) → outcome_of_store (behind o p) address word ≡ outcome_behind o (outcome_of_store p address word)
behind_store p o address word = behind_if (nat_lt address first_device) o _ _ _ _ refl refl

behind_branch : (b : Bool) (p : Process) (o : List ℕ) (address : ℕ) → (if b then at_address (behind o p) address else at_next_instruction (behind o p)) ≡ behind o (if b then at_address p address else at_next_instruction p)
behind_branch x p o address = search rules

-- what is written stands behind all that
written : (p : Process) (o bytes : List ℕ) → after_trap (with_output (behind o p) bytes) ≡ behind o (after_trap (with_output p bytes))
written p o bytes = ap (λ bs. with_whole_output (after_trap p) bs) (append_assoc o p.output bytes)

behind_getc : (p : Process) (o input : List ℕ) → getc (behind o p) input ≡ outcome_behind o (getc p input)
behind_getc p o x = search rules

behind_in : (p : Process) (o input : List ℕ) → outcome_of_in (behind o p) input ≡ outcome_behind o (outcome_of_in p input)
behind_in p o x = search (rules, written)

behind_string : (p : Process) (o : List ℕ) (bytes : List ℕ → List ℕ) (s : Option (List ℕ)) → outcome_of_string (behind o p) bytes s ≡ outcome_behind o (outcome_of_string p bytes s)
behind_string p o bytes x = search (rules, written)

behind_trap : (v : ℕ) (p : Process) (o : List ℕ) → outcome_of_trap v (behind o p) ≡ outcome_behind o (outcome_of_trap v p)
unfolding outcome_of_trap
behind_trap v p o =
    behind_if (v == 0x20) o _ _ _ _ (behind_getc p o p.input)
    (behind_if (v == 0x21) o _ _ _ _ (ap GoesOn (written p o (low_byte (reg p 0) ∷ [])))
    (behind_if (v == 0x22) o _ _ _ _ (behind_string p o (map low_byte) (string_at p.memory (reg p 0)))
    (behind_if (v == 0x23) o _ _ _ _ (behind_in p o p.input)
    (behind_if (v == 0x24) o _ _ _ _ (behind_string p o (flat_map packed_bytes) (string_at p.memory (reg p 0)))
    (behind_if (v == 0x25) o _ _ _ _ refl
    (behind_if (is_kernel_trap v) o _ _ _ _ refl refl))))))

behind_effect : (i : Instr) (p : Process) (o : List ℕ) → effect i (behind o p) ≡ outcome_behind o (effect i p)
unfolding effect
behind_effect (instr.Add dr sr1 operand) p o = refl
behind_effect (instr.And dr sr1 operand) p o = refl
behind_effect (instr.Not dr sr) p o = refl
behind_effect (instr.Br n z p' offset) p o = ap GoesOn (behind_branch (is_among p.cc n z p') p o (target p offset))
behind_effect (instr.Jmp base) p o = refl
behind_effect (instr.Jsr offset) p o = refl
behind_effect (instr.Jsrr base) p o = refl
behind_effect (instr.Ld dr offset) p o = behind_load p o dr (target p offset)
behind_effect (instr.Ldi dr offset) p o = behind_if (nat_lt (target p offset) first_device) o _ _ _ _ (behind_load p o dr _) refl
behind_effect (instr.Ldr dr base offset) p o = behind_load p o dr (word_sum (reg p base) (signed_word offset))
behind_effect (instr.Lea dr offset) p o = refl
behind_effect (instr.St sr offset) p o = behind_store p o (target p offset) (reg p sr)
behind_effect (instr.Sti sr offset) p o = behind_if (nat_lt (target p offset) first_device) o _ _ _ _ (behind_store p o _ (reg p sr)) refl
behind_effect (instr.Str sr base offset) p o = behind_store p o (word_sum (reg p base) (signed_word offset)) (reg p sr)
behind_effect instr.Rti p o = refl
behind_effect (instr.Trap vector) p o = behind_trap vector p o

behind_word : (i : Option Instr) (p : Process) (o : List ℕ) → effect_of_word i (behind o p) ≡ outcome_behind o (effect_of_word i p)
behind_word x p o = search (rules, behind_effect)

-- the next step of a process that has written more before is the same, but for what was written before
pub step_behind : (p : Process) (o : List ℕ) → next_step (behind o p) ≡ outcome_behind o (next_step p)
unfolding next_step
step_behind p o = behind_if (nat_lt p.pc first_device) o _ _ _ _ (behind_word _ p o) refl

pub end_behind : (h : How) (p : Process) (o : List ℕ) → process_after_end (behind o p) h ≡ behind o (process_after_end p h)
end_behind x p o = search rules

-- what an outcome wants, if the process stops
abbrev pub want_of : Outcome → Option Want
want_of (GoesOn p) = None
want_of (Stops w) = Some w

want_behind : (x : Outcome) (o : List ℕ) → want_of (outcome_behind o x) ≡ want_of x
want_behind x o = search rules

-- a process that has written only these bytes wants what it would if it had written none
want_written : (p : Process) (o : List ℕ) → want_of (next_step (with_whole_output p o)) ≡ want_of (next_step (with_whole_output p []))
want_written p o =
    ap (λ bs. want_of (next_step (with_whole_output p bs))) (sym (append-nil o)) ∙ ap want_of (step_behind (with_whole_output p []) o)
    ∙ want_behind (next_step (with_whole_output p [])) o

-- what a process wants at its next step doesn't depend on its output
pub same_want : (p : Process) (o : List ℕ) → want_of (next_step (with_whole_output p o)) ≡ want_of (next_step p)
same_want p o = want_written p o ∙ sym (want_written p p.output)

-- an outcome that wants something stops for it
pub stops_of : (x : Outcome) (w : Want) → want_of x ≡ Some w → x ≡ Stops w
stops_of x w e = search rules

-- a process stops for the same with another output
pub stops_whatever_output : (p : Process) (o : List ℕ) (w : Want) → next_step p ≡ Stops w → next_step (with_whole_output p o) ≡ Stops w
stops_whatever_output p o w stops = stops_of (next_step (with_whole_output p o)) w (same_want p o ∙ ap want_of stops)
