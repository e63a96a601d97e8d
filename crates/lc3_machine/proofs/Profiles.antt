-- A process keeps its profile.
use Rattle.std.proofs.Common.{◌≡◌, ℕ, ◌==◌, nat_lt, Bool, List, Option, if◌then◌else◌, refl, subst, slice_index, map, flat_map, rules}
use Rattle.lc3_table.specs.declared.profile.Profile.{Profile}
use Rattle.lc3_table.specs.declared.instr.Instr.{Instr}
use Rattle.lc3_table.specs.declared.instr.Instr.TheVariants as instr
use Rattle.lc3_table.specs.Decoding.{instruction_at}
use Rattle.lc3_word.specs.Words.{word_sum}
use Rattle.lc3_machine.specs.declared.want.How.{How}
use Rattle.lc3_machine.specs.Process.{Process, Outcome, GoesOn, Stops, at_word, outcome_of_store, target, reg, signed_word, at_next_instruction, at_address, with_result}
use Rattle.lc3_machine.specs.Console.{getc, outcome_of_in, outcome_of_string, low_byte, packed_bytes, string_at}
use Rattle.lc3_machine.specs.Effects.{effect, effect_of_word, outcome_of_trap, next_step, is_among, is_kernel_trap}
use Rattle.lc3_machine.specs.Reply.{process_after_end}
use Rattle.lc3_word.specs.Segment.{first_device}

-- what goes on has this profile
abbrev Keeps : Profile → Outcome → Type 0
Keeps profile (GoesOn q) = q.profile ≡ profile
Keeps profile (Stops want) = Unit {0}

keeps_if : (profile : Profile) (b : Bool) (o o' : Outcome) → Keeps profile o → Keeps profile o' → Keeps profile (if b then o else o')
keeps_if profile x o y h z = search rules

keeps_at : (p : Process) (address : ℕ) (continued : ℕ → Outcome) → ((word : ℕ) → Keeps p.profile (continued word)) → Keeps p.profile (at_word p address continued)
keeps_at p address continued h = keeps_if p.profile (nat_lt address first_device) _ _ (h (slice_index p.memory address)) tt

keeps_load : (p : Process) (r address : ℕ) → Keeps p.profile (at_word p address (λ word. GoesOn (at_next_instruction (with_result p r word))))
keeps_load p r address = keeps_if p.profile (nat_lt address first_device) _ _ refl tt

keeps_stored : (p : Process) (address word : ℕ) → Keeps p.profile (outcome_of_store p address word)
keeps_stored p address word = keeps_if p.profile (nat_lt address first_device) _ _ refl tt

keeps_getc : (p : Process) (input : List ℕ) → Keeps p.profile (getc p input)
keeps_getc p x = search rules

keeps_prompted : (p : Process) (input : List ℕ) → Keeps p.profile (outcome_of_in p input)
keeps_prompted p x = search rules

keeps_string : (p : Process) (bytes : List ℕ → List ℕ) (words : Option (List ℕ)) → Keeps p.profile (outcome_of_string p bytes words)
keeps_string p bytes x = search rules

keeps_trapped : (v : ℕ) (p : Process) → Keeps p.profile (outcome_of_trap v p)
unfolding outcome_of_trap
keeps_trapped v p =
    keeps_if p.profile (v == 0x20) _ _ (keeps_getc p p.input)
    (keeps_if p.profile (v == 0x21) _ _ refl
    (keeps_if p.profile (v == 0x22) _ _ (keeps_string p (map low_byte) (string_at p.memory (reg p 0)))
    (keeps_if p.profile (v == 0x23) _ _ (keeps_prompted p p.input)
    (keeps_if p.profile (v == 0x24) _ _ (keeps_string p (flat_map packed_bytes) (string_at p.memory (reg p 0)))
    (keeps_if p.profile (v == 0x25) _ _ tt
    (keeps_if p.profile (is_kernel_trap v) _ _ tt tt))))))

profile_if : (b : Bool) (p q : Process) → q.profile ≡ p.profile → (if b then q else p).profile ≡ p.profile
profile_if x p q h = search rules

keeps_effect : (i : Instr) (p : Process) → Keeps p.profile (effect i p)
unfolding effect
keeps_effect (instr.Add dr sr1 operand) p = refl
keeps_effect (instr.And dr sr1 operand) p = refl
keeps_effect (instr.Not dr sr) p = refl
keeps_effect (instr.Br n z p' offset) p = profile_if (is_among p.cc n z p') (at_next_instruction p) (at_address p (target p offset)) refl
keeps_effect (instr.Jmp base) p = refl
keeps_effect (instr.Jsr offset) p = refl
keeps_effect (instr.Jsrr base) p = refl
keeps_effect (instr.Ld dr offset) p = keeps_load p dr (target p offset)
keeps_effect (instr.Ldi dr offset) p = keeps_at p (target p offset) _ (λ pointer. keeps_load p dr pointer)
keeps_effect (instr.Ldr dr base offset) p = keeps_load p dr (word_sum (reg p base) (signed_word offset))
keeps_effect (instr.Lea dr offset) p = refl
keeps_effect (instr.St sr offset) p = keeps_stored p (target p offset) (reg p sr)
keeps_effect (instr.Sti sr offset) p = keeps_at p (target p offset) _ (λ pointer. keeps_stored p pointer (reg p sr))
keeps_effect (instr.Str sr base offset) p = keeps_stored p (word_sum (reg p base) (signed_word offset)) (reg p sr)
keeps_effect instr.Rti p = tt
keeps_effect (instr.Trap vector) p = keeps_trapped vector p

keeps_word : (i : Option Instr) (p : Process) → Keeps p.profile (effect_of_word i p)
keeps_word x p = search (rules, keeps_effect)

keeps_step : (p : Process) → Keeps p.profile (next_step p)
unfolding next_step
keeps_step p = keeps_at p p.pc _ (λ word. keeps_word (instruction_at word) p)

-- a local step keeps the profile
pub next_profile : (p q : Process) → next_step p ≡ GoesOn q → q.profile ≡ p.profile
next_profile p q goes = subst (Keeps p.profile) goes (keeps_step p)

-- so does an end
pub ended_profile : (p : Process) (h : How) → (process_after_end p h).profile ≡ p.profile
ended_profile p x = search rules
