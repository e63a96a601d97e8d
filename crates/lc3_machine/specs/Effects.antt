-- The effect of each instruction on a process (appendix A.3), and what its next step is.
use Rattle.std.specs.Prelude.{ℕ, ◌-◌, bit_and, Bool, ◌&&◌, ◌||◌, ◌==◌, nat_le, if◌then◌else◌, Option, Some, None}
use Rattle.lc3_word.specs.declared.code.Cc.{Cc}
use Rattle.lc3_word.specs.declared.code.Cc.TheVariants.{N, Z, P}
use Rattle.lc3_table.specs.declared.instr.Operand.{Operand}
use Rattle.lc3_table.specs.declared.instr.Operand.TheVariants.{Register, Number}
use Rattle.lc3_table.specs.declared.instr.Instr.{Instr}
use Rattle.lc3_table.specs.declared.instr.Instr.TheVariants as instr
use Rattle.lc3_table.specs.Decoding.{instruction_at}
use Rattle.lc3_table.specs.declared.profile.Profile.{Profile}
use Rattle.lc3_table.specs.declared.profile.Profile.TheVariants as profile
use Rattle.lc3_word.specs.Words.{word_sum}
use Rattle.lc3_word.specs.Codes.{cc_of}
use Rattle.lc3_machine.specs.declared.want.Want.TheVariants.{Trap, End}
use Rattle.lc3_machine.specs.declared.want.How.TheVariants.{Halt, Illegal, BadTrap}
use Rattle.lc3_machine.specs.Process.{Process, Outcome, GoesOn, Stops, signed_word, reg, target, at_next_instruction, at_address, with_reg, with_result, at_routine, at_word, outcome_of_load, outcome_of_store}
use Rattle.lc3_machine.specs.Console.{getc, out, puts, outcome_of_in, putsp}

-- whether the condition code that is set is among the three flags of a branch (A.3: BR)
abbrev pub is_among : Cc → Bool → Bool → Bool → Bool
is_among N n z p = n
is_among Z n z p = z
is_among P n z p = p

-- the process that goes on elsewhere if the code that is set is among the flags, and else at the next instruction
abbrev pub process_after_branch : Process → Bool → Bool → Bool → ℕ → Process
process_after_branch p n z p' address = if is_among p.cc n z p' then at_address p address else at_next_instruction p

-- whether a trap vector is a call of the kernel: x40 to x46 for queues, x50 to x56 for semaphores
abbrev pub is_kernel_trap : ℕ → Bool
is_kernel_trap v = (nat_le 0x40 v && nat_le v 0x46) || (nat_le 0x50 v && nat_le v 0x56)

-- the effect of a trap, by its vector (table A.2 for x20 to x25)
unfoldable pub outcome_of_trap : ℕ → Process → Outcome
outcome_of_trap v p =
    if v == 0x20 then getc p p.input
    else (if v == 0x21 then out p
    else (if v == 0x22 then puts p
    else (if v == 0x23 then outcome_of_in p p.input
    else (if v == 0x24 then putsp p
    else (if v == 0x25 then Stops (End Halt)
    else (if is_kernel_trap v then Stops (Trap v)
    else Stops (End BadTrap)))))))

-- the word of the second operand of ADD and AND
abbrev pub operand_value : Process → Operand → ℕ
operand_value p (Register sr2) = reg p sr2
operand_value p (Number imm5) = signed_word imm5

-- the condition code after LEA: that of the address in profile A, and in profile B the one that was set
abbrev pub code_after_lea : Profile → Cc → ℕ → Cc
code_after_lea profile.A cc address = cc_of address
code_after_lea profile.B cc address = cc

-- the process with an address in a register by LEA
abbrev pub with_address : Process → ℕ → ℕ → Process
with_address p r address = record (with_reg p r address) { cc = code_after_lea p.profile p.cc address }

-- the effect of an instruction (A.3); JSRR reads its base register before it writes R7
unfoldable pub effect : Instr → Process → Outcome
effect (instr.Add dr sr1 operand) p = GoesOn (at_next_instruction (with_result p dr (word_sum (reg p sr1) (operand_value p operand))))
effect (instr.And dr sr1 operand) p = GoesOn (at_next_instruction (with_result p dr (bit_and (reg p sr1) (operand_value p operand))))
effect (instr.Not dr sr) p = GoesOn (at_next_instruction (with_result p dr (0xFFFF - reg p sr)))
effect (instr.Br n z p' offset) p = GoesOn (process_after_branch p n z p' (target p offset))
effect (instr.Jmp base) p = GoesOn (at_address p (reg p base))
effect (instr.Jsr offset) p = GoesOn (at_routine p (target p offset))
effect (instr.Jsrr base) p = GoesOn (at_routine p (reg p base))
effect (instr.Ld dr offset) p = outcome_of_load p dr (target p offset)
effect (instr.Ldi dr offset) p = at_word p (target p offset) (λ pointer. outcome_of_load p dr pointer)
effect (instr.Ldr dr base offset) p = outcome_of_load p dr (word_sum (reg p base) (signed_word offset))
effect (instr.Lea dr offset) p = GoesOn (at_next_instruction (with_address p dr (target p offset)))
effect (instr.St sr offset) p = outcome_of_store p (target p offset) (reg p sr)
effect (instr.Sti sr offset) p = at_word p (target p offset) (λ pointer. outcome_of_store p pointer (reg p sr))
effect (instr.Str sr base offset) p = outcome_of_store p (word_sum (reg p base) (signed_word offset)) (reg p sr)
effect instr.Rti p = Stops (End Illegal)
effect (instr.Trap vector) p = outcome_of_trap vector p

-- the effect of a word; one that is no instruction is an illegal opcode
abbrev pub effect_of_word : Option Instr → Process → Outcome
effect_of_word None p = Stops (End Illegal)
effect_of_word (Some i) p = effect i p

-- what the next step of a process is: the effect of the word at its program counter
unfoldable pub next_step : Process → Outcome
next_step p = at_word p p.pc (λ word. effect_of_word (instruction_at word) p)
