-- What an answered call does to the process that made it.
use Rattle.std.specs.Prelude.{ℕ, Bool, List, [], ◌∷◌, length, Option, Some, None}
use Rattle.lc3_machine.specs.declared.effect.Effect.{Effect}
use Rattle.lc3_machine.specs.declared.effect.Effect.TheVariants.{Plain, Message, Four, One}
use Rattle.lc3_machine.specs.declared.want.How.{How}
use Rattle.lc3_machine.specs.declared.want.How.TheVariants.{Halt}
use Rattle.lc3_machine.specs.Process.{Process, with_reg}
use Rattle.lc3_machine.specs.Console.{after_trap}
use Rattle.lc3_machine.specs.Memory.{IsWritable, with_words}

-- what R0 becomes
abbrev pub result_of : Effect → ℕ
result_of (Plain r) = r
result_of (Message at words prio_at prio) = length words.now
result_of (Four at words) = 0
result_of (One at word) = 0

-- memory with words written where an address is given
abbrev pub with_words_if : List ℕ → Option ℕ → List ℕ → List ℕ
with_words_if memory None words = memory
with_words_if memory (Some at) words = with_words memory at words

-- the memory after an effect; the words of a message come before its priority
abbrev pub memory_after : Effect → List ℕ → List ℕ
memory_after (Plain r) memory = memory
memory_after (Message at words prio_at prio) memory = with_words_if (with_words memory at words.now) prio_at (prio ∷ [])
memory_after (Four at words) memory = with_words_if memory at words
memory_after (One at word) memory = with_words memory at (word ∷ [])

-- the process after its call is answered
abbrev pub process_after_effect : Process → Effect → Process
process_after_effect p effect = after_trap (record (with_reg p 0 (result_of effect)) { memory = memory_after effect p.memory })

-- a range can be written where an address is given
abbrev pub IsWritableIf : List Bool → Option ℕ → ℕ → Type 0
IsWritableIf ready None len = Unit {0}
IsWritableIf ready (Some at) len = IsWritable ready at len

-- all that an effect writes can be written without taking memory
abbrev pub CanTake : List Bool → Effect → Type 0
CanTake ready (Plain r) = Unit {0}
CanTake ready (Message at words prio_at prio) =
    IsWritable ready at (length words.now) × IsWritableIf ready prio_at 1
CanTake ready (Four at words) = IsWritableIf ready at 4
CanTake ready (One at word) = IsWritable ready at 1

-- the process after its end: HALT is a trap, after which it stands at the next address; another end changes nothing
abbrev pub process_after_end : Process → How → Process
process_after_end p Halt = after_trap p
process_after_end p how = p
