-- Labels as addresses.
use Rattle.std.specs.Prelude.{ℕ, ◌+◌, ◌-◌, ◌==◌, ◌||◌, nat_le, if◌then◌else◌, Bool, true, false, Option, Some, None, is_some, Result, Ok, Err, List, ◌∷◌, codes, length, take, drop, position, slice_index}
use Rattle.std.specs.Option.{option_map, option_and_then}
use Rattle.lc3_word.specs.Numbers.{number, unsigned_number}
use Rattle.lc3_table.specs.Words.{is_label}
use Rattle.lab_sched.specs.ScheduleTexts.{in_range}
use Rattle.lab_sources.specs.Labels.{address_of}
use Rattle.lab_sources.specs.declared.source.Listing.{Listing}
use Rattle.lab_debug.specs.declared.command.Command.{Command}
use Rattle.lab_debug.specs.declared.command.Command.TheVariants.{Step, Until, Regs, Mem, Dis, Fds, Out, Raw, Where, Code, Labels, Go, Set, Unset}
use Rattle.lab_debug.specs.Commands.{range_from}
use Rattle.lab_debug.specs.declared.command.Refusal.{Refusal}
use Rattle.lab_debug.specs.declared.command.Refusal.TheVariants.{BadOperands, NoLabel}

-- a label, and how many words before it or behind it
pub record LabelSeen : Type 0 where
  pub name : List ℕ
  pub before : Bool
  pub count : ℕ

-- `+` or `-`
abbrev pub is_sign : ℕ → Bool
is_sign c = c == 43 || c == 45

-- 1 to 5 decimal digits
unfoldable pub distance_of : List ℕ → Option ℕ
distance_of digits = if nat_le (length digits) 5 then in_range 0 99999 (unsigned_number 10 digits) else None

-- a word that can be a label
abbrev pub named : List ℕ → Bool → ℕ → Option LabelSeen
named name before count = if is_label name then Some (record { name = name; before = before; count = count }) else None

-- a word whose first sign stands here, or that has none
abbrev pub label_split : Option ℕ → List ℕ → Option LabelSeen
label_split None word = named word false 0
label_split (Some sign) word =
    option_and_then (λ n. named (take sign word) (slice_index word sign == 45) n) (distance_of (drop (sign + 1) word))

-- a label, or a label, a sign and 1 to 5 decimal digits; a word that is a number is none
unfoldable pub label_in : List ℕ → Option LabelSeen
label_in word = if is_some (number word) then None else label_split (position is_sign word) word

-- the address so many words before another one, or behind it
abbrev pub moved : Bool → ℕ → ℕ → Option ℕ
moved true n a = if nat_le n a then Some (a - n) else None
moved false n a = if nat_le (a + n) 65535 then Some (a + n) else None

-- an address, or the refusal of one outside memory
abbrev pub or_outside : Option ℕ → Result ℕ Refusal
or_outside None = Err BadOperands
or_outside (Some a) = Ok a

-- the address that a label stands for, by the address of its name
abbrev pub address_or : LabelSeen → Option ℕ → Result ℕ Refusal
address_or label None = Err NoLabel
address_or label (Some a) = or_outside (moved label.before label.count a)

-- the address that a label of a process stands for
abbrev pub label_address : Option Listing → LabelSeen → Result ℕ Refusal
label_address None label = Err NoLabel
label_address (Some l) label = address_or label (address_of l.source.assembled.symbols label.name)

-- the process in whose memory a command has an address
abbrev pub addressed : Command → Option ℕ
addressed (Until pid address n) = Some pid
addressed (Mem range) = Some range.pid
addressed (Dis range) = Some range.pid
addressed (Code range) = Some range.pid
addressed (Set mark) = Some mark.pid
addressed (Unset mark) = Some mark.pid
addressed command = None

-- the process that a command names, unless it has a schedule
abbrev pub named_process : Command → Option ℕ
named_process (Step pid n) = Some pid
named_process (Go pid n) = Some pid
named_process (Regs pid) = Some pid
named_process (Fds pid) = Some pid
named_process (Out pid) = Some pid
named_process (Raw pid) = Some pid
named_process (Where pid) = Some pid
named_process (Labels pid) = Some pid
named_process command = addressed command

-- a command with this address in the place of its own, where its range ends within memory
abbrev pub command_at : ℕ → Command → Option Command
command_at a (Until pid address n) = Some (Until pid a n)
command_at a (Set mark) = Some (Set (record { kind = mark.kind; pid = mark.pid; address = a }))
command_at a (Unset mark) = Some (Unset (record { kind = mark.kind; pid = mark.pid; address = a }))
command_at a (Mem range) = option_map Mem (range_from range.pid a range.count)
command_at a (Dis range) = option_map Dis (range_from range.pid a range.count)
command_at a (Code range) = option_map Code (range_from range.pid a range.count)
command_at a command = None

-- the label that stands as the second operand
abbrev pub second_label : List (List ℕ) → Option LabelSeen
second_label (p ∷ a ∷ more) = label_in a
second_label ws = None

-- the operands with the address 0 in the place of the second one
abbrev pub with_zero : List (List ℕ) → List (List ℕ)
with_zero (p ∷ a ∷ more) = p ∷ codes "0" ∷ more
with_zero ws = ws
