-- The commands of a script, as they are written.
use Rattle.std.specs.Prelude.{ℕ, ◌+◌, ◌-◌, ◌&&◌, nat_le, if◌then◌else◌, ℤ, pos, negsuc, Bool, Option, Some, None, Result, Ok, Err, List, [], ◌∷◌, codes}
use Rattle.std.specs.Option.{option_map, option_and_then}
use Rattle.std.specs.Str.{bytes_eq}
use Rattle.lc3_word.specs.Blanks.{words_between}
use Rattle.lc3_word.specs.Numbers.{number}
use Rattle.ipc_kernel.specs.Limits.{process_max}
use Rattle.lab_sched.specs.declared.schedule.Block.{Block}
use Rattle.lab_sched.specs.declared.schedule.SchedFault.{SchedFault}
use Rattle.lab_sched.specs.Schedules.{most_steps}
use Rattle.lab_sched.specs.ScheduleTexts.{reading_of_words}
use Rattle.lab_debug.specs.declared.command.Command.{Command}
use Rattle.lab_debug.specs.declared.command.Command.TheVariants.{Step, Run, Play, Until, Back, Regs, Mem, Dis, Procs, Mqs, Sems, Fds, Out, Raw, Where, Code, Labels, Go, Set, Unset, Marks, Steps, Taken, Profile, Help, Quit}
use Rattle.lab_session.specs.declared.places.Range.{Range}
use Rattle.lab_session.specs.declared.marks.Mark.{Mark}
use Rattle.lab_session.specs.declared.marks.MarkKind.{MarkKind}
use Rattle.lab_session.specs.declared.marks.MarkKind.TheVariants.{Break, Watch}
use Rattle.lab_debug.specs.declared.command.Refusal.{Refusal}
use Rattle.lab_debug.specs.declared.command.Refusal.TheVariants.{UnknownCommand, BadOperands}

-- the words of a line, between blanks, tabs and carriage returns
abbrev pub words_of : List ℕ → List (List ℕ)
words_of line = words_between (codes " \t\r") line

-- a number from low to high
abbrev pub within : ℕ → ℕ → ℤ → Option ℕ
within low high (pos n) = if nat_le low n && nat_le n high then Some n else None
within low high (negsuc n) = None

-- a number as a source line writes it, from low to high
unfoldable pub number_within : ℕ → ℕ → List ℕ → Option ℕ
number_within low high word = option_and_then (within low high) (number word)

-- a process, as a word writes it
abbrev pub process_of : List ℕ → Option ℕ
process_of word = number_within 0 (process_max - 1) word

-- an address, as a word writes it
abbrev pub address_of : List ℕ → Option ℕ
address_of word = number_within 0 65535 word

-- the most steps that a command asks for
abbrev pub step_count_max : ℕ
step_count_max = 1_000_000

-- a number of steps, as a word writes it
abbrev pub count_of : List ℕ → Option ℕ
count_of word = number_within 1 step_count_max word

-- the operand where there is just one
abbrev pub one_of : List (List ℕ) → Option (List ℕ)
one_of (a ∷ []) = Some a
one_of ws = None

-- the operands where there are just two
abbrev pub two_of : List (List ℕ) → Option (List ℕ × List ℕ)
two_of (a ∷ b ∷ []) = Some (a, b)
two_of ws = None

-- the operands where there are just three
abbrev pub three_of : List (List ℕ) → Option (List ℕ × List ℕ × List ℕ)
three_of (a ∷ b ∷ c ∷ []) = Some (a, b, c)
three_of ws = None

-- P N: a process and a number of steps
abbrev pub step_of : List (List ℕ) → Option Command
step_of ws =
    option_and_then (λ w. option_and_then (λ p. option_map (λ n. Step p n) (count_of w.1))
    (process_of w.0)) (two_of ws)

-- P ADDR N: a process, an address and a number of steps
abbrev pub until_of : List (List ℕ) → Option Command
until_of ws =
    option_and_then (λ w. option_and_then (λ p. option_and_then (λ a.
    option_map (λ n. Until p a n) (count_of w.2)) (address_of w.1)) (process_of w.0)) (three_of ws)

-- N: a number of steps, of any schedule; one where it isn't given
abbrev pub back_of : List (List ℕ) → Option Command
back_of [] = Some (Back 1)
back_of (w ∷ ws) =
    option_and_then (λ word. option_map Back (number_within 1 most_steps word)) (one_of (w ∷ ws))

-- whether a word is this one, in lower case
unfoldable pub is_named : List ℕ → List ℕ → Bool
is_named name word = bytes_eq name word

-- P: a process
abbrev pub process_operand : List (List ℕ) → Option ℕ
process_operand ws = option_and_then process_of (one_of ws)

-- a command on a process
abbrev pub of_process : (ℕ → Command) → List (List ℕ) → Option Command
of_process make ws = option_map make (process_operand ws)

-- P, or --raw P: a process, whose output is shown so that it can be printed, or as it is
abbrev pub out_of : List (List ℕ) → Option Command
out_of (flag ∷ p ∷ []) = if is_named (codes "--raw") flag then option_map Raw (process_of p) else None
out_of ws = of_process Out ws

-- so many words from an address on, where they end within memory
abbrev pub range_from : ℕ → ℕ → ℕ → Option Range
range_from p a n = if nat_le (a + n) 65536 then Some (record { pid = p; address = a; count = n }) else None

-- P ADDR N: a range of memory of a process
abbrev pub range_of : List (List ℕ) → Option Range
range_of ws =
    option_and_then (λ w. option_and_then (λ p. option_and_then (λ a.
    option_and_then (range_from p a) (number_within 1 256 w.2)) (address_of w.1)) (process_of w.0)) (three_of ws)

-- a command on a range of memory
abbrev pub of_range : (Range → Command) → List (List ℕ) → Option Command
of_range make ws = option_map make (range_of ws)

-- P ADDR: a mark of this kind at an address of a process
abbrev pub mark_of : MarkKind → List (List ℕ) → Option Mark
mark_of kind ws =
    option_and_then (λ w. option_and_then (λ p. option_map (λ a. record { kind = kind; pid = p; address = a })
    (address_of w.1)) (process_of w.0)) (two_of ws)

-- a command on such a mark
abbrev pub of_mark : (Mark → Command) → MarkKind → List (List ℕ) → Option Command
of_mark make kind ws = option_map make (mark_of kind ws)

-- P, or P N: a process, and a number of steps; the most where it isn't given
abbrev pub go_of : List (List ℕ) → Option Command
go_of (p ∷ []) = option_map (λ pid. Go pid step_count_max) (process_of p)
go_of (p ∷ n ∷ []) = option_and_then (λ pid. option_map (λ count. Go pid count) (count_of n)) (process_of p)
go_of ws = None

-- nothing
abbrev pub bare_of : Command → List (List ℕ) → Option Command
bare_of command [] = Some command
bare_of command (w ∷ ws) = None

-- the schedule that was read, if any
abbrev pub read_schedule : Result (List Block) SchedFault → Option (List Block)
read_schedule (Ok schedule) = Some schedule
read_schedule (Err fault) = None

-- BLOCKS: a command on a schedule
abbrev pub of_blocks : (List Block → Command) → List (List ℕ) → Option Command
of_blocks make ws = option_map make (read_schedule (reading_of_words ws))

-- a command, or the refusal of its operands
abbrev pub or_bad : Option Command → Result Command Refusal
or_bad (Some command) = Ok command
or_bad None = Err BadOperands

-- a command on marks or on the steps of the session, by its name and its operands
unfoldable pub marking_command : List ℕ → List (List ℕ) → Result Command Refusal
marking_command name ws =
    if is_named (codes "break") name then or_bad (of_mark Set Break ws) else
    if is_named (codes "clear") name then or_bad (of_mark Unset Break ws) else
    if is_named (codes "breaks") name then or_bad (bare_of (Marks Break) ws) else
    if is_named (codes "watch") name then or_bad (of_mark Set Watch ws) else
    if is_named (codes "unwatch") name then or_bad (of_mark Unset Watch ws) else
    if is_named (codes "watches") name then or_bad (bare_of (Marks Watch) ws) else
    if is_named (codes "go") name then or_bad (go_of ws) else
    if is_named (codes "steps") name then or_bad (bare_of Steps ws) else
    if is_named (codes "schedule") name then or_bad (bare_of Taken ws) else
    Err UnknownCommand

-- a command that only shows something, by its name and its operands
unfoldable pub showing_command : List ℕ → List (List ℕ) → Result Command Refusal
showing_command name ws =
    if is_named (codes "regs") name then or_bad (of_process Regs ws) else
    if is_named (codes "mem") name then or_bad (of_range Mem ws) else
    if is_named (codes "dis") name then or_bad (of_range Dis ws) else
    if is_named (codes "procs") name then or_bad (bare_of Procs ws) else
    if is_named (codes "mqs") name then or_bad (bare_of Mqs ws) else
    if is_named (codes "sems") name then or_bad (bare_of Sems ws) else
    if is_named (codes "fds") name then or_bad (of_process Fds ws) else
    if is_named (codes "out") name then or_bad (out_of ws) else
    if is_named (codes "profile") name then or_bad (bare_of Profile ws) else
    if is_named (codes "help") name then or_bad (bare_of Help ws) else
    marking_command name ws

-- a command without a schedule by its name and its operands
unfoldable pub plain_command : List ℕ → List (List ℕ) → Result Command Refusal
plain_command name ws =
    if is_named (codes "step") name then or_bad (step_of ws) else
    if is_named (codes "until") name then or_bad (until_of ws) else
    if is_named (codes "back") name then or_bad (back_of ws) else
    if is_named (codes "quit") name then or_bad (bare_of Quit ws) else
    if is_named (codes "where") name then or_bad (of_process Where ws) else
    if is_named (codes "code") name then or_bad (of_range Code ws) else
    if is_named (codes "labels") name then or_bad (of_process Labels ws) else
    showing_command name ws

-- a command by its name and its operands
unfoldable pub command_of : List ℕ → List (List ℕ) → Result Command Refusal
command_of name ws =
    if is_named (codes "run") name then or_bad (of_blocks Run ws) else
    if is_named (codes "play") name then or_bad (of_blocks Play ws) else
    plain_command name ws
