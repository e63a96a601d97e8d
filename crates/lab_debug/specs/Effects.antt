-- What a line of a script does.
use Rattle.std.specs.Prelude.{ℕ, Bool, true, false, if◌then◌else◌, nat_lt, Option, Some, None, Result, Ok, Err, List, [], ◌∷◌, ◌++◌, codes, length, replicate}
use Rattle.std.specs.List.{list_all}
use Rattle.std.specs.Option.{option_map_or}
use Rattle.lab_sched.specs.Worlds.{WorldState, run}
use Rattle.lab_sched.specs.Schedules.{steps_of}
use Rattle.lab_debug.specs.declared.command.Command.{Command}
use Rattle.lab_debug.specs.declared.command.Command.TheVariants.{Step, Run, Play, Until, Back, Regs, Mem, Dis, Procs, Mqs, Sems, Fds, Out, Raw, Where, Code, Labels, Go, Set, Unset, Marks, Steps, Taken, Profile, Help, Quit}
use Rattle.lab_debug.specs.declared.command.Refusal.{Refusal}
use Rattle.lab_debug.specs.declared.command.Refusal.TheVariants.{UnknownCommand, BadOperands, NoProcess, NoLabel, NoMark}
use Rattle.lab_debug.specs.Commands.{words_of, or_bad, command_of}
use Rattle.lab_debug.specs.Outputs.{raw_output}
use Rattle.lab_places.specs.Placed.{listed, placed}
use Rattle.lab_session.specs.Listings.{listing_of, has_labels}
use Rattle.lab_debug.specs.Labels.{LabelSeen, label_address, addressed, named_process, command_at, second_label, with_zero}
use Rattle.lab_session.specs.Places.{where_text, code_text, labels_text}
use Rattle.lab_session.specs.declared.marks.Mark.{Mark}
use Rattle.lab_session.specs.declared.marks.MarkKind.TheVariants.{Break, Watch}
use Rattle.lab_session.specs.Marks.{has_mark, with_mark, without_mark, of_kind}
use Rattle.lab_session.specs.MarkTexts.{set_text, off_text, marks_text, changes_text}
use Rattle.lab_session.specs.Watches.{watched_words}
use Rattle.lab_session.specs.Stops.{steps_to_stop, stopped_process, steps_until}
use Rattle.lab_session.specs.Played.{play_text}
use Rattle.lab_session.specs.Taken.{taken_text}
use Rattle.std.specs.Fmt.{decimal}
use Rattle.lab_session.specs.Sessions.{SessionState, session_from, with_marks, after_steps, effective, back}
use Rattle.lab_debug.specs.Script.{Effect, Script, script, seen_script}
use Rattle.lab_texts.specs.Texts.{status_text, procs_text, profile_text, regs_text, mem_text, dis_text, out_text}
use Rattle.lab_texts.specs.Objects.{mqs_text, sems_text, fds_text}
use Rattle.lab_texts.specs.Verdicts.{verdict_text}

-- the line that tells why a line is refused
abbrev pub refusal_text : Refusal → List ℕ
refusal_text UnknownCommand = codes "? unknown command\n"
refusal_text BadOperands = codes "? bad operands\n"
refusal_text NoProcess = codes "? no such process\n"
refusal_text NoLabel = codes "? no such label\n"
refusal_text (NoMark Break) = codes "? no such break\n"
refusal_text (NoMark Watch) = codes "? no such watch\n"

-- a text of a world, and nothing else
abbrev pub text_effect : (WorldState → List ℕ) → SessionState → Effect SessionState
text_effect text s = record { text = text s.world; world = s; ends = false }

-- a text of the world with the places of its status lines in the sources of a session, and nothing else
abbrev pub standing_effect : (WorldState → List ℕ) → SessionState → Effect SessionState
standing_effect text s = record { text = placed (listed s.listings) (text s.world); world = s; ends = false }

-- how many steps a session has
abbrev pub steps_text : ℕ → List ℕ
steps_text n = codes "steps " ++ decimal n ++ codes "\n"

-- how many steps are left
abbrev pub back_effect : SessionState → Effect SessionState
back_effect s = record { text = steps_text (length s.steps); world = s; ends = false }

-- a refused line changes nothing
abbrev pub refusal_effect : Refusal → SessionState → Effect SessionState
refusal_effect refusal s = record { text = refusal_text refusal; world = s; ends = false }

-- a text of a session, and nothing else
abbrev pub shown_effect : List ℕ → SessionState → Effect SessionState
shown_effect text s = record { text = text; world = s; ends = false }

-- a mark is set, which may be there already
abbrev pub set_effect : SessionState → Mark → Effect SessionState
set_effect s mark = shown_effect (set_text s.listings s.world mark) (with_marks s (with_mark s.marks mark))

-- a mark is taken off
abbrev pub unset_effect : SessionState → Mark → Effect SessionState
unset_effect s mark =
    if has_mark s.marks mark then shown_effect (off_text s.listings mark) (with_marks s (without_mark s.marks mark))
    else refusal_effect (NoMark mark.kind) s

-- a text of the world after further steps, with the places of its status lines, and each watched word that they changed
abbrev pub stepped_effect : (WorldState → List ℕ) → SessionState → List ℕ → Effect SessionState
stepped_effect text s ps =
    shown_effect (placed (listed s.listings) (text (run s.world ps)) ++ changes_text s.listings (run s.world ps) (watched_words s.marks s.world)) (after_steps s ps)

-- at most n steps of a process, up to a stop
abbrev pub go_effect : SessionState → ℕ → ℕ → Effect SessionState
go_effect s pid n = stepped_effect (status_text pid) s (steps_to_stop s.marks s.world (replicate n pid))

-- the steps of a schedule up to a stop
abbrev pub play_effect : SessionState → List ℕ → Effect SessionState
play_effect s ps =
    stepped_effect (play_text (length (steps_to_stop s.marks s.world ps)) (length ps) (stopped_process s.marks s.world ps))
    s (steps_to_stop s.marks s.world ps)

-- what a command does, where its processes are there
abbrev pub accepted_effect : SessionState → Command → Effect SessionState
accepted_effect s (Step pid n) = standing_effect (status_text pid) (after_steps s (replicate n pid))
accepted_effect s (Run schedule) = text_effect verdict_text (after_steps s (steps_of schedule))
accepted_effect s (Until pid address n) = standing_effect (status_text pid) (after_steps s (steps_until pid address s.world n))
accepted_effect s (Back n) = back_effect (back n s)
accepted_effect s (Play schedule) = play_effect s (steps_of schedule)
accepted_effect s (Go pid n) = go_effect s pid n
accepted_effect s (Set mark) = set_effect s mark
accepted_effect s (Unset mark) = unset_effect s mark
accepted_effect s (Marks kind) = shown_effect (marks_text s.listings s.world (of_kind kind s.marks)) s
accepted_effect s Steps = shown_effect (steps_text (length (effective s.start s.steps))) s
accepted_effect s Taken = shown_effect (taken_text (effective s.start s.steps)) s
accepted_effect s (Regs pid) = text_effect (regs_text pid) s
accepted_effect s (Mem range) = text_effect (mem_text range.pid range.address range.count) s
accepted_effect s (Dis range) = text_effect (dis_text range.pid range.address range.count) s
accepted_effect s Procs = standing_effect procs_text s
accepted_effect s Mqs = text_effect mqs_text s
accepted_effect s Sems = text_effect sems_text s
accepted_effect s (Fds pid) = text_effect (fds_text pid) s
accepted_effect s (Out pid) = text_effect (out_text pid) s
accepted_effect s (Raw pid) = text_effect (raw_output pid) s
accepted_effect s (Where pid) = text_effect (where_text pid (listing_of s.listings pid)) s
accepted_effect s (Code range) = text_effect (code_text range.pid range.address range.count (listing_of s.listings range.pid)) s
accepted_effect s (Labels pid) = text_effect (λ v. labels_text (listing_of s.listings pid)) s
accepted_effect s Profile = text_effect profile_text s
accepted_effect s Help = shown_effect s.help s
accepted_effect s Quit = record { text = []; world = s; ends = true }

-- whether process pid is there
abbrev pub is_there : WorldState → ℕ → Bool
is_there w pid = nat_lt pid (length w.processes)

-- whether each process that a command names is there
abbrev pub are_there : WorldState → Command → Bool
are_there w (Run schedule) = list_all (λ b. is_there w b.pid) schedule
are_there w (Play schedule) = list_all (λ b. is_there w b.pid) schedule
are_there w command = option_map_or (is_there w) (named_process command) true

-- a command whose processes are there; it is refused where one isn't
abbrev pub if_there : WorldState → Result Command Refusal → Result Command Refusal
if_there w (Err refusal) = Err refusal
if_there w (Ok command) = if are_there w command then Ok command else Err NoProcess

-- a command at the address that its label stands for, or the refusal of the label
abbrev pub at_address : Command → Result ℕ Refusal → Result Command Refusal
at_address command (Err refusal) = Err refusal
at_address command (Ok a) = or_bad (command_at a command)

-- a command with a label of this process as its address; other commands have none
abbrev pub labelled : SessionState → LabelSeen → Command → Option ℕ → Result Command Refusal
labelled s label command None = Err BadOperands
labelled s label command (Some pid) =
    if is_there s.world pid then at_address command (label_address (listing_of s.listings pid) label) else Err NoProcess

-- a command that was read with the address 0 in the place of a label
abbrev pub with_label : SessionState → LabelSeen → Result Command Refusal → Result Command Refusal
with_label s label (Err refusal) = Err refusal
with_label s label (Ok command) = labelled s label command (addressed command)

-- a command by its name and its operands, where this label is one of them
abbrev pub accepted_command : SessionState → List ℕ → List (List ℕ) → Option LabelSeen → Result Command Refusal
accepted_command s name ws None = if_there s.world (command_of name ws)
accepted_command s name ws (Some label) = with_label s label (command_of name (with_zero ws))

-- the label among these operands, where labels are read
abbrev pub label_among : SessionState → List (List ℕ) → Option LabelSeen
label_among s ws = if has_labels s.listings then second_label ws else None

-- the command that a name and its operands write
abbrev pub command_in : SessionState → List ℕ → List (List ℕ) → Result Command Refusal
command_in s name ws = accepted_command s name ws (label_among s ws)

-- what a line does that was read as a command, or refused
abbrev pub reading_effect : SessionState → Result Command Refusal → Effect SessionState
reading_effect s (Ok command) = accepted_effect s command
reading_effect s (Err refusal) = refusal_effect refusal s

-- a line without words does nothing
abbrev pub words_effect : SessionState → List (List ℕ) → Effect SessionState
words_effect s [] = text_effect (λ v. []) s
words_effect s (name ∷ ws) = reading_effect s (command_in s name ws)

-- what a line does
unfoldable pub line_effect : SessionState → List ℕ → Effect SessionState
line_effect s line = words_effect s (words_of line)

-- the session of a script of these bytes on a world
abbrev pub session : SessionState → List ℕ → Script SessionState
session s bytes = script line_effect s bytes

-- the same of a session that begins with this world, without sources; `help` writes nothing
abbrev pub world_session : WorldState → List ℕ → Script WorldState
world_session w bytes = seen_script (λ s. s.world) (session (session_from [] (codes "") w) bytes)
