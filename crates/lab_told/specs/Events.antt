-- What a step did, as a value.
use Rattle.std.specs.Prelude.{ℕ, ◌||◌, if◌then◌else◌, Option, Some, None, List, [], ◌∷◌, drop}
use Rattle.std.specs.Option.{option_and_then}
use Rattle.ipc_kernel.specs.Kernel.{KernelState}
use Rattle.ipc_kernel.specs.declared.call.Reply.TheVariants.{Plain}
use Rattle.lab_sched.specs.Worlds.{Process, Running, Waiting, Ended}
use Rattle.lab_sched.specs.declared.stepped.Stepped.{Stepped}
use Rattle.lab_told.specs.Answers.{outcome_of, wanted_of, result_of}
use Rattle.lab_told.specs.Objects.{held_place, level_at}
use Rattle.ipc_traps.specs.Services.{is_open, is_on_level}
use Rattle.lab_told.specs.Givers.{giver_by}
use Rattle.lab_told.specs.Origins.{origin_by}
use Rattle.lab_told.specs.Tallies.{TallyState, account_of}
use Rattle.lab_told.specs.declared.answers.Outcome.{Outcome}
use Rattle.lab_told.specs.declared.answers.Outcome.TheVariants.{Replied}
use Rattle.lab_told.specs.declared.asking.Asking.{Asking}
use Rattle.lab_told.specs.declared.asking.Observed.{Observed}
use Rattle.lab_told.specs.declared.handles.Level.{Level}
use Rattle.ipc_traps.specs.declared.service.Service.{Service}
use Rattle.lab_told.specs.declared.tally.Account.{Account}
use Rattle.lab_told.specs.declared.told.Called.{Called}
use Rattle.lab_told.specs.declared.told.Act.{Act}
use Rattle.lab_told.specs.declared.told.Act.TheVariants.{Calls, Writes, Ends}
use Rattle.lab_told.specs.declared.told.Told.{Told}
use Rattle.lab_told.specs.declared.told.Told.TheVariants.{Counted, Shown}

-- the place of the object that an open opened, by the number that it was replied
abbrev pub opened_place : KernelState → ℕ → Service → Outcome → Option ℕ
opened_place k p s (Replied (Plain number)) = held_place k p s number
opened_place k p s other = None

-- the place of the object of a call of process p, by that before it: of an open that isn't refused the one that it opened; k is
-- the kernel after it
abbrev pub place_by : KernelState → ℕ → Service → Option ℕ → Outcome → Option ℕ
place_by k p s place o = if is_open s then opened_place k p s o else place

-- the level of the object in this place after a call, which is told of an open, and of a call that can change a level
abbrev pub level_by : KernelState → Service → Option ℕ → Option Level
level_by k s place = if is_open s || is_on_level s then option_and_then (level_at k) place else None

-- a call of process p and what became of it; k is the kernel after it, t the tally before it
abbrev pub call_with : KernelState → TallyState → ℕ → Asking → Outcome → Called
call_with k t p q o = record {
  service = q.service;
  arguments = q.arguments;
  object = q.object;
  place = place_by k p q.service q.place o;
  sent = q.sent;
  priority = q.priority;
  outcome = o;
  level = level_by k q.service (place_by k p q.service q.place o);
  origin = origin_by q.service q.place (result_of o) t.origins;
  since = (account_of t p).since;
  giver = giver_by q.service (account_of t p).since q.place t.givers;
}

-- the same without the attributes that the call doesn't want
unfoldable pub call_by : KernelState → TallyState → ℕ → Asking → Outcome → Called
call_by k t p q o = call_with k t p q (wanted_of q.wants_attributes o)

-- bytes of output, where there are any
abbrev pub wrote : List ℕ → Option Act
wrote [] = None
wrote (b ∷ bs) = Some (Writes (b ∷ bs))

-- what a step of process p did that didn't end it, by its call and what became of that, if it made one, and by the bytes that it
-- wrote
abbrev pub act_with : KernelState → TallyState → ℕ → Option Asking → Option Outcome → List ℕ → Option Act
act_with k t p (Some q) (Some o) bytes = Some (Calls (call_by k t p q o))
act_with k t p (Some q) None bytes = wrote bytes
act_with k t p None o bytes = wrote bytes

-- what a step of process p did, by its call, if it made one, how many bytes were written before it, what is told of it, and the
-- process after it; a step that is only counted did nothing that is shown
abbrev pub act_by : KernelState → TallyState → ℕ → Option Asking → ℕ → Stepped → Process → Option Act
act_by k t p asking count told (Running m) = act_with k t p asking (outcome_of told) (drop count m.output)
act_by k t p asking count told (Waiting m c) = act_with k t p asking (outcome_of told) (drop count m.output)
act_by k t p asking count told (Ended e) = Some (Ends e.how)

-- what is told of a step that did this
abbrev pub told_with : Observed → Account → Option Act → Told
told_with b a None = Counted
told_with b a (Some act) = Shown (record { pc = b.pc; word = b.word; local = a.local; act = act })

-- what a trace tells of a step of process p with an effect, by what the step told and by the process after it
abbrev pub told_by : KernelState → TallyState → ℕ → Observed → Stepped → Option Process → Told
told_by k t p b told None = Counted
told_by k t p b told (Some after) = told_with b (account_of t p) (act_by k t p b.asking b.written told after)
