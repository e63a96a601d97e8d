-- What a page keeps of the steps so far, beside the world and the tally.
use Rattle.std.specs.Prelude.{ℕ, ◌==◌, not, Bool, Option, Some, None, List, [], ◌∷◌, ◌++◌, length}
use Rattle.std.specs.List.{filter}
use Rattle.lab_sched.specs.Worlds.{WorldState}
use Rattle.lab_told.specs.Answers.{act_done}
use Rattle.lab_told.specs.Tallies.{TallyState}
use Rattle.lab_told.specs.declared.origins.Origin.{Origin}
use Rattle.lab_told.specs.declared.told.Act.{Act}
use Rattle.lab_told.specs.declared.told.Act.TheVariants.{Calls}
use Rattle.lab_told.specs.declared.told.Told.{Told}
use Rattle.lab_told.specs.declared.told.Told.TheVariants.{Nothing, Counted, Shown}
use Rattle.ipc_traps.specs.declared.service.Service.{Service}
use Rattle.ipc_traps.specs.declared.service.Service.TheVariants.{MqSend}
use Rattle.lab_moments.specs.Between.{none_between, between_after}
use Rattle.lab_moments.specs.Changes.{none_known, known_after}
use Rattle.lab_moments.specs.Holds.{holds_after}
use Rattle.lab_moments.specs.States.{shown_in}
use Rattle.lab_moments.specs.Words.{first_seen, seen_with}
use Rattle.lab_moments.specs.declared.past.StepCount.{StepCount}
use Rattle.lab_moments.specs.declared.holds.Known.{Known}
use Rattle.lab_moments.specs.declared.holds.Hold.{Hold}

-- the steps since the last line, what was last told of the objects, the units that are taken, the steps that sent the messages
-- which nobody has received, and the words around the program counters at the start and after each step with an effect
pub record Past : Type 0 where
  pub between : List StepCount
  pub objects : List (Option Known)
  pub holds : List Hold
  pub unreceived : List ℕ
  pub words : List Bool

-- before the first step of a world
abbrev pub first_past : WorldState → Past
first_past w = record {
  between = none_between (length w.processes);
  objects = none_known;
  holds = [];
  unreceived = [];
  words = first_seen w;
}

-- the messages that nobody has received, without one
abbrev pub unreceived_without : Option Origin → List ℕ → List ℕ
unreceived_without None ms = ms
unreceived_without (Some o) ms = filter (λ m. not (m == o.step)) ms

-- the message that a call sends in step n
abbrev pub sent_in : ℕ → Service → List ℕ
sent_in n MqSend = n ∷ []
sent_in n other = []

-- that of a call which was answered
abbrev pub sent_by : ℕ → Option (Service × ℕ) → List ℕ
sent_by n None = []
sent_by n (Some call) = sent_in n call.0

-- the message that a process received
abbrev pub received_by : Act → Option Origin
received_by (Calls c) = c.origin
received_by other = None

-- the messages that nobody has received after what a process did in step n
abbrev pub unreceived_after : ℕ → Act → List ℕ → List ℕ
unreceived_after n act ms = unreceived_without (received_by act) ms ++ sent_by n (act_done act)

-- after what process p did in step n, by the world and the tally after it
abbrev pub past_with : ℕ → ℕ → WorldState → TallyState → Act → Past → Past
past_with n p w t act h = record h {
  objects = known_after h.objects w.kernel.places;
  holds = holds_after w.kernel t n p act h.objects h.holds;
  unreceived = unreceived_after n act h.unreceived;
  words = seen_with h.words (shown_in w p);
}

-- after step n of process p, by what is told of it
abbrev pub past_told : ℕ → ℕ → WorldState → TallyState → Told → Past → Past
past_told n p w t (Shown e) h = past_with n p w t e.act h
past_told n p w t Counted h = record h { words = seen_with h.words (shown_in w p) }
past_told n p w t Nothing h = h

-- after so many steps of process p from step n on, which waits before them or doesn't, of which this is told; the world and the
-- tally are those after the first of them
abbrev pub past_after : ℕ → ℕ → ℕ → Bool → Told → WorldState → TallyState → Past → Past
past_after count n p waits told w t h = past_told n p w t told (record h { between = between_after count p waits told h.between })
