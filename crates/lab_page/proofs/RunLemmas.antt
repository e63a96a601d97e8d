-- The JSON of a whole run.
use Rattle.std.proofs.Common.{◌≡◌, ℕ, Bool, Option, Some, None, List, [], ◌++◌, codes, length, refl, subst}
use Rattle.std.specs.Option.{option_map}
use Rattle.serde_json.specs.Written.{compact_text}
use Rattle.lab_sched.specs.Schedules.{steps_of}
use Rattle.lab_sched.specs.Worlds.{Process, WorldState}
use Rattle.lab_sched.specs.declared.schedule.Block.{Block}
use Rattle.lab_places.specs.Placed.{SourceSeen}
use Rattle.lab_told.specs.Scenes.{Scene, first_scene, scene_after}
use Rattle.lab_trace.specs.Lines.{events}
use Rattle.lab_trace.specs.Traces.{ending, trace_with, trace_text}
use Rattle.lab_trace.specs.Forms.{Form, form_for}
use Rattle.lab_moments.specs.States.{states}
use Rattle.lab_moments.specs.Pasts.{Past, first_past}
use Rattle.lab_moments.specs.Values.{or_null}
use Rattle.lab_page.specs.Ends.{endless_shown}
use Rattle.lab_page.specs.Faults.{IsFault}
use Rattle.lab_page.specs.Moments.{moments, past_then}
use Rattle.lab_page.specs.Private.Json.{more_json, run_end}
use Rattle.lab_page.specs.Runs.{schedule_data, output_of, outcome_at, is_whole, run_from, run_data}
use Rattle.lab_page.specs.declared.ends.Endless.{Endless}
use Rattle.lab_page.specs.declared.paging.PageFault.{PageFault}
use Rattle.lab_moments.proofs.PlainLemmas.{IsPlain, plain}
use Rattle.lab_moments.proofs.BetweenLemmas.{between-plain}
use Rattle.lab_moments.proofs.WaitLemmas.{waits-plain, circles-plain}
use Rattle.lab_moments.proofs.WordLemmas.{texts-plain}
use Rattle.lab_page.proofs.JsonLemmas.{run-json}
use Rattle.lab_page.proofs.FaultLemmas.{fault-longer}

pub schedule_plain : (s : List Block) → IsPlain (schedule_data s)
schedule_plain s = search plain

-- an interleaving that never ends
pub endless_plain : (o : Option Endless) → IsPlain (or_null (option_map endless_shown o))
endless_plain o = search plain

pub output-plain : (o : Option Process) → IsPlain (output_of o)
output-plain None = refl
output-plain (Some s) = search plain

pub outcome-plain : (v : Form) (s : Scene) (h : Past) → IsPlain (outcome_at v s h)
unfolding outcome_at
outcome-plain v s h = search (plain, output-plain, between-plain, waits-plain, circles-plain, texts-plain)

-- the JSON up to the moment before the first step
abbrev start : Scene → List ℕ
start x = codes "{\"moments\":[" ++ compact_text (states x.world)

-- the JSON of a run by what was made of its steps
pub run-made : (v : Form) (b : Bool) (x u : Scene) (h : Past) (s : List Block) (first added all : List ℕ) → first ≡ start x
    → added ≡ first ++ more_json (moments v b x (first_past x.world) (steps_of s)) → u ≡ scene_after x (steps_of s) → h ≡ past_then x (steps_of s) (first_past x.world)
    → all ≡ added ++ run_end (outcome_at v u h) (schedule_data s) b → all ≡ compact_text (run_from v b x s)
unfolding run_from
run-made v b x u h s first added all first-is added-is led kept all-is =
    rw (all-is, added-is, first-is, led, kept) (run-json (states x.world) _ _ (schedule_data s) b)

-- why there is none
pub run-fault : (e : PageFault) (v : Form) (b : Bool) (x : Scene) (s : List Block)
    → IsFault e (start x ++ more_json (moments v b x (first_past x.world) (steps_of s))) → IsFault e (compact_text (run_from v b x s))
run-fault e v b x s fault =
    subst (λ (l : List ℕ). IsFault e l) (run-made v b x _ _ s (start x) _ _ refl refl refl refl refl) (fault-longer e _ _ fault)

-- the run of a world, by how it is written
pub run-first : (v : Form) (b : Bool) (w : WorldState) (s : List Block) (x : Scene) → v ≡ form_for (length (steps_of s)) (length w.processes) []
    → b ≡ is_whole s → x ≡ first_scene w → run_from v b x s ≡ run_data w s
unfolding run_data
run-first v b w s x form whole first = rw (form, whole, first) refl

-- its trace by what was made of its steps
pub trace-made : (v : Form) (x u : Scene) (ps first added all : List ℕ) → first ≡ [] → added ≡ first ++ events v x ps → u ≡ scene_after x ps
    → all ≡ added ++ ending v u.world u.tally → all ≡ trace_with v x ps
trace-made v x u ps first added all none added-is led all-is = rw (all-is, added-is, none, led) refl

-- the trace of a world, by how it is written
pub trace-first : (v : Form) (w : WorldState) (s : List Block) (ss : List (Option SourceSeen)) (x : Scene)
    → v ≡ form_for (length (steps_of s)) (length w.processes) ss → x ≡ first_scene w → trace_with v x (steps_of s) ≡ trace_text w ss (steps_of s)
unfolding trace_text
trace-first v w s ss x form first = rw (form, first) refl
