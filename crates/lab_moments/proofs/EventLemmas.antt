-- Moments and what was done have no floats.
use Rattle.std.proofs.Common.{ℕ, Bool, refl}
use Rattle.lab_sched.specs.Worlds.{WorldState}
use Rattle.lab_trace.specs.Forms.{Form}
use Rattle.lab_told.specs.Tallies.{TallyState}
use Rattle.lab_told.specs.declared.answers.Outcome.{Outcome}
use Rattle.lab_told.specs.declared.answers.Outcome.TheVariants.{Waits, Refused, Replied}
use Rattle.lab_told.specs.declared.told.Act.{Act}
use Rattle.lab_told.specs.declared.told.Act.TheVariants.{Calls, Writes, Ends}
use Rattle.lab_told.specs.declared.told.Told.{Told}
use Rattle.lab_told.specs.declared.told.Told.TheVariants.{Nothing, Counted, Shown}
use Rattle.lab_moments.specs.Changes.{objects_told}
use Rattle.lab_moments.specs.Events.{outcome_data, called_data, act_data, open_told, event_data}
use Rattle.lab_moments.specs.Moments.{counted_moment, shown_moment, moment_by}
use Rattle.lab_moments.specs.Pasts.{Past}
use Rattle.lab_moments.specs.States.{state_in}
use Rattle.lab_moments.proofs.BetweenLemmas.{between-plain}
use Rattle.lab_moments.proofs.ObjectLemmas.{object-plain, open-plain}
use Rattle.lab_moments.proofs.PlainLemmas.{IsPlain, ArePlain, plain}
use Rattle.lab_moments.proofs.StateLemmas.{state-plain}

outcome-plain : (o : Outcome) → IsPlain (outcome_data o)
outcome-plain Waits = refl
outcome-plain (Refused e) = refl
outcome-plain (Replied reply) = refl

pub act-plain : (act : Act) → IsPlain (act_data act)
unfolding called_data
act-plain (Calls c) = search (plain, outcome-plain)
act-plain (Writes bytes) = search plain
act-plain (Ends how) = refl

-- the moment of a step
pub moment-plain : (v : Form) (whole : Bool) (n p : ℕ) (told : Told) (w : WorldState) (t : TallyState) (h : Past)
    → ArePlain (moment_by v whole n p told w t h)
unfolding counted_moment shown_moment event_data objects_told open_told state_in
moment-plain v whole n p Nothing w t h = refl
moment-plain v whole n p Counted w t h = search (plain, state-plain)
moment-plain v whole n p (Shown e) w t h = search (plain, state-plain, act-plain, object-plain, open-plain, between-plain)
