-- Who lets a process wait, and the circles of such processes.
use Rattle.std.proofs.Common.{◌≡◌, ℕ, ◌+◌, Option, Some, None, List, refl, add-one}
use Rattle.std.specs.Option.{option_and_then}
use Rattle.ipc_traps.specs.declared.service.Service.{Service}
use Rattle.lab_sched.specs.Worlds.{WorldState}
use Rattle.lab_told.specs.Tallies.{TallyState}
use Rattle.lab_moments.specs.Waits.{other_at, wait_in, waits_data, blocker, behind, circle_up_to, circles_data}
use Rattle.lab_moments.specs.declared.holds.Hold.{Hold}
use Rattle.lab_moments.specs.declared.holds.Known.{Known}
use Rattle.lab_moments.proofs.PlainLemmas.{IsPlain, ArePlain, plain}
use Rattle.lab_moments.proofs.ValueLemmas.{below}

wait-plain : (w : WorldState) (t : TallyState) (ks : List (Option Known)) (p : ℕ) (o : Option (Service × ℕ)) → ArePlain (wait_in w t ks p o)
unfolding other_at
wait-plain w t ks p None = refl
wait-plain w t ks p (Some call) = search plain

pub waits-plain : (w : WorldState) (t : TallyState) (ks : List (Option Known)) → IsPlain (waits_data w t ks)
unfolding waits_data
waits-plain w t ks = search (plain, wait-plain)

circle-plain : (p : ℕ) (ps : List ℕ) (o : Option ℕ) → ArePlain (circle_up_to p ps o)
circle-plain p ps None = refl
circle-plain p ps (Some i) = search plain

pub circles-plain : (w : WorldState) (hs : List Hold) → IsPlain (circles_data w hs)
unfolding circles_data
circles-plain w hs = search (plain, circle-plain)

-- at first none is followed
pub behind-first : (bs : List (Option ℕ)) (first : Option ℕ) → behind bs first 0 ≡ first
unfolding behind
behind-first bs first = refl

-- one more that is
pub behind-next : (bs : List (Option ℕ)) (first : Option ℕ) (i : ℕ) → behind bs first (i + 1) ≡ option_and_then (blocker bs) (behind bs first i)
unfolding behind
behind-next bs first i = rw add-one refl

-- for a loop that follows them
pub ruleset following = (behind-first, behind-next, below)
