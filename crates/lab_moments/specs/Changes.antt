-- Which objects are told after a step: what was last told of each, what is there now, and what the step did.
use Rattle.std.specs.Prelude.{ℕ, ◌==◌, ◌&&◌, ◌||◌, nat_lt, not, Bool, true, false, if◌then◌else◌, Option, Some, None, is_some, List, [], ◌∷◌, length, replicate, slice_get}
use Rattle.std.specs.Bool.{beq}
use Rattle.std.specs.Option.{option_and_then, option_map_or}
use Rattle.serde_json.specs.Data.{Data, boolean}
use Rattle.ipc_kernel.specs.Limits.{object_places}
use Rattle.ipc_kernel.specs.Places.{place_at}
use Rattle.ipc_kernel.specs.declared.place.Place.{Place}
use Rattle.ipc_kernel.specs.declared.place.Place.TheVariants.{Empty, Mq, Sem}
use Rattle.ipc_traps.specs.Services.{is_on_level}
use Rattle.lab_sched.specs.Worlds.{WorldState}
use Rattle.lab_told.specs.Tallies.{TallyState}
use Rattle.lab_told.specs.Units.{units_of, balance}
use Rattle.lab_told.specs.declared.told.Act.{Act}
use Rattle.lab_told.specs.declared.told.Act.TheVariants.{Calls, Writes, Ends}
use Rattle.lab_moments.specs.Objects.{object_data}
use Rattle.lab_moments.specs.Values.{list, all_below}
use Rattle.lab_moments.specs.declared.holds.Known.{Known}

-- nothing is known of any object
abbrev pub none_known : List (Option Known)
none_known = replicate object_places None

-- what is known of the object in a place
abbrev pub known_at : List (Option Known) → ℕ → Option Known
known_at ks place = option_and_then (λ k. k) (slice_get ks place)

-- an object that has a name or not and this level, by what was known of it: it was made with the first level
abbrev pub known_with : Option Known → Bool → ℕ → Known
known_with None named level = record { named = named; level = level; made = level }
known_with (Some k) named level = record k { named = named; level = level }

-- what is known of the object in a place: the level of a semaphore is its value, that of a queue how many messages it has
abbrev pub known_of : Option Known → Place → Option Known
known_of was Empty = None
known_of was (Mq name queue) = Some (known_with was (is_some name) (length queue.messages))
known_of was (Sem name value) = Some (known_with was (is_some name) value)

-- what is known of the object in a place after a step, by what was known before it
abbrev pub known_now : List (Option Known) → List Place → ℕ → Option Known
known_now ks ps place = known_of (known_at ks place) (place_at ps place)

-- what is known of all objects after a step
unfoldable pub known_after : List (Option Known) → List Place → List (Option Known)
known_after ks ps = all_below object_places (λ place. known_now ks ps place ∷ [])

-- the level with which an object was made
abbrev pub made_with : Option Known → ℕ
made_with None = 0
made_with (Some k) = k.made

-- whether an object is as it was: gone, or with a name or not and the level as before
abbrev pub is_same : Option Known → Option Known → Bool
is_same None None = true
is_same (Some k) (Some l) = beq k.named l.named && (k.level == l.level)
is_same other now = false

-- whether what process p did is about the object in a place: a call on its level, for which the process may wait, or an end of the
-- process, which has taken units of it; t is the tally after it
abbrev pub is_about : ℕ → Act → TallyState → ℕ → Bool
is_about p (Calls c) t place = is_on_level c.service && option_map_or (λ q. q == place) c.place false
is_about p (Writes bytes) t place = false
is_about p (Ends how) t place = nat_lt 0 (balance (units_of place p t.units))

-- whether an object changed, and the object, where it changed or the step is about it
abbrev pub told_where : Bool → Bool → Data → List Data
told_where changed about d = if changed || about then list (boolean changed ∷ d ∷ []) ∷ [] else []

-- whether the object in a place isn't as it was last told, and the object, where it is told after what process p did
abbrev pub object_told : WorldState → TallyState → ℕ → Act → List (Option Known) → ℕ → List Data
object_told w t p act ks place =
    told_where (not (is_same (known_at ks place) (known_now ks w.kernel.places place))) (is_about p act t place)
    (object_data w t (made_with (known_now ks w.kernel.places place)) place (place_at w.kernel.places place))

-- the objects that are told after what process p did, in order of place
unfoldable pub objects_told : WorldState → TallyState → ℕ → Act → List (Option Known) → List Data
objects_told w t p act ks = all_below object_places (object_told w t p act ks)
