-- Objects, and what a process has open, have no floats.
use Rattle.std.proofs.Common.{ℕ, Option, Some, None, refl}
use Rattle.ipc_kernel.specs.declared.place.Place.{Place}
use Rattle.ipc_kernel.specs.declared.place.Place.TheVariants.{Empty, Mq, Sem}
use Rattle.ipc_traps.specs.declared.service.Service.{Service}
use Rattle.lab_sched.specs.Worlds.{WorldState}
use Rattle.lab_told.specs.Tallies.{TallyState}
use Rattle.lab_moments.specs.Objects.{waiter, semaphore_data, message_data, queue_data, object_data, open_data}
use Rattle.lab_moments.proofs.PlainLemmas.{IsPlain, ArePlain, plain}

waiter-plain : (place p : ℕ) (o : Option (Service × ℕ)) → ArePlain (waiter place p o)
waiter-plain place p None = refl
waiter-plain place p (Some call) = search plain

pub object-plain : (w : WorldState) (t : TallyState) (made place : ℕ) (o : Place) → IsPlain (object_data w t made place o)
unfolding semaphore_data message_data queue_data
object-plain w t made place Empty = refl
object-plain w t made place (Mq name queue) = search (plain, waiter-plain)
object-plain w t made place (Sem name value) = search (plain, waiter-plain)

pub open-plain : (w : WorldState) (p : ℕ) → IsPlain (open_data w p)
unfolding open_data
open-plain w p = search plain
