-- The states of processes have no floats.
use Rattle.std.proofs.Common.{Option, Some, None, refl}
use Rattle.lab_sched.specs.Worlds.{Process, WorldState}
use Rattle.lab_moments.specs.States.{state_data, state_of, state_in, states}
use Rattle.lab_moments.proofs.PlainLemmas.{IsPlain, plain}

pub state-plain : (o : Option Process) → IsPlain (state_of o)
unfolding state_data
state-plain None = refl
state-plain (Some s) = search plain

pub states_plain : (w : WorldState) → IsPlain (states w)
unfolding state_in
states_plain w = search (plain, state-plain)
