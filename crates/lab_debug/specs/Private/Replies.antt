-- What a line did, as its reply and the world after it tell.
use Rattle.lab_session.specs.Sessions.{SessionState}
use Rattle.lab_debug.specs.declared.accepting.Reply.{Reply}
use Rattle.lab_debug.specs.Script.{Effect}

-- the effect of a line with this reply, where this is the world after it
abbrev pub effect_of : Reply → SessionState → Effect SessionState
effect_of reply world = record { text = reply.text.items; world = world; ends = reply.ends }
