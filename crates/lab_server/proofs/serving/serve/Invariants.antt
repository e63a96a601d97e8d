use Rattle.std.proofs.Common.{map}
use Rattle.lab_server.specs.Sessions.{first}
use Rattle.lab_server.specs.Private.Seen.{session_of}
use Rattle.lab_server.proofs.TurnLemmas.{SoFar}
use Rattle.lab_server.proofs.serving.serve.Given as goal

-- the turns so far lead here, and what they send is written
abbrev pub invariant-loop-before : goal.invariant-loop-before
invariant-loop-before g l =
    SoFar (first (map (λ name. name.now) l.names)) (g.R.Read.remaining l.fn.input.device) (g.R.Read.remaining l.input.device)
    (g.W.Write.contents l.fn.output.device) (g.W.Write.contents l.output.device) (session_of l.session) l.before
