use Rattle.lab_server.proofs.TurnLemmas.{turns_to}
use Rattle.lab_server.proofs.serving.turn.Goals as goal

pub returns-clause-turn : goal.returns-clause-turn
returns-clause-turn g c =
    let sent = c.in_ok-send.ensures.sent in
    rw c.goes_on.ensures.value (turns_to c.in_ok-reply.reply _ _ c.in-Ok.frame _ _ sent.0 _ _ c.in-Ok.ensures.frame c.in_ok-reply.ensures.reply sent.1 sent.2)
