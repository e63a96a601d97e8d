use Rattle.lab_debug.proofs.WorldSessions.{written_of_world, ends_in_world}
use Rattle.lab_debug.proofs.script.session.Goals as goal

pub returns-clause-written : goal.returns-clause-written
returns-clause-written g c = written_of_world _ _ _ _ _ c.in_ok-start.ensures.start c.in_ok-last.ensures.written

pub returns-clause-world : goal.returns-clause-world
returns-clause-world g c = ends_in_world _ _ _ _ _ c.in_ok-start.ensures.start c.into_world.ensures.world c.in_ok-last.ensures.state
