use Rattle.std.proofs.Common.{subst, sym}
use Rattle.std.proofs.lemmas.List.Elements.{All-push}
use Rattle.lab_sched.specs.Starts.{initial_world}
use Rattle.lab_worlds.specs.Ends.{IsEnd, AreEnds}
use Rattle.lab_worlds.proofs.random.Gathering.add.Goals as goal

pub returns : goal.returns
returns c = record {
  ends = λ all.
      let start = initial_world c.args.processes.now in
      subst (AreEnds start) (sym c.in_ok-push-2.ensures.items) (All-push (IsEnd start) c.args.self.now.ends.items c.in_ok-end.end all (c.in_ok-end.ensures.end));
}
