use Rattle.std.proofs.Common.{◌∙◌, sym}
use Rattle.lab_shell.specs.Private.Runs.{start_of}
use Rattle.lab_shell.proofs.RunLemmas.{runs_none}
use Rattle.lab_shell.proofs.ends_page.Explored.list.Goals as goal

pub loop-at-init : goal.loop-at-init
loop-at-init g c = c.new-list.ensures.none ∙ sym (runs_none (start_of c.args.self.now.given) c.args.self.now.given.sources.items c.args.self.now.search.answers)
