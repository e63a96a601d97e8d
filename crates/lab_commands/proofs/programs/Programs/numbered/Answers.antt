use Rattle.std.proofs.Common.{rules, tests, ◌∙◌, sym}
use Rattle.lab_commands.proofs.Zips.{zip_ended}
use Rattle.lab_commands.proofs.programs.Programs.numbered.Goals as goal

pub returns : goal.returns
returns c = record {
  sources =
      let rest = c.loop-source.source-iterator in
      let none = zip_ended rest.a.rest.now rest.b.rest.now rest.a rest.b c.in-None.ensures.steps in
      sym (c.loop-source.invariant ∙ search (rules, tests, none));
}
