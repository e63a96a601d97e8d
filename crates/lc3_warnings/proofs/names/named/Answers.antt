use Rattle.std.proofs.Common.{arith}
use Rattle.std.proofs.Math.Path.{fun_ext}
use Rattle.std.proofs.lemmas.List.{take_all}
use Rattle.lc3_warnings.proofs.names.named.Goals as goal

pub returns : goal.returns
returns c = record {
  all = rw (take_all c.loop-line.line-index c.args.lines.now (omega (arith, c.loop-line-test.false))) at (fun_ext c.loop-line.invariant);
}
