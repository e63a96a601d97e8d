use Rattle.std.proofs.Common.{rules, sym, take, drop}
use Rattle.std.proofs.lemmas.List.{take_rest, take-append-drop}
use Rattle.std.proofs.lemmas.Result.{err_from_is_err_and}
use Rattle.std.proofs.Math.Seq.{take-add}
use Rattle.std.proofs.KnownBytes.{Appends-trans}
use Rattle.lab_io.proofs.Prefixes.{AppendsPrefix-kept}
use Rattle.lab_io.proofs.output.Output.write_all.Goals as goal

-- the write that failed left the bytes before `done`
pub returns-in_err-done-clause-prefix : goal.returns-in_err-done-clause-prefix
returns-in_err-done-clause-prefix g c =
    let p = err_from_is_err_and c.from_residual.result c.from_residual.ensures.1 in
    let bytes = c.args.bytes.now in
    rw p.1 (AppendsPrefix-kept _ _ _ (take c.loop-done.done bytes) (drop c.loop-done.done bytes) bytes c.loop-done.invariant.written
    c.in_err-done.ensures.bytes (sym (take-append-drop c.loop-done.done bytes)))

-- what was written before and what this call wrote make the bytes before the new `done`
pub loop-done-preserved : goal.loop-done-preserved
loop-done-preserved g c =
    let wrote = rw take_rest at c.in_ok-done.ensures.bytes in record {
      written = rw (take-add c.loop-done.done c.in_ok-done.field-0 c.args.bytes.now)
          (Appends-trans _ _ _ _ _ c.loop-done.invariant.written wrote);
      same = search rules;
      within = search rules;
    }
