use Rattle.std.proofs.Common.{◌+◌, ◌++◌, ◌∙◌, [], append_assoc, ap, arith, get_or, sym, take}
use Rattle.lab_states.specs.declared.outputs.TheConstants.{PIECE}
use Rattle.lab_states.proofs.PieceLemmas.{extends_more, no_more, none_kept, part_kept}
use Rattle.lab_states.proofs.outputs.Outputs.keep.Goals as goal

pub loop-len-init : goal.loop-len-init
loop-len-init c = record {
  extends = no_more c.args.self.now;
  within = omega arith;
  kept = none_kept c.args.self.now c.args.before c.args.output.now c.requires.before;
}

pub loop-len-preserved : goal.loop-len-preserved
loop-len-preserved c =
    let at = c.loop-len.len in
    let out = c.args.output.now in
    let front = get_or c.args.self.now c.args.before [] in
    let piece = c.piece_from.result in
    record {
      extends = extends_more c.args.self.now c.loop-len.self c.keep_piece.new.self c.loop-len.invariant.extends c.in_ok-number.ensures.extends;
      within = omega (arith, c.loop-len-test.true, c.loop-len.invariant.within);
      kept =
          part_kept c.loop-len.self c.keep_piece.new.self c.loop-len.number c.in_ok-number.number piece.before (front ++ take at out) piece.bytes (front ++ take (at + PIECE) out) c.loop-len.invariant.kept
          c.piece_from.ensures.before (ap (λ bs. front ++ bs) c.piece_from.ensures.bytes ∙ sym (append_assoc front (take at out) piece.bytes)) c.in_ok-number.ensures.kept;
    }
