use Rattle.std.proofs.Common.{◌≡◌, ◌<◌, arith, get_or, length}
use Rattle.std.proofs.lemmas.Str.{IsCharBoundary-after_ascii}
use Rattle.lab_arguments.proofs.pieces.cut.Goals as goal

pub range_from-requires : goal.range_from-requires
range_from-requires c =
    let text = c.args.text.now in
    let same = c.as_bytes-bytes.ensures.value in
    let within : c.loop-at.at < length text = rw (← same) c.loop-at-test.true in
    let comma : get_or text c.loop-at.at 0 ≡ 44 = rw (← same) (c.cuts.ensures.comma c.if-cuts.true) in
    λ more. IsCharBoundary-after_ascii text c.loop-at.at c.utf8.text within (omega (arith, comma))
