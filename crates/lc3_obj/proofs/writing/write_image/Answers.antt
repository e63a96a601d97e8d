use Rattle.std.proofs.Common.{ap, drop, take, ◌+◌, ◌∷◌, ◌++◌, List, ℕ, flat_map, rules}
use Rattle.std.proofs.lemmas.Result.{err_from_is_err_and}
use Rattle.lab_io.proofs.Prefixes.{AppendsPrefix-longer, AppendsPrefix-after}
use Rattle.lc3_obj.specs.Object.{word_bytes}
use Rattle.lc3_obj.proofs.Pieces.{flat_map-at}
use Rattle.lc3_obj.proofs.writing.write_image.Goals as goal

pub returns-in_err-write_word-clause-prefix : goal.returns-in_err-write_word-clause-prefix
returns-in_err-write_word-clause-prefix g c =
    let p = err_from_is_err_and c.from_residual.result c.from_residual.ensures.1 in
    let part = rw c.origin.ensures.value at c.in_err-write_word.ensures.prefix in
    rw p.1 (AppendsPrefix-longer _ _ (word_bytes c.args.image.now.origin) (flat_map word_bytes c.args.image.now.words) part)

pub returns-in_err-write_word-2-clause-prefix : goal.returns-in_err-write_word-2-clause-prefix
returns-in_err-write_word-2-clause-prefix g c =
    let p = err_from_is_err_and c.from_residual-in_err-write_word-2.result c.from_residual-in_err-write_word-2.ensures.1 in
    let part = rw c.words-word-items.ensures.value at c.in_err-write_word-2.ensures.prefix in
    let words = c.args.image.now.words in
    let i = c.loop-word.word-index in
    let before = flat_map word_bytes (c.args.image.now.origin ∷ take i words) in
    let cut = ap (λ (l : List ℕ). word_bytes c.args.image.now.origin ++ l) (flat_map-at word_bytes words i (search rules)) in
    rw p.1 (AppendsPrefix-after _ _ _ before _ (flat_map word_bytes (drop (i + 1) words)) _ c.loop-word.invariant.written part cut)
