use Rattle.std.proofs.Common.{◌<◌, arith, length, sym, subst, ◌∙◌, Ok}
use Rattle.std.proofs.lemmas.List.{get_or_default}
use Rattle.lab_explore.proofs.FirstRows.{least_more, first_of_chunks}
use Rattle.lab_explore.proofs.judging.first_by_parts.Goals as goal

pub loop-part-preserved : goal.loop-part-preserved
loop-part-preserved g c =
    let parts = c.as_slice-part-items.result.now in
    let value = c.as_slice-part-items.ensures.value in
    let n = c.loop-part.part-index in
    let within = c.loop-part-test.true in
    least_more c.args.store.now c.args.condition.now c.args.end c.args.rows.now _ parts n c.loop-part.first c.in_ok-found.found c.min-first.result
    (λ n d within.
    let part = (c.in_ok-parts.ensures.each n d (subst (λ xs. n < length xs) value within)).1 in
    (part.argument.now, part.argument_is, rw value part.call))
    within (λ d. sym (get_or_default parts n d (Ok 0) within ∙ c.in_ok-found.was)) c.min-first.ensures c.loop-part.invariant

pub returns : goal.returns
returns g c =
    let parts = c.as_slice-part-items.result.now in
    let value = c.as_slice-part-items.ensures.value in
    record {
      first = first_of_chunks c.args.store.now c.args.condition.now c.args.end c.args.rows.now _ parts c.loop-part.part-index c.loop-part.first (omega arith) (c.as_slice-part-items.ensures.len ∙ c.in_ok-parts.ensures.len)
          (λ n d within.
          let part = (c.in_ok-parts.ensures.each n d (subst (λ xs. n < length xs) value within)).1 in
          (part.argument.now, part.argument_is, rw value part.call))
          c.loop-part-test.false c.loop-part.invariant;
    }
