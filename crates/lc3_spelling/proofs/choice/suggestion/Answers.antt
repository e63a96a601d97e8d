use Rattle.std.proofs.Common.{◌≡◌, None, ap, ◌∙◌, subst, take}
use Rattle.std.proofs.lemmas.List.{get_or_default}
use Rattle.lc3_spelling.specs.Edits.{near_edits}
use Rattle.lc3_spelling.specs.Private.Candidates.{IsBest}
use Rattle.lc3_spelling.proofs.ChoiceLemmas.{best_more, all_seen}
use Rattle.lc3_spelling.proofs.choice.suggestion.Goals as goal

pub loop-i-preserved : goal.loop-i-preserved
loop-i-preserved c =
    best_more (λ name. name.now) c.args.word.now c.args.names.now c.loop-i.i c.loop-i.best c.in_ok-next.next c.nearer-best.result c.loop-i-test.true c.loop-i.invariant
    (λ d. c.in_ok-next.ensures.near ∙ ap (λ n. near_edits c.args.word.now n.now) (get_or_default c.args.names.now c.loop-i.i _ d c.loop-i-test.true))
    c.in_ok-next.ensures.index c.nearer-best.ensures.nearer

pub returns-in-None : goal.returns-in-None
returns-in-None c = record {
  nearest = all_seen (λ name. near_edits c.args.word.now name.now ≡ None) c.args.names.now c.loop-i.i c.loop-i-test.false
      (subst (IsBest (λ name. name.now) c.args.word.now c.args.names.now (take c.loop-i.i c.args.names.now)) c.in-None.is c.loop-i.invariant);
}
