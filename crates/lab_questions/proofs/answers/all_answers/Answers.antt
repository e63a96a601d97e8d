use Rattle.std.proofs.Common.{◌++◌, All, subst, sym, ◌∙◌, ap}
use Rattle.std.proofs.lemmas.List.Elements.{All-append}
use Rattle.lab_questions.specs.Answered.{IsAnswer}
use Rattle.lab_questions.proofs.answers.all_answers.Goals as goal

pub returns-clause-each : goal.returns-clause-each
returns-clause-each c = λ start ends conditions called.
    let each = IsAnswer start c.args.waiters.now c.args.found.now in
    let words = c.in_ok-answers.answers.items in
    let all = All-append each (words ++ c.args.conditions.items) c.args.called.items
    (All-append each words c.args.conditions.items (c.in_ok-answers.ensures.each start ends) conditions) called in
    subst (All each) (sym (c.in_ok-append-2.ensures.items ∙ ap (λ l. l ++ c.args.called.items) c.in_ok-append.ensures.items)) all
