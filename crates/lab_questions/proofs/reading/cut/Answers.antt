use Rattle.std.proofs.Common.{◌≡◌, ◌∙◌, Option, ℕ, Some, None, position, rules, sym, tests}
use Rattle.std.proofs.lemmas.Iterator.{YieldsList-from_slice}
use Rattle.std.proofs.lemmas.Iterator.Search.{position_from_yields_List}
use Rattle.lab_questions.specs.Written.{is_quote}
use Rattle.lab_questions.proofs.ReadingLemmas.{behind_none, before_quote, behind_quote}
use Rattle.lab_questions.proofs.reading.cut.Goals as goal

pub returns-in_err-place-clause-none : goal.returns-in_err-place-clause-none
returns-in_err-place-clause-none c =
    let found : c.position.result ≡ position is_quote c.args.text.now =
    position_from_yields_List is_quote _ _ c.position.result c.position.ensures.ran (YieldsList-from_slice c.args.text.now cc) (λ x b q k. search (rules, tests)) in
    let none : ◌≡◌ {A = Option ℕ} c.position.result None = search rules in
    let empty = behind_none c.args.text.now (sym found ∙ none) in
    search (rules, empty)

pub returns-clause-head : goal.returns-clause-head
returns-clause-head c =
    let found : c.position.result ≡ position is_quote c.args.text.now =
    position_from_yields_List is_quote _ _ c.position.result c.position.ensures.ran (YieldsList-from_slice c.args.text.now cc) (λ x b q k. search (rules, tests)) in
    let some : ◌≡◌ {A = Option ℕ} c.position.result (Some c.in_ok-place.place) = search rules in
    before_quote c.args.text.now c.in_ok-place.place (sym found ∙ some)

pub returns-clause-string : goal.returns-clause-string
returns-clause-string c =
    let found : c.position.result ≡ position is_quote c.args.text.now =
    position_from_yields_List is_quote _ _ c.position.result c.position.ensures.ran (YieldsList-from_slice c.args.text.now cc) (λ x b q k. search (rules, tests)) in
    let some : ◌≡◌ {A = Option ℕ} c.position.result (Some c.in_ok-place.place) = search rules in
    behind_quote c.args.text.now c.in_ok-place.place (sym found ∙ some)
