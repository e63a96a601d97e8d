use Rattle.std.proofs.Common.{◌++◌, List, subst}
use Rattle.std.proofs.lemmas.Result.{err_from_is_err_and}
use Rattle.serde_json.specs.Data.{Data}
use Rattle.lab_page.specs.Faults.{IsFault}
use Rattle.lab_page.specs.Private.Json.{more_json}
use Rattle.lab_page.specs.Private.Stores.{AddsStores}
use Rattle.lab_page.specs.Private.Written.{AddsStep}
use Rattle.lab_page.proofs.PairLemmas.{both-told}
use Rattle.lab_page.proofs.StoreLemmas.{stores-told}
use Rattle.lab_page.proofs.WrittenLemmas.{step-told, moment-next}
use Rattle.lab_page.proofs.run.LookTellingTuple2MomentsStores.tell_step.Goals as goal

pub returns-clause-told : goal.returns-clause-told
returns-clause-told c = λ s next.
    both-told (AddsStep c.args.self.now) AddsStores s _ c.args.told.now (c.keep_step.new.self, c.keep.new.self)
    (step-told c.args.self.now s c.args.taken.now c.args.told.now.0 c.keep_step.new.self next c.in_ok-keep_step.ensures.moment
    c.in_ok-keep_step.ensures.line c.in_ok-keep_step.ensures.past)
    (stores-told s c.args.taken.now c.args.told.now.1 c.keep.new.self next c.requires.process c.in_ok-keep.ensures.kept)

pub returns-in_err-keep_step-clause-fault : goal.returns-in_err-keep_step-clause-fault
returns-in_err-keep_step-clause-fault c = λ s next.
    let v = c.args.self.now in
    let old = c.args.told.now.0 in
    let e = err_from_is_err_and c.from_residual.result c.from_residual.ensures.1 in
    rw (e.1, e.2) (subst (λ (l : List Data). IsFault c.in_err-keep_step.field-0.0 (old.json ++ more_json l))
    (moment-next v.page v.whole s old.past c.args.taken.now next) c.in_err-keep_step.ensures.fault)
