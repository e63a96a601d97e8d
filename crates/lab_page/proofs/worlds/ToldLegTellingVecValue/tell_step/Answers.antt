use Rattle.std.proofs.Common.{map}
use Rattle.serde_json.specs.View.{view}
use Rattle.lab_page.proofs.LegLemmas.{leg-told}
use Rattle.lab_page.proofs.worlds.ToldLegTellingVecValue.tell_step.Goals as goal

pub returns-clause-told : goal.returns-clause-told
returns-clause-told c = λ s next.
    leg-told (λ v. map view v.items) c.push_told.result s c.args.taken.now c.args.events.now c.push_told.new.events next c.push_told.ensures.added
