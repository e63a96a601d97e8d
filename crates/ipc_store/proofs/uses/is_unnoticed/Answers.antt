use Rattle.std.proofs.Common.{◌&&◌, ap, sym, ◌∙◌}
use Rattle.std.specs.List.{list_all}
use Rattle.ipc_store.specs.Uses.{is_missed_by, uses_but}
use Rattle.ipc_store.proofs.UsesOfSome.{all_but}
use Rattle.ipc_store.proofs.uses.is_unnoticed.Goals as goal

pub returns-then-goes_on_with : goal.returns-then-goes_on_with
returns-then-goes_on_with c =
    let a = c.args in
    record {
      unnoticed = c.all_miss.ensures.all ∙ all_but a.ended.now (is_missed_by a.pid a.object.now a.call.now) a.uses.now
          ∙ sym (ap (λ b. b && list_all (λ it. is_missed_by a.pid a.object.now a.call.now it) (uses_but a.ended.now a.uses.now)) (sym c.goes_on_with.ensures.goes ∙ c.if-goes_on_with.true));
    }
