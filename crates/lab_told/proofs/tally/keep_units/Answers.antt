use Rattle.std.proofs.Common.{◌≡◌, ap, ◌∙◌, rules}
use Rattle.std.proofs.lemmas.Fn.{filter_same}
use Rattle.lab_told.specs.Answers.{act_done}
use Rattle.lab_told.specs.Units.{remaining_units, units_by}
use Rattle.lab_told.proofs.tally.keep_units.Goals as goal
use Rattle.lab_told.proofs.tally.keep_units.Goals.{in-Some-SemWait-default+in_ok-count_units-in-Some-SemWait-default, in-Some-SemPost-default+in_ok-count_units-in-Some-SemPost-default, in-Some+in-MqOpen-1, in-None-1}

pub returns : goal.returns
returns c =
    let left : c.retain.new.self.items ≡ remaining_units c.args.kernel.now c.match-done.counts.items =
    filter_same _ _ _ (λ x b f' k. search rules) _ _ c.retain.ensures.filtered in
    let by : c.match-done.counts.items ≡ units_by c.args.pid (act_done c.args.act.now) c.args.counts.now.items =
    elim c.match-done.branch [
      | in-Some-SemWait-default+in_ok-count_units-in-Some-SemWait-default w ↦ search rules
      | in-Some-SemPost-default+in_ok-count_units-in-Some-SemPost-default w ↦ search rules
      | in-Some+in-MqOpen-1 w ↦ search rules
      | in-None-1 w ↦ search rules
    ] in
    record { kept = left ∙ ap (remaining_units c.args.kernel.now) by }
