use Rattle.std.proofs.Common.{◌≡◌, rules}
use Rattle.std.proofs.lemmas.Fn.{filter_same}
use Rattle.lab_told.specs.Origins.{origins_without_queue}
use Rattle.lab_told.proofs.origins.keep_origins.Goals as goal

pub returns-in-Some-MqOpen-default : goal.returns-in-Some-MqOpen-default
returns-in-Some-MqOpen-default c =
    let others : c.retain.new.self.items ≡ origins_without_queue c.in-Some-MqOpen-default.place c.args.origins.now.items =
    filter_same _ _ _ (λ x b f' k. search rules) _ _ c.retain.ensures.filtered in
    record { kept = rw others (search rules) }
