use Rattle.std.proofs.Common.{◌≡◌, [], ◌∷◌, rules, true}
use Rattle.lab_session.specs.Marks.{break_at, is_at_break}
use Rattle.lab_session.specs.Sessions.{state_of}
use Rattle.lab_session.proofs.PlayLemmas.{none_until}
use Rattle.lab_session.proofs.state.Session.step_until.Goals as goal

pub returns-then-is_at_break : goal.returns-then-is_at_break
returns-then-is_at_break c =
    let s = state_of c.args.self.now in
    let here : is_at_break (break_at c.args.pid c.args.address ∷ []) c.args.pid s.world ≡ true = search rules in
    record { state = none_until s c.args.pid c.args.address c.args.count here }
