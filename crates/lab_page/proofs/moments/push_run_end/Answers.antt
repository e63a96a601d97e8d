use Rattle.std.proofs.Common.{◌≡◌, append_assoc, rules}
use Rattle.serde_json.specs.Data.{boolean}
use Rattle.serde_json.specs.View.{view}
use Rattle.serde_json.specs.declared.value.Value.{Bool, the_lemmas}
use Rattle.lab_page.specs.Private.Json.{run_end}
use Rattle.lab_page.proofs.moments.push_run_end.Goals as goal

pub returns : goal.returns
unfolding run_end
returns c =
    let seen : view (Bool c.args.whole) ≡ boolean c.args.whole = search (rules, the_lemmas) in
    record {
      added = simp (
        c.in_ok-push.ensures.items,
        c.in_ok-push_behind-3.ensures.added,
        c.in_ok-push_behind-2.ensures.added,
        c.in_ok-push_behind.ensures.added,
        c.in_ok-schedule_value.ensures.value,
        seen,
        append_assoc,
      );
    }
