use Rattle.std.proofs.Common.{◌≡◌, ◌∙◌, ap, rules, w64, to_z, of_z}
use Rattle.std.proofs.lemmas.Int.{to_z-of_z}
use Rattle.std.proofs.lemmas.Result.{IfOk-weaker}
use Rattle.serde_json.specs.View.{view}
use Rattle.lab_server.specs.Replies.{published_data}
use Rattle.lab_server.proofs.session.Session.publish.Goals as goal

pub returns : goal.returns
returns c =
    let said = view c.in_ok-found.found in
    let same : to_z w64 (of_z w64 c.args.version) ≡ c.args.version = to_z-of_z w64 c.args.version (search rules) in
    record {
      published =
          IfOk-weaker c.published.result _ _ (λ r is. (said, is ∙ ap (λ version. published_data c.args.uri.now version said) same, c.in_ok-found.ensures.said))
          c.published.ensures.published;
    }
