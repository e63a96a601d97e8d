use Rattle.std.proofs.Common.{◌≡◌, ◌∙◌, ◌++◌, ap, codes, map, sym}
use Rattle.std.proofs.Output.{has_written_of_eq}
use Rattle.std.proofs.lemmas.Simd.{map-map}
use Rattle.ipc_kernel.specs.Limits.{object_places}
use Rattle.lab_questions.specs.Left.{left_places}
use Rattle.lab_questions.specs.LeftMembers.{left_member, place_json}
use Rattle.lab_questions.specs.Private.Lefts.{place_of}
use Rattle.lab_questions.specs.Values.{array_json}
use Rattle.lab_questions.proofs.json.ends.LeftMemberDisplay.fmt.Goals as goal

pub returns-clause-writes : goal.returns-clause-writes
returns-clause-writes g c = λ plain ok.
    let k = c.args.self.now.kernel.now in
    let told : map place_of c.deref.result.now ≡ left_places object_places k = ap (map place_of) c.deref.ensures.value ∙ c.in_ok-lefts.ensures.lefts.places in
    has_written_of_eq _ _ _ _ _
    (ap (λ vs. codes ",\"left\":" ++ array_json vs) (sym (map-map place_json place_of c.deref.result.now))
    ∙ ap (λ ps. codes ",\"left\":" ++ array_json (map place_json ps)) told ∙ ap (λ b. left_member b k) (sym c.if-not-self.false))
    (c.write.ensures.writes plain ok)
