use Rattle.std.proofs.Common.{◌≡◌, ℕ, List, ◌++◌, ap, ◌∙◌, codes, append_assoc, string_bytes}
use Rattle.lab_told.specs.Attributes.{flags_field, most_field, size_field, count_field}
use Rattle.lab_told.proofs.asking.push_attributes.Goals as goal

regrouped : (a b c d e f : List ℕ) → a ++ (b ++ (c ++ (d ++ (e ++ f)))) ≡ ((a ++ b) ++ ((c ++ d) ++ e)) ++ f
regrouped a b c d e f = simp append_assoc

pub returns : goal.returns
unfolding flags_field most_field size_field count_field
returns c =
    let parts = regrouped (codes " {" ++ flags_field c.args.flags) (codes ", ") (most_field c.args.most) (size_field c.args.size) (count_field c.args.count) (codes "}") in
    record { text = c.in_ok-write.ensures.bytes ∙ ap (λ l. string_bytes c.args.text.now ++ l) parts }
