-- Words that were seen, and their texts.
use Rattle.std.proofs.Common.{◌≡◌, ℕ, ◌+◌, Bool, true, List, ap, sym, ◌∙◌}
use Rattle.std.specs.Prelude.{slice_set}
use Rattle.std.proofs.lemmas.List.Sums.{fold-append}
use Rattle.lab_moments.specs.Values.{all_below}
use Rattle.lab_moments.specs.Words.{word_data, seen_with, texts_data}
use Rattle.lab_moments.proofs.PlainLemmas.{IsPlain, plain}
use Rattle.lab_moments.proofs.ValueLemmas.{all_below_more}

-- the texts have no floats
pub texts-plain : (seen : List Bool) → IsPlain (texts_data seen)
unfolding texts_data word_data
texts-plain seen = search plain

-- the words of one number more
pub seen-more : (none : List Bool) (f : ℕ → List ℕ) (i : ℕ) (old now : List Bool) → now ≡ seen_with old (f i) → old ≡ seen_with none (all_below i f)
    → now ≡ seen_with none (all_below (i + 1) f)
seen-more none f i old now added so_far =
    added ∙ ap (λ (s : List Bool). seen_with s (f i)) so_far ∙ sym (fold-append (λ (s : List Bool) (w : ℕ). slice_set s w true) none (all_below i f) (f i))
    ∙ ap (seen_with none) (sym (all_below_more f i))
