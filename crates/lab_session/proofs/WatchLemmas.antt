-- Watched words that no step has changed.
use Rattle.std.proofs.Common.{◌≡◌, ℕ, ◌==◌, ◌||◌, List, [], ◌∷◌, Bool, false, map, refl, sym, ap, ◌∙◌}
use Rattle.std.proofs.lemmas.Bool.{eqb-true, not-false, or_parts}
use Rattle.std.specs.List.{list_any}
use Rattle.lab_sched.specs.Worlds.{WorldState, step}
use Rattle.lab_session.specs.Marks.{is_at_break, of_kind}
use Rattle.lab_session.specs.Stops.{is_stop}
use Rattle.lab_session.specs.Watches.{word_at, watched_at, watched_words, has_changed, changes_watched}
use Rattle.lab_session.specs.declared.marks.Mark.{Mark}
use Rattle.lab_session.specs.declared.marks.MarkKind.TheVariants.{Watch}
use Rattle.lab_session.specs.declared.stepping.Watched.{Watched}

-- where no word has changed, the words are the same
words-same : (ms : List Mark) (w v : WorldState) → list_any (has_changed v) (map (watched_at w) ms) ≡ false → map (watched_at v) ms ≡ map (watched_at w) ms
words-same [] w v e = refl
words-same (m ∷ ms) w v e =
    let parts = or_parts (has_changed v (watched_at w m)) (list_any (has_changed v) (map (watched_at w) ms)) e in
    let here = eqb-true (word_at v m) (word_at w m) (not-false (word_at v m == word_at w m) parts.0) in
    let rest = words-same ms w v parts.1 in
    rw (here, rest) refl

-- whether the process stopped, as the code tells it
pub stop-told : (ms : List Mark) (p : ℕ) (w v : WorldState) (xs : List Watched) (told : Bool) → v ≡ step w p → watched_words ms w ≡ xs
    → told ≡ (is_at_break ms p v || list_any (has_changed v) xs) → is_stop ms p w ≡ told
stop-told ms p w v xs told v-is seen is =
    sym (is ∙ ap (λ u. is_at_break ms p u || list_any (has_changed u) xs) v-is ∙ ap (λ ys. is_at_break ms p (step w p) || list_any (has_changed (step w p)) ys) (sym seen))

-- the watched words behind a step that is no stop
pub words-on : (ms : List Mark) (p : ℕ) (w v : WorldState) (xs : List Watched) → v ≡ step w p → watched_words ms w ≡ xs → is_stop ms p w ≡ false
    → watched_words ms v ≡ xs
words-on ms p w v xs v-is seen none =
    ap (watched_words ms) v-is ∙ words-same (of_kind Watch ms) w (step w p) (or_parts (is_at_break ms p (step w p)) (changes_watched ms p w) none).1 ∙ seen
