-- The text of an exploration, and what stands in it.
use Rattle.std.proofs.Common.{ℕ, zero, suc, ◌≡◌, ◌+◌, Bool, true, false, List, [], ◌∷◌, ◌++◌, Option, Some, None, slice_get, get_or, length, refl, sym, ap, subst, ◌∙◌, append-nil, append_assoc, codes, decimal, arith}
use Rattle.lab_sched.specs.declared.schedule.Block.{Block}
use Rattle.lab_sched.specs.ScheduleTexts.{schedule_text}
use Rattle.lab_worlds.specs.declared.ends.End.{End}
use Rattle.lab_worlds.specs.declared.exploration.Lasso.{Lasso}
use Rattle.lab_questions.specs.declared.asked.Show.{Show}
use Rattle.lab_questions.specs.Lines.{AreLines, StandIn}
use Rattle.lab_questions.specs.EndTexts.{text_of, schedule_line, end_lines, ends_text, endless_line, lasso_line, lasso_text, extent_text, extent_line}
use Rattle.lab_questions.proofs.LineLemmas.{HasNoFeed, IsLine, lines-append, lines-onto, line-onto, no_feed_from, no_feed-append, decimal_no_feed}

-- lines that stand in a text do so where whole lines are put before it
pub stand_behind : (front these text : List ℕ) → AreLines front → StandIn these text → StandIn these (front ++ text)
stand_behind front these text h s = record {
  above = front ++ s.above;
  below = s.below;
  whole = lines-append front s.above h s.whole;
  stand = ap (λ l. front ++ l) s.stand ∙ sym (append_assoc front s.above (these ++ s.below));
}

-- and where anything is put behind it
pub stand_before : (these text more : List ℕ) → StandIn these text → StandIn these (text ++ more)
stand_before these text more s = record {
  above = s.above;
  below = s.below ++ more;
  whole = s.whole;
  stand = ap (λ l. l ++ more) s.stand ∙ append_assoc s.above (these ++ s.below) more ∙ ap (λ l. s.above ++ l) (append_assoc these s.below more);
}

-- lines between others that stand in a text
pub stand_within : (front these back text : List ℕ) → AreLines front → StandIn (front ++ (these ++ back)) text → StandIn these text
stand_within front these back text h s = record {
  above = s.above ++ front;
  below = back ++ s.below;
  whole = lines-append s.above front s.whole h;
  stand = s.stand ∙ ap (λ l. s.above ++ l) (append_assoc front (these ++ back) s.below ∙ ap (λ l. front ++ l) (append_assoc these back s.below))
      ∙ sym (append_assoc s.above front (these ++ (back ++ s.below)));
}

-- the lines of one end more, piece by piece
pub end_told : (bytes : List ℕ) (n : ℕ) (text : List ℕ) (blocks : List Block)
    → bytes ++ (codes "end " ++ (decimal n ++ (codes "\n" ++ (text ++ (codes "schedule " ++ (schedule_text blocks ++ codes "\n")))))) ≡ bytes ++ end_lines n text blocks
unfolding end_lines schedule_line
end_told bytes n text blocks = around bytes (codes "end ") (decimal n) (codes "\n") text (codes "schedule ") (schedule_text blocks)
  where
    around : (bytes a b c d e f : List ℕ) → bytes ++ (a ++ (b ++ (c ++ (d ++ (e ++ (f ++ c)))))) ≡ bytes ++ (a ++ b ++ c ++ d ++ (e ++ f ++ c))
    around bytes a b c d e f = simp append_assoc

-- one end more
pub ends-push : (show : Show) (n : ℕ) (es : List End) (e : End) → ends_text show n (es ++ e ∷ []) ≡ ends_text show n es ++ end_lines (n + length es) (text_of show e) e.schedule
unfolding ends_text
ends-push show n [] e = let first : n ≡ n + 0 = omega arith in append-nil (end_lines n (text_of show e) e.schedule) ∙ ap (λ k. end_lines k (text_of show e) e.schedule) first
ends-push show n (x ∷ xs) e =
    let lines = end_lines n (text_of show x) x.schedule in
    let next : (n + 1) + length xs ≡ n + suc (length xs) = omega arith in
    ap (λ l. lines ++ l) (ends-push show (n + 1) xs e ∙ ap (λ k. ends_text show (n + 1) xs ++ end_lines k (text_of show e) e.schedule) next)
    ∙ sym (append_assoc lines (ends_text show (n + 1) xs) (end_lines (n + suc (length xs)) (text_of show e) e.schedule))

end_whole : (n : ℕ) (text : List ℕ) (blocks : List Block) → AreLines (end_lines n text blocks)
unfolding end_lines schedule_line
end_whole n text blocks = lines-onto (codes "end " ++ decimal n ++ codes "\n" ++ text) (codes "schedule " ++ schedule_text blocks)

pub ends_whole : (show : Show) (n : ℕ) (es : List End) → AreLines (ends_text show n es)
unfolding ends_text
ends_whole show n [] = tt
ends_whole show n (e ∷ es) =
    lines-append (end_lines n (text_of show e) e.schedule) (ends_text show (n + 1) es) (end_whole n (text_of show e) e.schedule) (ends_whole show (n + 1) es)

-- the lines of an end stand in the text
pub end_stands : (show : Show) (n : ℕ) (es : List End) (i : ℕ) (t : End) → slice_get es i ≡ Some t → StandIn (end_lines (n + i) (text_of show t) t.schedule) (ends_text show n es)
unfolding ends_text
end_stands show n [] i t at = absurd (cc)
end_stands show n (e ∷ es) zero t at =
    let is : e ≡ t = cc in
    let first : n ≡ n + 0 = omega arith in
    record {
      above = [];
      below = ends_text show (n + 1) es;
      whole = tt;
      stand = ap (λ x. end_lines n (text_of show x) x.schedule ++ ends_text show (n + 1) es) is ∙ ap (λ k. end_lines k (text_of show t) t.schedule ++ ends_text show (n + 1) es) first;
    }
end_stands show n (e ∷ es) (suc i) t at =
    let number : (n + 1) + i ≡ n + suc i = omega arith in
    let later = subst (λ k. StandIn (end_lines k (text_of show t) t.schedule) (ends_text show (n + 1) es)) number (end_stands show (n + 1) es i t at) in
    stand_behind (end_lines n (text_of show e) e.schedule) (end_lines (n + suc i) (text_of show t) t.schedule) (ends_text show (n + 1) es) (end_whole n (text_of show e) e.schedule) later

pub lasso_whole : (r : Option Lasso) → AreLines (lasso_text r)
unfolding lasso_line
lasso_whole None = tt
lasso_whole (Some r) = lines-onto (endless_line ++ schedule_line r.schedule) (codes "round " ++ schedule_text r.steps)

-- the line above a lasso
pub endless_stands : (r : Lasso) → StandIn endless_line (lasso_text (Some r))
endless_stands r = record {
  above = [];
  below = schedule_line r.schedule ++ lasso_line r.steps;
  whole = tt;
  stand = append_assoc endless_line (schedule_line r.schedule) (lasso_line r.steps);
}

extent_no_feed : (complete : Bool) → HasNoFeed (extent_text complete)
extent_no_feed true = no_feed_from (codes "complete") refl
extent_no_feed false = no_feed_from (codes "incomplete") refl

-- the last line is one
pub extent_is_line : (complete : Bool) (worlds : ℕ) → IsLine (extent_line complete worlds)
unfolding extent_line
extent_is_line complete worlds =
    line-onto (extent_text complete ++ codes " " ++ decimal worlds) (codes " worlds\n")
    (no_feed-append (extent_text complete ++ codes " ") (decimal worlds)
    (no_feed-append (extent_text complete) (codes " ") (extent_no_feed complete) (no_feed_from (codes " ") refl)) (decimal_no_feed worlds))
    (line-onto (codes " worlds") (10 ∷ []) (no_feed_from (codes " worlds") refl) refl)

-- it tells whether an exploration is complete
pub extent_tells : (complete : Bool) (m n : ℕ) → extent_line complete m ≡ extent_line true n → complete ≡ true
unfolding extent_line
extent_tells true m n same = refl
extent_tells false m n same = let first : ◌≡◌ {A = ℕ} 105 99 = ap (λ (l : List ℕ). get_or l 0 0) same in absurd (omega arith)
