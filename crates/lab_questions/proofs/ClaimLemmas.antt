-- What the text says of programs, by what was found of them.
use Rattle.std.proofs.Common.{ℕ, ◌≡◌, ◌+◌, Bool, true, false, List, [], ◌∷◌, ◌++◌, Option, Some, None, get_or, refl, sym, ap, subst, ◌∙◌, append_assoc, append-nil, flat_map, codes, decimal, not, arith, ◌≤◌}
use Rattle.std.specs.List.Sorted.{IsNonDecreasingBy}
use Rattle.std.proofs.lemmas.Option.{slice_get-get_or}
use Rattle.ipc_kernel.specs.Kernel.{KernelState}
use Rattle.lab_sched.specs.declared.schedule.Block.{Block}
use Rattle.lab_sched.specs.declared.verdict.Verdict.TheVariants.{Stuck}
use Rattle.lab_sched.specs.ScheduleTexts.{schedule_text}
use Rattle.lab_sched.specs.Worlds.{WorldState, run}
use Rattle.lab_sched.specs.Verdicts.{IsVerdict, verdict_of}
use Rattle.lab_sched.proofs.VerdictLemmas.{verdict_from}
use Rattle.lab_texts.specs.Verdicts.{verdict_line, verdict_text}
use Rattle.lab_texts.specs.Reports.{report_text, process_reports}
use Rattle.lab_worlds.specs.declared.exploration.Lasso.{Lasso}
use Rattle.lab_worlds.specs.declared.exploration.Exploration.{Exploration}
use Rattle.lab_worlds.specs.Closed.{AreAtRest}
use Rattle.lab_worlds.proofs.Pushes.{all_at}
use Rattle.lab_worlds.specs.Ends.{IsEnd, AreEnds, HaveAllEnds, NoneStuck, HaveFewestCalls}
use Rattle.lab_questions.specs.declared.answers.Answer.{Answer}
use Rattle.lab_questions.specs.declared.asked.Show.{Show}
use Rattle.lab_questions.specs.Claims.{SaysComplete, SaysEndless, SaysStuck, TellsEveryEnd}
use Rattle.lab_questions.specs.EndTexts.{text_of, told_ends, schedule_line, end_lines, ends_text, endless_line, lasso_text, extent_line}
use Rattle.lab_questions.specs.Left.{left_text}
use Rattle.lab_questions.specs.Lines.{AreLines, StandIn}
use Rattle.lab_questions.specs.Private.Says.{Says}
use Rattle.lab_questions.specs.Shown.{outputs_text, outcome_text, head_text, with_left, shown_text}
use Rattle.lab_questions.specs.Asked.{is_never}
use Rattle.lab_questions.specs.Texts.{Unmet, first_line, unmet_lines, unmet_among, answers_text}
use Rattle.lab_questions.proofs.LineLemmas.{lines-append, lines-feed, lines-onto, same_last}
use Rattle.lab_questions.proofs.OneText.{same_text}
use Rattle.lab_questions.proofs.Reports.{report_lines, output_lines, same_verdict}
use Rattle.lab_questions.proofs.ToldEnds.{told_some, told_all}
use Rattle.lab_questions.proofs.TextLemmas.{stand_behind, stand_before, stand_within, ends_whole, end_stands, lasso_whole, endless_stands, extent_is_line, extent_tells}

-- the lines of what isn't so are whole lines
unmet_whole : (us : List Unmet) → AreLines (flat_map unmet_lines us)
unfolding schedule_line
unmet_whole [] = tt
unmet_whole (u ∷ us) =
    lines-append (unmet_lines u) (flat_map unmet_lines us)
    (lines-onto (u.head ++ codes " " ++ u.asked ++ codes "\n" ++ first_line u.first) (codes "schedule " ++ schedule_text u.steps)) (unmet_whole us)

-- the verdict stands in what is told of a world, behind whole lines
head_parts : (out : Bool) (w : WorldState) → (front : List ℕ) × AreLines front × (head_text out w ≡ front ++ verdict_text w)
unfolding report_text outcome_text
head_parts false w = (process_reports w, report_lines w, refl)
head_parts true w = (outputs_text w, output_lines w, refl)

left_parts : (left : Bool) (k : KernelState) (text front verdict : List ℕ) → text ≡ front ++ verdict → (rest : List ℕ) × (with_left left k text ≡ front ++ (verdict ++ rest))
left_parts false k text front verdict is = ([], is ∙ ap (λ l. front ++ l) (sym (append-nil verdict)))
left_parts true k text front verdict is = (left_text k, ap (λ t. t ++ left_text k) is ∙ append_assoc front verdict (left_text k))

regrouped : (h f v r l : List ℕ) → (h ++ (f ++ (v ++ r))) ++ l ≡ (h ++ f) ++ (v ++ (r ++ l))
regrouped h f v r l = ap (λ x. x ++ l) (sym (append_assoc h f (v ++ r))) ∙ append_assoc (h ++ f) (v ++ r) l ∙ ap (λ x. (h ++ f) ++ x) (append_assoc v r l)

stuck_stands : (show : Show) (w : WorldState) (n : ℕ) (blocks : List Block) (text : List ℕ) → verdict_of w ≡ Stuck → StandIn (end_lines n (shown_text show w) blocks) text → SaysStuck text
unfolding end_lines
stuck_stands show w n blocks text is stands =
    let above = codes "end " ++ decimal n ++ codes "\n" in
    let head = head_parts show.out w in
    let left = left_parts show.left w.kernel (head_text show.out w) head.0 (verdict_text w) head.2 in
    let below = left.0 ++ schedule_line blocks in
    let parts = ap (λ t. (above ++ t) ++ schedule_line blocks) left.1 ∙ regrouped above head.0 (verdict_text w) left.0 (schedule_line blocks)
    ∙ ap (λ v. (above ++ head.0) ++ (verdict_line v ++ below)) is in
    stand_within (above ++ head.0) (verdict_line Stuck) below text (lines-append above head.0 (lines-feed (codes "end " ++ decimal n)) head.1)
    (subst (λ l. StandIn l text) parts stands)

module _ (show : Show) (found : Exploration) (answers : List Answer) (text : List ℕ) (is : text ≡ answers_text false show found answers) where
  abbrev ends : List ℕ
  ends = ends_text show 1 (told_ends show found.ends.items)

  abbrev words : List ℕ
  words = flat_map unmet_lines (unmet_among (λ q. not (is_never q)) found.ends.items answers)

  abbrev reached : List ℕ
  reached = flat_map unmet_lines (unmet_among is_never found.ends.items answers)

  abbrev last : List ℕ
  last = extent_line found.complete found.worlds

  -- the last line, and what is above it
  whole : text ≡ (ends ++ words ++ (reached ++ lasso_text found.lasso)) ++ last
  whole = is ∙ sym (append_assoc (ends ++ words) (reached ++ lasso_text found.lasso) last)

  front_whole : AreLines (ends ++ words)
  front_whole =
      lines-append ends words (ends_whole show 1 (told_ends show found.ends.items)) (unmet_whole (unmet_among (λ q. not (is_never q)) found.ends.items answers))

  above_whole : AreLines (ends ++ words ++ (reached ++ lasso_text found.lasso))
  above_whole =
      lines-append (ends ++ words) (reached ++ lasso_text found.lasso) front_whole
      (lines-append reached (lasso_text found.lasso) (unmet_whole (unmet_among is_never found.ends.items answers)) (lasso_whole found.lasso))

  -- a text that says `complete` tells an exploration that is
  is_complete : SaysComplete text → found.complete ≡ true
  is_complete says =
      extent_tells found.complete found.worlds says.0
      (same_last (ends ++ words ++ (reached ++ lasso_text found.lasso)) says.1.above last (extent_line true says.0) above_whole says.1.whole
      (extent_is_line found.complete found.worlds) (extent_is_line true says.0) (sym whole ∙ says.1.ends))

  -- what stands among the ends stands in the text
  in_text : (these : List ℕ) → StandIn these ends → StandIn these text
  in_text these stands =
      subst (StandIn these) (sym whole)
      (stand_before these (ends ++ words ++ (reached ++ lasso_text found.lasso)) last
      (stand_before these (ends ++ words) (reached ++ lasso_text found.lasso) (stand_before these ends words stands)))

  -- a text that doesn't say `endless` tells an exploration without a lasso
  has_no_lasso : (SaysEndless text → ⊥) → found.lasso ≡ None
  has_no_lasso quiet = by found.lasso refl
    where
      by : (r : Option Lasso) → found.lasso ≡ r → found.lasso ≡ None
      by None at = at
      by (Some r) at =
          let stands = subst (StandIn endless_line) (ap lasso_text (sym at)) (endless_stands r) in
          absurd (quiet (subst (StandIn endless_line) (sym whole)
          (stand_before endless_line (ends ++ words ++ (reached ++ lasso_text found.lasso)) last
          (stand_behind (ends ++ words) endless_line (reached ++ lasso_text found.lasso) front_whole
          (stand_behind reached endless_line (lasso_text found.lasso) (unmet_whole (unmet_among is_never found.ends.items answers)) stands)))))

  -- where all ends were found, by the fewest calls, the text tells each
  tells_every_end : (start : WorldState) → AreEnds start found.ends.items
      → IsNonDecreasingBy (λ e. e.calls) found.ends.items → HaveAllEnds start found.ends.items → HaveFewestCalls start found.ends.items → TellsEveryEnd show start text
  tells_every_end start each sorted all fewest ps rest =
      let es = found.ends.items in
      let w = run start ps in
      let one = all ps rest in
      let has = fewest ps rest in
      let first = all_at (IsEnd start) es one.0 one.1 each one.2 in
      let end = all_at (IsEnd start) es has.0 has.1 each has.2 in
      let verdict = same_verdict w has.1.world one.1.verdict has.1.verdict has.3.processes one.4 first.closed end.verdict end.closed in
      let stands = subst (IsVerdict w) verdict one.4 in
      let same = same_text show w has.1.world has.3.processes has.3.kernel (sym (verdict_from has.1.world has.1.verdict end.verdict) ∙ verdict_from w has.1.verdict stands) in
      let some = told_some show (λ s t. s.calls ≤ t.calls) (λ e. let h : e.calls ≤ e.calls = omega arith in h) es has.1 (λ i j d h k. sorted i j d (omega arith) k) (has.0, has.2) in
      let told = all_at (IsEnd start) (told_ends show es) some.1.0 some.0 (told_all show (IsEnd start) es each) some.1.1 in
      let shown : text_of show some.0 ≡ shown_text show w = some.2 ∙ same in
      let number = 1 + some.1.0 in
      let lines = in_text (end_lines number (text_of show some.0) some.0.schedule) (end_stands show 1 (told_ends show es) some.1.0 some.0 some.1.1) in
      record {
        number = number;
        schedule = some.0.schedule;
        told = subst (λ r. StandIn (end_lines number r some.0.schedule) text) shown lines;
        effective = told.effective;
        rests = subst AreAtRest (sym told.leads) told.rests;
        few = omega (arith, told.calls, some.3, has.4);
        shown = ap (shown_text show) told.leads ∙ shown;
      }

  -- a text that doesn't say `verdict stuck` tells no end that is stuck
  none_stuck : (start : WorldState) → AreEnds start found.ends.items → (SaysStuck text → ⊥) → NoneStuck found.ends.items
  none_stuck start each quiet i d within stuck =
      let es = found.ends.items in
      let e = get_or es i d in
      let end = each i d within in
      let some = told_some show (λ s t. Unit {0}) (λ x. tt) es e (λ j k x h l. tt) (i, slice_get-get_or es i d within) in
      let number = 1 + some.1.0 in
      let stands = in_text (end_lines number (text_of show some.0) some.0.schedule) (end_stands show 1 (told_ends show es) some.1.0 some.0 some.1.1) in
      quiet (stuck_stands show e.world number some.0.schedule text (sym (verdict_from e.world e.verdict end.verdict) ∙ stuck)
      (subst (λ r. StandIn (end_lines number r some.0.schedule) text) some.2 stands))

-- what the text of a search says
pub says : (walks : Bool) (show : Show) (found : Exploration) (answers : List Answer) (text : List ℕ)
    → text ≡ answers_text walks show found answers → walks ≡ false → Says show found text
says true show found answers text is searched = absurd (cc)
says false show found answers text is searched = record {
  complete = is_complete show found answers text is;
  bounded = has_no_lasso show found answers text is;
  free = none_stuck show found answers text is;
  every = tells_every_end show found answers text is;
}
