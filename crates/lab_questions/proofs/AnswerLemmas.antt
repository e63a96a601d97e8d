-- What answers on the ends of an exploration say of programs.
use Rattle.std.proofs.Common.{ℕ, ◌≡◌, List, [], ◌∷◌, Option, Some, None, All, Any, IfSome, true, slice_get, map, sym, ap, subst, refl, ◌∙◌}
use Rattle.lab_sched.specs.declared.verdict.Verdict.TheVariants as verdict
use Rattle.lab_sched.specs.Schedules.{steps_of}
use Rattle.lab_sched.specs.Worlds.{WorldState, run, machine_of}
use Rattle.lab_sched.specs.Verdicts.{IsVerdict, AreStuck}
use Rattle.lab_sched.proofs.VerdictLemmas.{verdict_from}
use Rattle.lab_worlds.specs.declared.ends.End.{End}
use Rattle.lab_worlds.specs.Calls.{AreAlike}
use Rattle.lab_worlds.specs.Closed.{AreAtRest}
use Rattle.lab_worlds.proofs.Pushes.{all_at}
use Rattle.lab_worlds.specs.Ends.{IsEnd, AreEnds, HaveAllEnds, IsReported}
use Rattle.lab_questions.specs.declared.asked.Waiter.{Waiter}
use Rattle.lab_questions.specs.declared.asked.Word.{Word}
use Rattle.lab_questions.specs.declared.asked.Word.TheVariants.{Ended, Stuck, Halted, Empty, Same, Output}
use Rattle.lab_questions.specs.declared.asked.Question.TheVariants.{Require}
use Rattle.lab_questions.specs.declared.answers.Found.TheVariants.{Holds, FailsAt}
use Rattle.lab_questions.specs.declared.output.OutputNeed.{OutputNeed}
use Rattle.lab_questions.specs.Requirements.{AreEmptied, outputs}
use Rattle.lab_conditions.proofs.MessageCounts.{messages_alike}
use Rattle.lab_questions.specs.Answered.{IsFound}
use Rattle.lab_questions.specs.Judgments.{Meets, IsMet, IsFault}
use Rattle.lab_questions.specs.Private.Judged.{IsFaultIn}
use Rattle.lab_questions.specs.Outputs.{HasOutput, HasWritten}
use Rattle.lab_questions.specs.Private.Founds.{AreEndsOf}
use Rattle.lab_questions.specs.Programs.{schedule_of, schedule_at, AlwaysMeet, IsRefuted}
use Rattle.lab_worlds.specs.declared.exploration.Exploration.{Exploration}

emptied : (w v : WorldState) → AreAlike w v → AreEmptied v → AreEmptied w
emptied w v alike empty = sym (messages_alike w.kernel v.kernel alike.kernel) ∙ empty

stuck : (w : WorldState) (e : End) → IsVerdict w e.verdict → IsVerdict e.world e.verdict → AreStuck e.world → AreStuck w
stuck w e here there is =
    let same : e.verdict ≡ verdict.Stuck = verdict_from e.world e.verdict there ∙ sym (verdict_from e.world verdict.Stuck is) in
    subst (IsVerdict w) same here

alike_written : (need : OutputNeed) (w v : WorldState) → AreAlike w v → HasWritten need v → HasWritten need w
alike_written need w v is written =
    subst (λ all. Any (λ a. All (λ part. HasOutput part all) a.parts.items) need.alternatives.items)
    (ap (λ ps. map (λ s. (machine_of s).output) ps) is.processes) written

-- worlds at rest are as the word requires, if the ends are that they are alike, beside one and the same
meets : (word : Word) (waiters : List Waiter) (first w v : WorldState) (e f : End) → AreAlike v e.world → AreAlike w f.world
    → IsVerdict w f.verdict → IsVerdict f.world f.verdict
    → Meets word waiters first e.world → Meets word waiters first f.world → Meets word waiters v w
meets Ended waiters first w v e f other alike here there a b =
    λ p s at. b p s (ap (λ ps. slice_get ps p) alike.processes ∙ at)
meets Stuck waiters first w v e f other alike here there a b = stuck w f here there b
meets Halted waiters first w v e f other alike here there a b =
    λ p s at. b p s (ap (λ ps. slice_get ps p) alike.processes ∙ at)
meets Empty waiters first w v e f other alike here there a b = emptied w f.world alike b
meets (Output need) waiters first w v e f other alike here there a b = alike_written need w f.world alike b
meets Same waiters first w v e f other alike here there a b =
    sym (written w f.world alike) ∙ b ∙ sym a ∙ written v e.world other
  where
    written : (x y : WorldState) → AreAlike x y → outputs y ≡ outputs x
    written x y is = ap (λ ps. map (λ s. (machine_of s).output) ps) is.processes

if_some : (P : End → Type 0) (o : Option End) (e : End) → o ≡ Some e → IfSome o P → P e
if_some P o e is h = subst (λ x. IfSome x P) is h

none_first : (es : List End) (i : ℕ) (e : End) → slice_get es 0 ≡ None → slice_get es i ≡ Some e → ⊥
none_first [] i e none has = absurd (cc)
none_first (x ∷ xs) i e none has = absurd (cc)

-- where all ends were found, and each is as the word requires, every world at rest is
pub always_meet : (word : Word) (waiters : List Waiter) (start : WorldState) (ends : List End) → AreEnds start ends → HaveAllEnds start ends
    → All (IsMet word waiters ends) ends → AlwaysMeet word waiters start
always_meet word waiters start ends each all met ps qs rest_p rest_q =
    let one = all ps rest_p in
    let two = all qs rest_q in
    by (slice_get ends 0) refl one two
  where
    by : (o : Option End) → slice_get ends 0 ≡ o → IsReported ends (run start ps) → IsReported ends (run start qs) → Meets word waiters (run start ps) (run start qs)
    by None at one two = absurd (none_first ends one.0 one.1 at one.2)
    by (Some first) at one two =
        let end = all_at (IsEnd start) ends two.0 two.1 each two.2 in
        meets word waiters first.world (run start qs) (run start ps) one.1 two.1 one.3 two.3 two.4 end.verdict
        (if_some (λ x. Meets word waiters x.world one.1.world) (slice_get ends 0) first at (all_at (IsMet word waiters ends) ends one.0 one.1 met one.2))
        (if_some (λ x. Meets word waiters x.world two.1.world) (slice_get ends 0) first at (all_at (IsMet word waiters ends) ends two.0 two.1 met two.2))

-- an end that isn't as the word requires shows that by its schedule, and that of the first
pub refuted : (word : Word) (waiters : List Waiter) (start : WorldState) (ends : List End) (i : ℕ) → AreEnds start ends → IsFault word waiters ends i
    → IsRefuted word waiters start (schedule_at ends 0) (schedule_at ends i)
refuted word waiters start ends i each fault = by (slice_get ends 0) refl
  where
    by : (o : Option End) → slice_get ends 0 ≡ o → IsRefuted word waiters start (schedule_at ends 0) (schedule_at ends i)
    by None at = absurd (fault.unmet (subst (λ o. IfSome o (λ x. Meets word waiters x.world fault.end.world)) (sym at) tt))
    by (Some first) at =
        let one = all_at (IsEnd start) ends 0 first each at in
        let two = all_at (IsEnd start) ends i fault.end each fault.there in
        let a = ap schedule_of (sym at) in
        let b = ap schedule_of (sym fault.there) in
        subst (λ x. IsRefuted word waiters start x (schedule_at ends i)) a (subst (λ x. IsRefuted word waiters start first.schedule x) b
        (record {
          first = one.effective;
          first_rests = subst AreAtRest (sym one.leads) one.rests;
          second = two.effective;
          second_rests = subst AreAtRest (sym two.leads) two.rests;
          unmet = λ met. fault.unmet (subst (λ o. IfSome o (λ x. Meets word waiters x.world fault.end.world)) (sym at)
              (subst (λ w. Meets word waiters first.world w) two.leads (subst (λ v. Meets word waiters v (run start (steps_of fault.end.schedule))) one.leads met)));
        }))

-- a word of which an end isn't as it requires
pub fault_found : (word : Word) (waiters : List Waiter) (e : Exploration) (i : ℕ) → IsFaultIn word waiters e.ends.items (Some i)
    → (start : WorldState) → AreEndsOf start e → IsFound start waiters e (Require word) (FailsAt i)
fault_found word waiters e i fault start ends = (fault, refuted word waiters start e.ends.items i ends.sound fault)

-- a word of which each end is as it requires, where these are all
pub word_holds : (word : Word) (waiters : List Waiter) (e : Exploration) → IsFaultIn word waiters e.ends.items None → e.complete ≡ true
    → (start : WorldState) → AreEndsOf start e → IsFound start waiters e (Require word) Holds
word_holds word waiters e met complete start ends = always_meet word waiters start e.ends.items ends.sound (ends.all complete) met
