-- The steps that a session keeps lead to its world, and the way back undoes the last of them.
use Rattle.std.proofs.Common.{◌≡◌, ℕ, ◌+◌, ◌-◌, ◌==◌, nat_lt, ◌++◌, List, [], ◌∷◌, Bool, true, false, Result, Ok, Err, length, take, replicate, refl, sym, ap, ◌∙◌, arith, if◌then◌else◌}
use Rattle.std.specs.Prelude.{IfOk}
use Rattle.std.proofs.lemmas.List.{length-append}
use Rattle.std.proofs.Math.Seq.{take-append_seam}
use Rattle.lab_sched.specs.Worlds.{WorldState, step_effect_in, step, run}
use Rattle.lab_sched.specs.Verdicts.{is_nothing}
use Rattle.lab_sched.specs.Schedules.{steps_of}
use Rattle.lab_debug.specs.declared.command.Command.{Command}
use Rattle.lab_debug.specs.declared.command.Command.TheVariants.{Step, Run, Play, Until, Back, Regs, Mem, Dis, Procs, Mqs, Sems, Fds, Out, Raw, Where, Code, Labels, Go, Set, Unset, Marks, Steps, Taken, Profile, Help, Quit}
use Rattle.lab_debug.specs.declared.command.Refusal.{Refusal}
use Rattle.lab_debug.specs.declared.command.Refusal.TheVariants.{NoMark}
use Rattle.lab_debug.specs.declared.script.SessionFault.TheVariants.{TooManyLines, LineTooLong}
use Rattle.lab_debug.specs.Commands.{words_of}
use Rattle.lab_debug.specs.Lines.{lines, line_limit}
use Rattle.lab_session.specs.Marks.{has_mark}
use Rattle.lab_session.specs.Stops.{steps_to_stop, steps_until}
use Rattle.lab_debug.specs.Script.{Effect, Script, before, script_of, script, line_count_limit}
use Rattle.lab_session.specs.Sessions.{SessionState, with_steps, after_steps, effective, without_last, steps_before}
use Rattle.lab_debug.specs.Effects.{refusal_effect, accepted_effect, command_in, reading_effect, words_effect, line_effect}
use Rattle.lab_debug.specs.Laws.{StepsLead, StepsLeadFirst, StepsLeadOn, BackUndoes, BackToTheStart}
use Rattle.lab_session.proofs.StepLemmas.{stays, run-same, run-start, effective-append}

-- steps without an effect lead nowhere
run-effective : (w : WorldState) (xs : List ℕ) → run w (effective w xs) ≡ run w xs
unfolding effective run
run-effective w [] = refl
run-effective w (p ∷ xs) = by (is_nothing (step_effect_in w p)) refl (run-effective w xs) (run-effective (step w p) xs)
  where
    by : (b : Bool) → is_nothing (step_effect_in w p) ≡ b → run w (effective w xs) ≡ run w xs
        → run (step w p) (effective (step w p) xs) ≡ run (step w p) xs → run w (effective w (p ∷ xs)) ≡ run (step w p) xs
    by true e here there =
        let same : step w p ≡ w = stays w p (step_effect_in w p) e in
        rw e (here ∙ ap (λ v. run v xs) (sym same))
    by false e here there = rw e there

without-those : (xs ys : List ℕ) → without_last (length ys) (xs ++ ys) ≡ xs
without-those xs ys =
    let some : length xs + length ys - length ys ≡ length xs = omega arith in
    ap (λ n. take n (xs ++ ys)) (ap (λ n. n - length ys) (length-append xs ys) ∙ some) ∙ take-append_seam xs ys

pub back_undoes : BackUndoes
back_undoes s ps leads =
    let kept = effective s.start s.steps in
    let last = effective s.world ps in
    let all : effective s.start (s.steps ++ ps) ≡ kept ++ last =
    effective-append s.start s.steps ps ∙ ap (λ w. kept ++ effective w ps) (sym leads) in
    let left : steps_before (length last) (after_steps s ps) ≡ kept = ap (without_last (length last)) all ∙ without-those kept last in
    ap (λ xs. with_steps s xs (run s.start xs)) left ∙ ap (with_steps s kept) (run-effective s.start s.steps ∙ sym leads)

pub back_to_the_start : BackToTheStart
back_to_the_start s n few =
    let none : length (effective s.start s.steps) - n ≡ 0 = omega (arith, few) in
    ap (λ k. with_steps s (take k (effective s.start s.steps)) (run s.start (take k (effective s.start s.steps)))) none
    ∙ ap (with_steps s []) (sym (run-start s.start))

pub steps_lead_first : StepsLeadFirst
steps_lead_first listings help w = run-start w

lead-after : (s : SessionState) (ps : List ℕ) → StepsLead s → StepsLead (after_steps s ps)
lead-after s ps leads = ap (λ w. run w ps) leads ∙ sym (run-same s.start s.steps ps)

either : (b : Bool) (e f : Effect SessionState) → StepsLead e.world → StepsLead f.world → StepsLead (if b then e else f).world
either true e f h k = h
either false e f h k = k

accepted : (s : SessionState) (c : Command) → StepsLead s → StepsLead (accepted_effect s c).world
accepted s (Step pid n) h = lead-after s (replicate n pid) h
accepted s (Run schedule) h = lead-after s (steps_of schedule) h
accepted s (Play schedule) h = lead-after s (steps_to_stop s.marks s.world (steps_of schedule)) h
accepted s (Until pid address n) h = lead-after s (steps_until pid address s.world n) h
accepted s (Back n) h = refl
accepted s (Go pid n) h = lead-after s (steps_to_stop s.marks s.world (replicate n pid)) h
accepted s (Set mark) h = h
accepted s (Unset mark) h = either (has_mark s.marks mark) _ (refusal_effect (NoMark mark.kind) s) h h
accepted s (Marks kind) h = h
accepted s Steps h = h
accepted s Taken h = h
accepted s (Regs pid) h = h
accepted s (Mem range) h = h
accepted s (Dis range) h = h
accepted s Procs h = h
accepted s Mqs h = h
accepted s Sems h = h
accepted s (Fds pid) h = h
accepted s (Out pid) h = h
accepted s (Raw pid) h = h
accepted s (Where pid) h = h
accepted s (Code range) h = h
accepted s (Labels pid) h = h
accepted s Profile h = h
accepted s Help h = h
accepted s Quit h = h

carried : (s : SessionState) (r : Result Command Refusal) → StepsLead s → StepsLead (reading_effect s r).world
carried s (Ok c) h = accepted s c h
carried s (Err refusal) h = h

with-words : (s : SessionState) (ws : List (List ℕ)) → StepsLead s → StepsLead (words_effect s ws).world
with-words s [] h = h
with-words s (name ∷ ws) h = carried s (command_in s name ws) h

lead-behind : (s : SessionState) (line : List ℕ) → StepsLead s → StepsLead (line_effect s line).world
unfolding line_effect
lead-behind s line h = with-words s (words_of line) h

-- a line of a script, and the lines behind it
one-line : (full long last : Bool) (e : Effect SessionState) (more : Script SessionState) → StepsLead e.world → IfOk more.end StepsLead
    → IfOk (if full then record { text = []; end = Err TooManyLines } else
    if long then record { text = []; end = Err LineTooLong } else
    before e.text (if last then record { text = []; end = Ok e.world } else more)).end StepsLead
one-line true long last e more h k = tt
one-line false true last e more h k = tt
one-line false false true e more h k = h
one-line false false false e more h k = k

all-lines : (room : ℕ) (s : SessionState) (ls : List (List ℕ)) → StepsLead s → IfOk (script_of line_effect room s ls).end StepsLead
all-lines room s [] h = h
all-lines room s (l ∷ ls) h =
    let e = line_effect s l in
    let there : StepsLead e.world = lead-behind s l h in
    one-line (room == 0) (nat_lt line_limit (length l)) e.ends e (script_of line_effect (room - 1) e.world ls) there (all-lines (room - 1) e.world ls there)

pub steps_lead_on : StepsLeadOn
unfolding script
steps_lead_on s bytes h = all-lines line_count_limit s (lines bytes) h
