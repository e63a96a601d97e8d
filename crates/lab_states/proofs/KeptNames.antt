-- States in which no process takes a name away.
use Rattle.std.proofs.Common.{ℕ, ◌≡◌, All, Bool, true, false, ◌||◌, List, [], ◌∷◌, ◌++◌, Option, refl, sym, ap, subst, ◌∙◌, map}
use Rattle.std.proofs.lemmas.List.Elements.{All-push, All-map, All-weaker}
use Rattle.ipc_kernel.specs.declared.call.Call.{Call}
use Rattle.ipc_kernel.specs.OwnCalls.{is_unlink}
use Rattle.lab_sched.specs.declared.process.Process.{Process as Kept}
use Rattle.lab_sched.specs.Held.{process_view}
use Rattle.lab_conditions.specs.Conditions.{call_of, option_any}
use Rattle.lab_states.specs.declared.collapsed_states.CollapsedState.{CollapsedState}
use Rattle.lab_states.specs.CollapsedStates.{whole_of}
use Rattle.lab_worlds.specs.Independent.{unlinks}
use Rattle.lab_states.specs.Private.CollapsedStates.{KeepAllNames}
use Rattle.lab_states.proofs.CollapsedStateLemmas.{whole_seen}
use Rattle.lab_states.proofs.SilentProcesses.{same_call}

-- whether a process takes a name away doesn't depend on its output
unlinks_whole : (os : List (List ℕ)) (s : CollapsedState) → unlinks (process_view (whole_of os s)) ≡ unlinks (process_view s.process)
unlinks_whole os s = ap (option_any is_unlink) (ap call_of (whole_seen os s) ∙ same_call (process_view s.process) _)

pub all_whole_keep : (os : List (List ℕ)) (ss : List CollapsedState) (xs : List Kept) → map (whole_of os) ss ≡ xs → KeepAllNames ss → All (λ s. unlinks (process_view s) ≡ false) xs
all_whole_keep os ss xs view h = subst (All (λ s. unlinks (process_view s) ≡ false)) view (All-map (λ s. unlinks (process_view s) ≡ false) (whole_of os) ss (All-weaker (λ (s : CollapsedState). unlinks (process_view s.process) ≡ false) (λ (s : CollapsedState). unlinks (process_view (whole_of os s)) ≡ false) (λ s e. unlinks_whole os s ∙ e) ss h))

-- one state more
pub all_keep_push : (a b : Bool) (ss ts : List CollapsedState) (s : CollapsedState) (c : Option Call) → (a ≡ false → KeepAllNames ss) → call_of (process_view s.process) ≡ c → b ≡ option_any is_unlink c → ts ≡ ss ++ s ∷ []
    → a || b ≡ false → KeepAllNames ts
all_keep_push true b ss ts s c h e f more none = absurd (cc)
all_keep_push false b ss ts s c h e f more none =
    subst KeepAllNames (sym more) (All-push (λ (x : CollapsedState). unlinks (process_view x.process) ≡ false) ss s (h refl) (ap (option_any is_unlink) e ∙ sym f ∙ none))
