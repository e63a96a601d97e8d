-- States without the parts of their outputs that others share.
use Rattle.std.proofs.Common.{◌≡◌, ◌-◌, inl, inr, ℕ, All, List, [], ◌∷◌, ◌++◌, Some, refl, sym, ap, subst, ◌∙◌, append_assoc, arith, drop, get_or, length, map, slice_get, take}
use Rattle.std.specs.Option.{option_map}
use Rattle.std.proofs.lemmas.List.{length-append, length-drop, map-append, take-append-drop, take_all}
use Rattle.std.proofs.lemmas.List.Elements.{All-push, All-tail, All-weaker}
use Rattle.std.proofs.lemmas.Option.{slice_get-map}
use Rattle.lab_sched.specs.declared.process.Process.{Process as Kept}
use Rattle.lab_sched.specs.Worlds.{machine_of}
use Rattle.lab_sched.specs.Verdicts.{HasEnded}
use Rattle.lab_sched.specs.Held.{process_view}
use Rattle.lab_sched.specs.Outputs.{with_output, kept_with_output}
use Rattle.ipc_kernel.specs.declared.call.Call.{Call}
use Rattle.lab_conditions.specs.Conditions.{StandsAt}
use Rattle.lab_states.specs.declared.collapsed_states.CollapsedState.{CollapsedState}
use Rattle.lab_states.specs.Private.Outputs.{Extends}
use Rattle.lab_states.specs.CollapsedStates.{kept_behind, whole_of, IsWithin, IsSameOrMore, silent, IsButForOutput}
use Rattle.lab_states.specs.Private.CollapsedStates.{AreWithin, AreSame}
use Rattle.lab_states.proofs.PieceLemmas.{extended}
use Rattle.lab_states.proofs.SilentProcesses.{seen_output, own_output, last_output, put_output, mapped, silent_output, stands_same, ended_same}

-- what a process has written itself
abbrev pub own : CollapsedState → List ℕ
own s = (machine_of (process_view s.process)).output

pub start_empty : (os : List (List ℕ)) → ((more : List (List ℕ)) × (os ≡ [] ∷ more)) → slice_get os 0 ≡ Some []
start_empty os h = ap (λ xs. slice_get xs 0) h.1

first_empty : (os : List (List ℕ)) → slice_get os 0 ≡ Some [] → get_or os 0 [] ≡ []
first_empty [] e = refl
first_empty (o ∷ os) e = let same : Some o ≡ Some [] = e in let is : o ≡ [] = cc in is

-- a state that shares nothing is its process
pub whole_alone : (os : List (List ℕ)) (k : Kept) (s : CollapsedState) → slice_get os 0 ≡ Some [] → s.before ≡ 0 → s.process ≡ k → whole_of os s ≡ k
whole_alone os k s e before process =
    ap (λ n. kept_with_output s.process (get_or os n [] ++ own s)) before ∙ ap (λ bs. kept_with_output s.process (bs ++ own s)) (first_empty os e)
    ∙ own_output s.process ∙ process

-- what stands behind a place is all from there on
pub rest_of : (out : List ℕ) (len : ℕ) → take (length out - len) (drop len out) ≡ drop len out
rest_of out len = let count = length-drop len out in take_all (length out - len) (drop len out) (omega (arith, count))

-- a process whose output was taken apart, behind another output
pub whole_apart : (os qs : List (List ℕ)) (before n len : ℕ) (k p : Kept) (out rest : List ℕ) → get_or qs n [] ≡ get_or os before [] ++ take len out → rest ≡ drop len out → out ≡ (machine_of (process_view k)).output
    → p ≡ kept_with_output k rest → kept_behind (get_or qs n []) p ≡ kept_behind (get_or os before []) k
whole_apart os qs before n len k p out rest front back is set =
    let first = get_or os before [] in
    let own_rest : (machine_of (process_view p)).output ≡ rest = ap (λ x. (machine_of (process_view x)).output) set ∙ put_output k rest in
    let all : get_or qs n [] ++ (machine_of (process_view p)).output ≡ first ++ (machine_of (process_view k)).output =
    ap (λ bs. bs ++ (machine_of (process_view p)).output) front ∙ ap (λ bs. (first ++ take len out) ++ bs) (own_rest ∙ back) ∙ append_assoc first (take len out) (drop len out)
    ∙ ap (λ bs. first ++ bs) (take-append-drop len out ∙ is) in
    ap (kept_with_output p) all ∙ ap (λ x. kept_with_output x (first ++ (machine_of (process_view k)).output)) set ∙ last_output k rest _

-- as it is seen
pub whole_seen : (os : List (List ℕ)) (s : CollapsedState) → process_view (whole_of os s) ≡ with_output (process_view s.process) (get_or os s.before [] ++ own s)
whole_seen os s = seen_output s.process (get_or os s.before [] ++ own s)

pub same_whole : (os : List (List ℕ)) (s t : CollapsedState) → AreSame s t → process_view (whole_of os s) ≡ process_view (whole_of os t)
same_whole os s t h =
    whole_seen os s ∙ ap (λ n. with_output (process_view s.process) (get_or os n [] ++ own s)) h.before
    ∙ ap (λ v. with_output v (get_or os t.before [] ++ (machine_of v).output)) h.process ∙ sym (whole_seen os t)

pub whole_stands : (os : List (List ℕ)) (s : CollapsedState) (c : Call) → StandsAt (process_view s.process) c → StandsAt (process_view (whole_of os s)) c
whole_stands os s c stands = subst (λ v. StandsAt v c) (sym (whole_seen os s)) (stands_same (process_view s.process) _ c stands)

pub whole_ended : (os : List (List ℕ)) (s : CollapsedState) → HasEnded (process_view s.process) → HasEnded (process_view (whole_of os s))
whole_ended os s ended = subst HasEnded (sym (whole_seen os s)) (ended_same (process_view s.process) _ ended)

pub whole_silent : (os : List (List ℕ)) (s : CollapsedState) → IsButForOutput (process_view s.process) (process_view (whole_of os s))
whole_silent os s = sym (ap silent (whole_seen os s) ∙ silent_output (process_view s.process) _)

-- among more outputs a state is the same process
pub whole_extended : (os qs : List (List ℕ)) (s : CollapsedState) → Extends os qs → IsWithin os s → whole_of qs s ≡ whole_of os s
whole_extended os qs s e within = ap (λ bs. kept_with_output s.process (bs ++ own s)) (extended os qs s.before e within)

pub wholes_extended : (os qs : List (List ℕ)) (ss : List CollapsedState) → Extends os qs → All (IsWithin os) ss → map (whole_of qs) ss ≡ map (whole_of os) ss
wholes_extended os qs [] e within = refl
wholes_extended os qs (s ∷ ss) e within =
    ap (λ k. k ∷ map (whole_of qs) ss) (whole_extended os qs s e (within 0 s (omega arith)))
    ∙ ap (λ ks. whole_of os s ∷ ks) (wholes_extended os qs ss e (All-tail (IsWithin os) s ss within))

within_extended : (os qs : List (List ℕ)) (s : CollapsedState) → Extends os qs → IsWithin os s → IsWithin qs s
within_extended os qs s e within =
    let n = ap (λ xs. length xs) e.1 ∙ length-append os e.0 in
    omega (arith, n, within)

pub all_extended : (os qs : List (List ℕ)) (ss : List CollapsedState) → Extends os qs → AreWithin os ss → AreWithin qs ss
all_extended os qs ss e h = record {
  empty = (h.empty.0 ++ e.0, e.1 ∙ ap (λ xs. xs ++ e.0) h.empty.1);
  each = All-weaker (IsWithin os) (IsWithin qs) (λ s within. within_extended os qs s e within) ss h.each;
}

pub within_kept : (os : List (List ℕ)) (ss ts : List CollapsedState) (s : CollapsedState) → AreWithin os ss → IsWithin os s → IsSameOrMore ss ts s → AreWithin os ts
within_kept os ss ts s h within (inl same) = subst (AreWithin os) (sym same) h
within_kept os ss ts s h within (inr more) = record {
  empty = h.empty;
  each = subst (λ xs. All (IsWithin os) xs) (sym more) (All-push (IsWithin os) ss s h.each within);
}

pub wholes_kept : (os qs : List (List ℕ)) (ss ts : List CollapsedState) (s : CollapsedState) (k : Kept) → Extends os qs → AreWithin os ss → whole_of qs s ≡ k → IsSameOrMore ss ts s
    → IsSameOrMore (map (whole_of os) ss) (map (whole_of qs) ts) k
wholes_kept os qs ss ts s k e h is (inl same) = inl (ap (map (whole_of qs)) same ∙ wholes_extended os qs ss e h.each)
wholes_kept os qs ss ts s k e h is (inr more) =
    inr (ap (map (whole_of qs)) more ∙ map-append (whole_of qs) ss (s ∷ []) ∙ ap (λ xs. xs ++ whole_of qs s ∷ []) (wholes_extended os qs ss e h.each)
    ∙ ap (λ x. map (whole_of os) ss ++ x ∷ []) is)

-- the whole state at a place
pub whole_at : (os : List (List ℕ)) (ss : List CollapsedState) (i : ℕ) (s : CollapsedState) → slice_get ss i ≡ Some s → slice_get (map (whole_of os) ss) i ≡ Some (whole_of os s)
whole_at os ss i s at = slice_get-map (whole_of os) ss i ∙ ap (option_map (whole_of os)) at

-- the state that is kept for a process
pub state_at : (os : List (List ℕ)) (ss : List CollapsedState) (i : ℕ) (s t : CollapsedState) (k : Kept) → slice_get ss i ≡ Some s → AreSame s t → whole_of os t ≡ k
    → option_map process_view (slice_get (map (whole_of os) ss) i) ≡ Some (process_view k)
state_at os ss i s t k at same is =
    ap (option_map process_view) (whole_at os ss i s at) ∙ ap (λ v. Some v) (same_whole os s t same ∙ ap process_view is)

pub ended_at : (os : List (List ℕ)) (ss : List CollapsedState) (xs : List Kept) (n : ℕ) (k : Kept) → map (whole_of os) ss ≡ xs → ((s : CollapsedState) → slice_get ss n ≡ Some s → HasEnded (process_view s.process))
    → slice_get xs n ≡ Some k → HasEnded (process_view k)
ended_at os ss xs n k view ended at =
    let there = mapped (whole_of os) (slice_get ss n) k (sym (slice_get-map (whole_of os) ss n) ∙ ap (λ ys. slice_get ys n) view ∙ at) in
    subst (λ x. HasEnded (process_view x)) there.2 (whole_ended os there.0 (ended there.0 there.1))

pub stands_at : (os : List (List ℕ)) (ss : List CollapsedState) (xs : List Kept) (n : ℕ) (s : CollapsedState) (c : Call) → map (whole_of os) ss ≡ xs → slice_get ss n ≡ Some s → StandsAt (process_view s.process) c
    → (k : Kept) × (slice_get xs n ≡ Some k) × StandsAt (process_view k) c
stands_at os ss xs n s c view at stands = (whole_of os s, ap (λ ys. slice_get ys n) (sym view) ∙ whole_at os ss n s at, whole_stands os s c stands)

pub silent_at : (os : List (List ℕ)) (ss : List CollapsedState) (xs : List Kept) (n : ℕ) (s : CollapsedState) → map (whole_of os) ss ≡ xs → slice_get ss n ≡ Some s
    → (k : Kept) × (slice_get xs n ≡ Some k) × IsButForOutput (process_view s.process) (process_view k)
silent_at os ss xs n s view at = (whole_of os s, ap (λ ys. slice_get ys n) (sym view) ∙ whole_at os ss n s at, whole_silent os s)
