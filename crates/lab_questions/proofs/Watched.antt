-- Objects that a search looks for beside the conditions that it is asked.
use Rattle.std.proofs.Common.{ℕ, zero, suc, ◌≡◌, ◌<◌, ◌≤◌, ◌+◌, ◌++◌, ◌⊎◌, inl, inr, List, [], ◌∷◌, Option, Some, None, All, Contains, length, take, drop, get_or, slice_get, sym, ap, subst, refl, ◌∙◌, arith}
use Rattle.std.proofs.lemmas.List.{take_more}
use Rattle.std.proofs.lemmas.List.Elements.{All-contains, All-push}
use Rattle.std.proofs.lemmas.Option.{slice_get-get_or}
use Rattle.lab_sched.specs.declared.schedule.Block.{Block}
use Rattle.lab_sched.specs.Schedules.{steps_of}
use Rattle.lab_sched.specs.Worlds.{WorldState, run}
use Rattle.lab_conditions.specs.declared.never.Never.{Never}
use Rattle.lab_conditions.specs.declared.never.Never.TheVariants as never
use Rattle.lab_conditions.specs.Conditions.{PartHolds}
use Rattle.lab_worlds.specs.Calls.{Both, Alongside}
use Rattle.lab_worlds.proofs.Pushes.{all_at, alongside_push}
use Rattle.lab_worlds.specs.Reached.{Violates, IsKept, ViolatesIfSome, KeptIfNone}
use Rattle.lab_questions.specs.declared.bases.Basis.{Basis}
use Rattle.lab_questions.specs.Bases.{all_bases, presence, IsOnceThere, IsNeverThere, AreNeverThere}
use Rattle.lab_questions.specs.Private.Presences.{AsksFor, unseen}
use Rattle.lab_questions.proofs.OrderLemmas.{unseen_all, unseen_each}

-- one more of each
pub along_next : {A B : Type 0} (R : A → B → Type 0) (xs : List A) (ys zs : List B) (n : ℕ) (x : A) (y : B) → Alongside R (take n xs) ys → n < length xs → x ≡ get_or xs n x → R x y
    → zs ≡ ys ++ y ∷ [] → Alongside R (take (n + 1) xs) zs
along_next R xs ys zs n x y h within read here pushed =
    let more = take_more xs n x within ∙ ap (λ z. take n xs ++ z ∷ []) (sym read) in
    subst (Alongside R (take (n + 1) xs)) (sym pushed) (subst (λ us. Alongside R us (ys ++ y ∷ [])) (sym more) (alongside_push R (take n xs) ys x y h here))

-- what stands beside the first of some, and what beside those that stand behind them
split : {A B : Type 0} (R : A → B → Type 0) (xs us : List A) (ys : List B) → Alongside R (xs ++ us) ys
    → (length xs ≤ length ys) × Alongside R xs (take (length xs) ys) × Alongside R us (drop (length xs) ys)
split R [] us ys h = (omega arith, λ p. tt, h)
split R (x ∷ xs) us [] h = absurd (h 0)
split R (x ∷ xs) us (y ∷ ys) h = let rest = split R xs us ys (λ p. h (suc p)) in (omega (arith, rest.0), first rest.1, rest.2)
  where
    first : Alongside R xs (take (length xs) ys) → Alongside R (x ∷ xs) (take (length (x ∷ xs)) (y ∷ ys))
    first later zero = h 0
    first later (suc p) = later p

-- what is told of the conditions of a search, and what of those that were put behind them
pub parted : {A B : Type 0} (R : A → B → Type 0) (xs us whole : List A) (ys : List B) (n : ℕ) → whole ≡ xs ++ us → n ≡ length xs → Alongside R whole ys
    → (n ≤ length ys) × Alongside R xs (take n ys) × Alongside R us (drop n ys)
parted R xs us whole ys n is count h =
    subst (λ k. (k ≤ length ys) × Alongside R xs (take k ys) × Alongside R us (drop k ys)) (sym count) (split R xs us ys (subst (λ zs. Alongside R zs ys) is h))

-- where the condition never holds, the basis is never there
never_there : (start : WorldState) (o : Basis) (n : Never) → AsksFor o n → IsKept start n → IsNeverThere start o
never_there start o (never.Holds c) asks kept ps there =
    kept ps (subst (All (λ part. PartHolds part (run start ps))) (sym asks) (All-push (λ part. PartHolds part (run start ps)) [] (presence o) (λ k d within. absurd (omega (arith, within))) there))
never_there start o never.Lost asks kept ps there = absurd asks
never_there start o (never.Refused r) asks kept ps there = absurd asks

-- a schedule of the condition leads to the basis
opened : (start : WorldState) (o : Basis) (n : Never) (s : List Block) → AsksFor o n → Violates start n s → IsOnceThere start o
opened start o (never.Holds c) s asks leads = record {
  schedule = s;
  effective = leads.effective;
  there = (subst (All (λ part. PartHolds part (run start (steps_of s)))) asks leads.holds) 0 (presence o) (omega arith);
}
opened start o never.Lost s asks leads = absurd asks
opened start o (never.Refused r) s asks leads = absurd asks

unseen_never : (start : WorldState) (o : Basis) (a : Option Basis) (b : Option Never) (c : Option (Option (List Block))) → a ≡ Some o → c ≡ Some None
    → Both AsksFor a b → Both (KeptIfNone start) b c → IsNeverThere start o
unseen_never start o None b c is none asks kept = absurd (cc)
unseen_never start o (Some p) None c is none asks kept = absurd asks
unseen_never start o (Some p) (Some n) None is none asks kept = absurd kept
unseen_never start o (Some p) (Some n) (Some None) is none asks kept =
    let same : p ≡ o = cc in
    never_there start o n (subst (λ q. AsksFor q n) same asks) kept
unseen_never start o (Some p) (Some n) (Some (Some s)) is none asks kept = absurd (cc)

seen_opened : (start : WorldState) (o : Basis) (a : Option Basis) (b : Option Never) (c : Option (Option (List Block))) → a ≡ Some o
    → Both AsksFor a b → Both (ViolatesIfSome start) b c → (c ≡ Some None) ⊎ IsOnceThere start o
seen_opened start o None b c is asks reached = absurd (cc)
seen_opened start o (Some p) None c is asks reached = absurd asks
seen_opened start o (Some p) (Some n) None is asks reached = absurd reached
seen_opened start o (Some p) (Some n) (Some None) is asks reached = inl refl
seen_opened start o (Some p) (Some n) (Some (Some s)) is asks reached =
    let same : p ≡ o = cc in
    inr (opened start o n s (subst (λ q. AsksFor q n) same asks) reached)

-- the bases for which a whole search has no schedule are those of the named ones that are never there
pub are_never_there : (start : WorldState) (conditions presences : List Never) (bases : List Basis) (seen : List (Option (List Block))) → Alongside AsksFor bases presences
    → Alongside (ViolatesIfSome start) presences seen → Alongside (KeptIfNone start) presences seen
    → All (Contains bases) (all_bases conditions) → All (Contains (all_bases conditions)) bases → AreNeverThere start conditions (unseen bases seen)
are_never_there start conditions presences bases seen asks reached kept all only = record {
  among = λ k d within. let at = unseen_each bases seen k d within in all_at (Contains (all_bases conditions)) bases at.0 (get_or (unseen bases seen) k d) only at.1;
  never = λ k d within.
      let at = unseen_each bases seen k d within in
      unseen_never start (get_or (unseen bases seen) k d) (slice_get bases at.0) (slice_get presences at.0) (slice_get seen at.0) at.1 at.2 (asks at.0) (kept at.0);
  others = λ o is.
      let at = All-contains (Contains bases) (all_bases conditions) o all is in
      let here = slice_get-get_or bases at.0 o at.1 ∙ ap Some at.2 in
      elim (seen_opened start o (slice_get bases at.0) (slice_get presences at.0) (slice_get seen at.0) here (asks at.0) (reached at.0)) [
        | inl none ↦ inl (unseen_all bases seen at.0 o here none)
        | inr there ↦ inr there
      ];
}
