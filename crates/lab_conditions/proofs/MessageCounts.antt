-- Messages, counted.
use Rattle.std.proofs.Common.{ℕ, suc, ◌+◌, ◌≡◌, ◌<◌, ◌≤◌, ◌≢◌, List, [], ◌∷◌, sym, ap, ◌∙◌, inl, inr, arith, take, set, sum_by, rules}
use Rattle.std.proofs.lemmas.Bool.{cases_lt}
use Rattle.std.proofs.lemmas.List.{take_all, take_more, set_past, get_or-take, length-take}
use Rattle.std.proofs.lemmas.List.Sums.{sum_by-cons, sum_by_push, sum_by-set}
use Rattle.std.proofs.lemmas.Option.{unwrap_or-slice_get}
use Rattle.ipc_kernel.specs.declared.place.Place.{Place}
use Rattle.ipc_kernel.specs.declared.place.Place.TheVariants.{Empty}
use Rattle.ipc_kernel.specs.Places.{place_at}
use Rattle.ipc_kernel.specs.Kernel.{KernelState}
use Rattle.ipc_kernel.specs.Alike.{IsAlike}
use Rattle.ipc_store.proofs.Alikes.{alike_back}
use Rattle.ipc_kernel.proofs.IndexLemmas.{place_at-set_other, place_at-past}
use Rattle.lab_conditions.specs.Losses.{messages_at, messages}
use Rattle.std.proofs.lemmas.Grind.{common_steps}

-- in one place more
pub messages_more : (ps : List Place) (n : ℕ) → sum_by messages_at (take (n + 1) ps) ≡ sum_by messages_at (take n ps) + messages_at (place_at ps n)
messages_more ps n = grind (arith, common_steps, cases_lt, take_more, sum_by_push, unwrap_or-slice_get, place_at-past, take_all)

-- a place is emptied
without : (n : ℕ) (qs : List Place) → sum_by messages_at (set qs n Empty) + messages_at (place_at qs n) ≡ sum_by messages_at qs
without n qs = search (rules, cases_lt, sum_by-set, unwrap_or-slice_get, place_at-past, set_past)

-- where each place of some stands in one of its own among others, these have as many messages at least
fewer : (f : ℕ → ℕ) (ps qs : List Place) → ((i j : ℕ) → i ≢ j → f i ≢ f j) → ((i : ℕ) → place_at qs (f i) ≡ place_at ps i) → sum_by messages_at ps ≤ sum_by messages_at qs
fewer f [] qs apart at = omega arith
fewer f (p ∷ ps) qs apart at =
    let here : place_at qs (f 0) ≡ p = at 0 in
    let rest = set qs (f 0) Empty in
    let less = fewer (λ i. f (suc i)) ps rest
    (λ i j other. apart (suc i) (suc j) (λ same. other (omega (arith, same))))
    (λ i. place_at-set_other qs (f (suc i)) (f 0) Empty (apart (suc i) 0 (λ same. absurd (omega (arith, same)))) ∙ at (suc i)) in
    let one = sum_by-cons messages_at p ps in
    let taken = without (f 0) qs in
    let same : messages_at (place_at qs (f 0)) ≡ messages_at p = ap messages_at here in
    omega (arith, less, one, taken, same)

-- the first places of some
within_take : (n : ℕ) (ps : List Place) (i : ℕ) → i < n → place_at (take n ps) i ≡ place_at ps i
within_take n ps i less = unwrap_or-slice_get (take n ps) i Empty ∙ get_or-take n ps i Empty less ∙ sym (unwrap_or-slice_get ps i Empty)

past_take : (n : ℕ) (ps : List Place) (i : ℕ) → n ≤ i → place_at (take n ps) i ≡ Empty
past_take n ps i past = place_at-past (take n ps) i (let few = length-take n ps in omega (arith, few, past))

at_most : (k j : KernelState) → IsAlike k j → messages k ≤ messages j
at_most k j a =
    fewer a.0 (take 64 k.places) (take 64 j.places)
    (λ i n other same. other (sym (a.2.permutation.undone i) ∙ ap a.1 same ∙ a.2.permutation.undone n))
    (λ i. elim (cases_lt i 64) [
      | inl less ↦ within_take 64 j.places (a.0 i) ((a.2.permutation.within i).1 less) ∙ a.2.places i ∙ sym (within_take 64 k.places i less)
      | inr past ↦ elim (cases_lt (a.0 i) 64) [
        | inl inside ↦ absurd (let less : i < 64 = (a.2.permutation.within i).0 inside in omega (arith, less, past))
        | inr outside ↦ past_take 64 j.places (a.0 i) outside ∙ sym (past_take 64 k.places i past)
      ]
    ])

-- kernels that are alike have as many messages
pub messages_alike : (k j : KernelState) → IsAlike k j → messages j ≡ messages k
messages_alike k j a =
    let less = at_most k j a in
    let more = at_most j k (alike_back k j a) in
    omega (arith, less, more)
