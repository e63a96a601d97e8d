-- How many passes can follow each other, where no edge raises the rank of a row, and the process of each
-- rank goes on there and never does.
use Rattle.std.proofs.Common.{ℕ, zero, suc, ◌+◌, ◌*◌, ◌<◌, ◌≤◌, ◌≡◌, ◌++◌, List, [], ◌∷◌, Option, Some, None, refl, sym, ap, subst, ◌∙◌, arith, length, slice_get, set, unwrap_or, inl, inr, ◌⊎◌}
use Rattle.std.proofs.lemmas.Bool.Decides.{eqb_tells}
use Rattle.std.proofs.lemmas.Bool.{cases_lt}
use Rattle.std.proofs.Math.Nat.{mul-le-mul_left}
use Rattle.std.proofs.lemmas.List.{length-set}
use Rattle.std.proofs.lemmas.List.Sums.{count_by-le-length}
use Rattle.lab_sched.specs.Worlds.{Process, Running, WorldState, step_effect, step_effect_in, first_try, step, run, IsEffective}
use Rattle.lab_sched.specs.Execution.{AreEffective, count}
use Rattle.lab_sched.specs.LocalRun.{AreLocal}
use Rattle.lab_sched.specs.Verdicts.{is_running}
use Rattle.lab_sched.proofs.ListPlaces.{get-set_same, get-set_other, get_past}
use Rattle.lab_sched.proofs.Runs.{run-one, length-run}
use Rattle.lab_sched.proofs.OwnSteps.{first_local}
use Rattle.lab_search.specs.declared.store.Store.{Store}
use Rattle.lab_worlds.specs.Unwaiting.{GoesOn, unwaiting, AskAgain}
use Rattle.lab_worlds.specs.Fairness.{IsFairTo, IsFairSegment, AreFairSegments, AreFairlyBounded}
use Rattle.lab_search.specs.Stored.{IsSearched}
use Rattle.lab_states.specs.Falling.{rank_of, starved_of, IsFalling}
use Rattle.lab_explore.specs.Private.Ranked.{AreRanked, HaveRanks}
use Rattle.lab_worlds.proofs.Pushes.{all_at, at_or_other}
use Rattle.lab_search.proofs.StepCounts.{part_most, total_most, count_yes, count_no, count_first, contained_counts}
use Rattle.lab_worlds.proofs.AfterLocalSteps.{same_some}
use Rattle.lab_worlds.proofs.AlikeWorlds.{effect_alike}
use Rattle.lab_search.proofs.StandingWorlds.{Place, Stands, GoesNearer, GoesAlong, TakesAt, total, total_set, running, running_goes, running_waits, step_stands, start_stands}
use Rattle.lab_worlds.proofs.UnwaitingWorlds.{tells, same_step, none_goes, still_unwaiting, goes_unwaiting, asks_on}
use Rattle.lab_explore.proofs.MetWorlds.{IsStart, goes_effective}

-- so many steps may follow a place, by the process of its rank
abbrev left_by : Option ℕ → WorldState → Place → ℕ
left_by None x s = 2 * total s.taken + running x
left_by (Some p) x s = unwrap_or (slice_get s.taken p) 0

module _ (t : Store) (start : WorldState) (ranks : List ℕ) (starved_processes : List (Option ℕ)) (n b : ℕ) (searched : IsSearched start t) (ranked : AreRanked t ranks starved_processes) (wide : 4294967296 ≤ b) where
  abbrev rank : Place → ℕ
  rank s = rank_of ranks s.at

  -- a world of n processes stands at a place, but for who waits, with at most b local steps left of each
  record IsIn (x : WorldState) (s : Place) : Type 0 where
    asks : AskAgain x
    stands : Stands t (unwaiting x) s
    processes : length x.processes ≡ n
    places : length s.taken ≡ n
    few : (q k : ℕ) → slice_get s.taken q ≡ Some k → k ≤ b

  -- where process p begins to wait nothing else changes
  abbrev Begins : WorldState → Place → Place → ℕ → Type 0
  Begins x s u p = (u ≡ s) × (running (step x p) + 1 ≡ running x) × (GoesOn (step_effect_in x p) → ⊥)

  abbrev Goes : WorldState → Place → Place → ℕ → Type 0
  Goes x s u p = GoesNearer s u p ⊎ GoesAlong t s u p ⊎ Begins x s u p

  few_set : (ks : List ℕ) (p j : ℕ) → p < length ks → j ≤ b → ((q k : ℕ) → slice_get ks q ≡ Some k → k ≤ b) → (q k : ℕ) → slice_get (set ks p j) q ≡ Some k → k ≤ b
  few_set ks p j within small few q = at_or_other (λ i. (k : ℕ) → slice_get (set ks p j) i ≡ Some k → k ≤ b) p q
      (λ k e. subst (λ i. i ≤ b) (same_some j k (slice_get (set ks p j) p) (get-set_same ks p j within) e) small)
      (λ other k e. few q k (sym (get-set_other ks p q j other) ∙ e))

  -- after an effective step
  moved : (x : WorldState) (p : ℕ) (s : Place) → IsIn x s → IsEffective (step_effect_in x p) → (u : Place) × IsIn (step x p) u × Goes x s u p
  moved x p s is effective = elim (tells (step_effect_in x p)) [
    | inl goes ↦ gone goes (step_stands t start searched (unwaiting x) p s (subst GoesOn (sym (same_step x p is.asks goes)) goes) is.stands)
    | inr none ↦ (
      s,
      record { asks = asks_on x p is.asks; stands = subst (λ v. Stands t v s) (sym (still_unwaiting x p none)) is.stands; processes = stays; places = is.places; few = is.few },
      inr (inr (refl, running_waits x p effective none, none)),
    )
  ]
    where
      stays : length (step x p).processes ≡ n
      stays = ap (λ (v : WorldState). length v.processes) (sym (run-one x p)) ∙ length-run x (p ∷ []) ∙ is.processes

      there : (u : Place) (j k : ℕ) → GoesOn (step_effect_in x p) → Stands t (step (unwaiting x) p) u → slice_get s.taken p ≡ Some k → u.taken ≡ set s.taken p j → j ≤ b → IsIn (step x p) u
      there u j k goes stands from taken small = record {
        asks = asks_on x p is.asks;
        stands = subst (λ v. Stands t v u) (sym (goes_unwaiting x p is.asks goes)) stands;
        processes = stays;
        places = ap (λ ks. length ks) taken ∙ length-set s.taken p j ∙ is.places;
        few = subst (λ ks. (q k : ℕ) → slice_get ks q ≡ Some k → k ≤ b) (sym taken) (few_set s.taken p j (get_past s.taken p k from) small is.few);
      }

      gone : GoesOn (step_effect_in x p) → (u : Place) × Stands t (step (unwaiting x) p) u × (GoesNearer s u p ⊎ GoesAlong t s u p) → (u : Place) × IsIn (step x p) u × Goes x s u p
      gone goes next = elim next.2 [
        | inl near ↦
            let most = is.few p (suc near.0) near.1 in
            (next.0, there next.0 near.0 (suc near.0) goes next.1 near.1 near.2 (omega (arith, most)), inl near)
        | inr along ↦
            let small = along.9 in
            (next.0, there next.0 along.2 0 goes next.1 along.7 along.8 (omega (arith, small, wide)), inr (inl along))
      ]

  -- an edge doesn't raise the rank, and where it keeps it, it isn't of the rank's process
  along_falls : (s u : Place) (p : ℕ) → GoesAlong t s u p
      → (rank u < rank s) ⊎ ((rank u ≡ rank s) × (q : ℕ) × (starved_of starved_processes (rank s) ≡ Some q) × (p ≡ q → ⊥))
  along_falls s u p h =
      let fall = all_at (IsFalling ranks starved_processes) t.edges h.0 h.1 ranked.falls h.3 in
      let from : rank_of ranks h.1.from ≡ rank s = ap (λ i. rank_of ranks i) h.4 in
      let to : rank_of ranks h.1.to ≡ rank u = ap (λ i. rank_of ranks i) h.5 in
      elim fall.falls [
        | inl less ↦ inl (subst (λ k. k < rank s) to (subst (λ k. rank_of ranks h.1.to < k) from less))
        | inr same ↦ inr (
          sym to ∙ same.0 ∙ from,
          same.1,
          ap (λ k. starved_of starved_processes k) (sym from) ∙ same.2,
          λ e. same.3 (h.6 ∙ e),
        )
      ]

  falls : (x : WorldState) (s u : Place) (p : ℕ) → Goes x s u p → rank u ≤ rank s
  falls x s u p (inl near) = let same = ap (λ i. rank_of ranks i) near.3 in omega (arith, same)
  falls x s u p (inr (inl along)) = elim (along_falls s u p along) [ inl less ↦ omega (arith, less) | inr same ↦ let is = same.0 in omega (arith, is) ]
  falls x s u p (inr (inr waits)) = let same = ap (λ (v : Place). rank_of ranks v.at) waits.0 in omega (arith, same)

  -- the process of the rank stands so many local steps before its state in the advance, where it goes on
  abbrev IsStarvedAt : WorldState → Place → ℕ → Type 0
  IsStarvedAt x s p = (k : ℕ) × (c : Process) × (u : Process) × (slice_get s.taken p ≡ Some k) × (slice_get (unwaiting x).processes p ≡ Some c) × AreLocal k c u × GoesOn (step_effect x.kernel p (Some u))

  starved_at : (x : WorldState) (s : Place) (p : ℕ) → IsIn x s → starved_of starved_processes (rank s) ≡ Some p → IsStarvedAt x s p
  starved_at x s p is starved = by (slice_get s.taken p) (slice_get (unwaiting x).processes p) (slice_get v.processes p) refl refl refl (is.stands.processes p)
    where
      v : WorldState
      v = s.advance

      goes : GoesOn (step_effect x.kernel p (slice_get v.processes p))
      goes = subst GoesOn (effect_alike x.kernel v.kernel p (slice_get v.processes p) is.stands.consistent is.stands.kernel)
          (ranked.kept s.at (get_past t.rows s.at is.stands.here.0 is.stands.here.1) p starved v is.stands.here)

      by : (a : Option ℕ) (c d : Option Process) → slice_get s.taken p ≡ a → slice_get (unwaiting x).processes p ≡ c → slice_get v.processes p ≡ d → TakesAt a c d → IsStarvedAt x s p
      by None None None e f g h = absurd (subst (λ o. GoesOn (step_effect x.kernel p o)) g goes)
      by (Some k) (Some c) (Some u) e f g h = (k, c, u, e, f, h.0, subst (λ o. GoesOn (step_effect x.kernel p o)) g goes)
      by _ _ _ e f g h = absurd h

  -- so it goes on
  starved_goes : (x : WorldState) (s : Place) (p : ℕ) → IsIn x s → starved_of starved_processes (rank s) ≡ Some p → GoesOn (step_effect_in x p)
  starved_goes x s p is starved = elim (tells (step_effect_in x p)) [
    | inl goes ↦ goes
    | inr none ↦ absurd (none_goes x p is.asks none (subst (λ o. GoesOn (step_effect x.kernel p o)) (sym at.4) (by at.0 at.1 at.5)))
  ]
    where
      at : IsStarvedAt x s p
      at = starved_at x s p is starved

      by : (k : ℕ) (c : Process) → AreLocal k c at.2 → GoesOn (step_effect x.kernel p (Some c))
      by zero c h = subst (λ y. GoesOn (step_effect x.kernel p (Some y))) (sym h) at.6
      by (suc k) (Running m) h = let first = first_local k m at.2 h in subst GoesOn (sym (ap (first_try x.kernel p m) first.1)) tt
      by (suc k) _ h = absurd h.1

  -- along steps that keep the rank its process always goes on, and so many of its steps are local
  abbrev IsKeptAlong : WorldState → Place → List ℕ → Place → ℕ → Type 0
  IsKeptAlong x s ps u p =
      (j : ℕ) × (k : ℕ) × (slice_get u.taken p ≡ Some j) × (slice_get s.taken p ≡ Some k) × (j + count p ps ≤ k)
      × ((qs rs : List ℕ) → ps ≡ qs ++ rs → IsEffective (step_effect_in (run x qs) p))

  -- steps lead from a place to another
  record Leads (x : WorldState) (s : Place) (ps : List ℕ) (u : Place) : Type 0 where
    is : IsIn (run x ps) u
    low : rank u ≤ rank s
    kept : (p : ℕ) → starved_of starved_processes (rank s) ≡ Some p → rank u ≡ rank s → IsKeptAlong x s ps u p
    free : starved_of starved_processes (rank s) ≡ None → rank u ≡ rank s → 2 * total u.taken + running (run x ps) + length ps ≤ 2 * total s.taken + running x

  -- local steps of a process after a step that keeps the rank
  one_kept : (x : WorldState) (s u : Place) (q p k : ℕ) → IsIn x s → Goes x s u q → starved_of starved_processes (rank s) ≡ Some p → rank u ≡ rank s → slice_get u.taken p ≡ Some k
      → (l : ℕ) × (slice_get s.taken p ≡ Some l) × (k + count p (q ∷ []) ≤ l)
  one_kept x s u q p k is (inl near) starved same e = elim (eqb_tells q p) [
    | inl one ↦
        let from : slice_get s.taken p ≡ Some (suc near.0) = ap (λ i. slice_get s.taken i) (sym one.1) ∙ near.1 in
        let to : slice_get u.taken p ≡ Some near.0 = ap (λ i. slice_get u.taken i) (sym one.1) ∙ ap (λ ks. slice_get ks q) near.2 ∙ get-set_same s.taken q near.0 (get_past s.taken q (suc near.0) near.1) in
        let less : k ≡ near.0 = same_some k near.0 (slice_get u.taken p) e to in
        let counts = count_yes p q [] one.1 in
        (suc near.0, from, omega (arith, less, counts))
    | inr other ↦
        let stays : slice_get s.taken p ≡ Some k = sym (ap (λ ks. slice_get ks p) near.2 ∙ get-set_other s.taken q p near.0 other.1) ∙ e in
        let counts = count_no p q [] other.1 in
        (k, stays, omega (arith, counts))
  ]
  one_kept x s u q p k is (inr (inl along)) starved same e = elim (along_falls s u q along) [
    | inl less ↦ absurd (omega (arith, less, same))
    | inr at ↦
        let its : p ≡ at.1 = same_some p at.1 (starved_of starved_processes (rank s)) starved at.2 in
        let other : q ≡ p → ⊥ = λ one. at.3 (one ∙ its) in
        let stays : slice_get s.taken p ≡ Some k = sym (ap (λ ks. slice_get ks p) along.8 ∙ get-set_other s.taken q p along.2 other) ∙ e in
        let counts = count_no p q [] other in
        (k, stays, omega (arith, counts))
  ]
  one_kept x s u q p k is (inr (inr waits)) starved same e =
      let other : q ≡ p → ⊥ = λ one. waits.2 (subst (λ i. GoesOn (step_effect_in x i)) (sym one) (starved_goes x s p is starved)) in
      let stays : slice_get s.taken p ≡ Some k = ap (λ (v : Place). slice_get v.taken p) (sym waits.0) ∙ e in
      let counts = count_no p q [] other in
      (k, stays, omega (arith, counts))

  -- a step that keeps a rank without a process leaves less
  one_free : (x : WorldState) (s u : Place) (q : ℕ) → Goes x s u q → starved_of starved_processes (rank s) ≡ None → rank u ≡ rank s
      → 2 * total u.taken + running (step x q) + 1 ≤ 2 * total s.taken + running x
  one_free x s u q (inl near) starved same =
      let sums = total_set s.taken q (suc near.0) near.0 near.1 in
      let is : total u.taken ≡ total (set s.taken q near.0) = ap total near.2 in
      let more = running_goes x q in
      omega (arith, sums, is, more)
  one_free x s u q (inr (inl along)) starved same = elim (along_falls s u q along) [
    | inl less ↦ absurd (omega (arith, less, same))
    | inr at ↦ let no : None ≡ Some at.1 = sym starved ∙ at.2 in absurd (cc)
  ]
  one_free x s u q (inr (inr waits)) starved same =
      let is : total u.taken ≡ total s.taken = ap (λ (v : Place). total v.taken) waits.0 in
      let less = waits.1 in
      omega (arith, is, less)

  leads : (ps : List ℕ) (x : WorldState) (s : Place) → IsIn x s → AreEffective x ps → (u : Place) × Leads x s ps u
  unfolding run
  leads [] x s is h = (
    s,
    record {
      is = is;
      low = omega arith;
      kept = λ p starved same. let k = starved_at x s p is starved in (k.0, k.0, k.3, k.3, omega arith, λ qs rs e. first p starved qs rs e);
      free = λ starved same. omega arith;
    },
  )
    where
      first : (p : ℕ) → starved_of starved_processes (rank s) ≡ Some p → (qs rs : List ℕ) → [] ≡ qs ++ rs → IsEffective (step_effect_in (run x qs) p)
      first p starved [] rs e = goes_effective (step_effect_in x p) (starved_goes x s p is starved)
      first p starved (q ∷ qs) rs e = absurd (cc)
  leads (q ∷ ps) x s is h = later (moved x q s is h.0) (λ u at. leads ps (step x q) u at h.1)
    where
      later : (u : Place) × IsIn (step x q) u × Goes x s u q → ((u : Place) → IsIn (step x q) u → (v : Place) × Leads (step x q) u ps v) → (v : Place) × Leads x s (q ∷ ps) v
      later m go = (
        rest.0,
        record {
          is = rest.1.is;
          low = let a = falls x s m.0 q m.2 in let c = rest.1.low in omega (arith, a, c);
          kept = λ p starved same.
              let mid = middle same in
              let more = rest.1.kept p (ap (λ k. starved_of starved_processes k) mid ∙ starved) (same ∙ sym mid) in
              let one = one_kept x s m.0 q p more.1 is m.2 starved mid more.3 in
              let counts = count_first p q ps in
              let a = more.4 in
              let c = one.2 in
              (more.0, one.0, more.2, one.1, omega (arith, counts, a, c), all p (goes_effective (step_effect_in x p) (starved_goes x s p is starved)) more.5);
          free = λ starved same.
              let mid = middle same in
              let more = rest.1.free (ap (λ k. starved_of starved_processes k) mid ∙ starved) (same ∙ sym mid) in
              let one = one_free x s m.0 q m.2 starved mid in
              omega (arith, more, one);
        },
      )
        where
          rest : (v : Place) × Leads (step x q) m.0 ps v
          rest = go m.0 m.1

          middle : rank rest.0 ≡ rank s → rank m.0 ≡ rank s
          middle same = let a = falls x s m.0 q m.2 in let c = rest.1.low in omega (arith, a, c, same)

          all : (p : ℕ) → IsEffective (step_effect_in x p) → ((qs rs : List ℕ) → ps ≡ qs ++ rs → IsEffective (step_effect_in (run (step x q) qs) p))
              → (qs rs : List ℕ) → q ∷ ps ≡ qs ++ rs → IsEffective (step_effect_in (run x qs) p)
          all p here each [] rs e = here
          all p here each (i ∷ qs) rs e =
              let first : i ≡ q = cc in
              let then_is : ps ≡ qs ++ rs = cc in
              subst (λ j. IsEffective (step_effect_in (run (step x j) qs) p)) (sym first) (each qs rs then_is)

  -- so many more passes may follow
  abbrev most_left : ℕ
  most_left = 2 * (n * b) + n + b

  abbrev left : WorldState → Place → ℕ
  left x s = left_by (starved_of starved_processes (rank s)) x s

  abbrev measure : WorldState → Place → ℕ
  measure x s = (most_left + 1) * rank s + left x s

  left_few : (x : WorldState) (s : Place) → IsIn x s → left x s ≤ most_left
  left_few x s is = by (starved_of starved_processes (rank s))
    where
      own : (p : ℕ) (o : Option ℕ) → slice_get s.taken p ≡ o → unwrap_or o 0 ≤ b
      own p None e = omega arith
      own p (Some k) e = is.few p k e

      by : (o : Option ℕ) → left_by o x s ≤ most_left
      by None =
          let sum : total s.taken ≤ n * b = subst (λ l. total s.taken ≤ l * b) is.places (total_most s.taken b is.few) in
          let run : running x ≤ n = subst (λ l. running x ≤ l) is.processes (count_by-le-length is_running x.processes) in
          omega (arith, sum, run)
      by (Some p) = let a = own p (slice_get s.taken p) refl in omega (arith, a)

  -- after a fair segment fewer may follow
  segment_less : (x : WorldState) (s : Place) (ps : List ℕ) → IsIn x s → IsFairSegment x ps → (u : Place) × IsIn (run x ps) u × (measure (run x ps) u < measure x s)
  segment_less x s ps is segment = (u, led.is, elim (cases_lt (rank u) (rank s)) [ inl below ↦ fell below | inr above ↦ kept (let low = led.low in omega (arith, above, low)) ])
    where
      u : Place
      u = (leads ps x s is segment.effective).0

      led : Leads x s ps u
      led = (leads ps x s is segment.effective).1

      fell : rank u < rank s → measure (run x ps) u < measure x s
      fell below =
          let few = left_few (run x ps) u led.is in
          let up : suc (rank u) ≤ rank s = below in
          let less = mul-le-mul_left (most_left + 1) up in
          omega (arith, few, less)

      by : (o : Option ℕ) → starved_of starved_processes (rank s) ≡ o → rank u ≡ rank s → left_by o (run x ps) u < left_by o x s
      by None starved same = let less = led.free starved same in let some = segment.some in omega (arith, less, some)
      by (Some p) starved same =
          let k = led.kept p starved same in
          let few = k.4 in
          let own : p < length x.processes = let within = get_past s.taken p k.1 k.3 in let a = is.places in let c = is.processes in omega (arith, within, a, c) in
          let counts = fair_to p k.5 (segment.fair_to p own) in
          let to : unwrap_or (slice_get u.taken p) 0 ≡ k.0 = ap (λ o. unwrap_or o 0) k.2 in
          let from : unwrap_or (slice_get s.taken p) 0 ≡ k.1 = ap (λ o. unwrap_or o 0) k.3 in
          omega (arith, few, counts, to, from)
        where
          fair_to : (p : ℕ) → ((qs rs : List ℕ) → ps ≡ qs ++ rs → IsEffective (step_effect_in (run x qs) p)) → IsFairTo x ps p → 1 ≤ count p ps
          fair_to p each (inl takes) = contained_counts ps p takes.0 takes.1 takes.2
          fair_to p each (inr pause) = absurd (pause.3 (each pause.0 pause.1 pause.2))

      kept : rank u ≡ rank s → measure (run x ps) u < measure x s
      kept same =
          let less = by (starved_of starved_processes (rank s)) refl same in
          let now : left (run x ps) u ≡ left_by (starved_of starved_processes (rank s)) (run x ps) u = ap (λ k. left_by (starved_of starved_processes k) (run x ps) u) same in
          let ranks-are : (most_left + 1) * rank u ≡ (most_left + 1) * rank s = ap (λ k. (most_left + 1) * k) same in
          omega (arith, less, now, ranks-are)

  segments_few : (pss : List (List ℕ)) (x : WorldState) (s : Place) → IsIn x s → AreFairSegments x pss → length pss ≤ measure x s
  segments_few [] x s is h = omega arith
  segments_few (ps ∷ pss) x s is h =
      let next = segment_less x s ps is h.0 in
      let rest = segments_few pss (run x ps) next.0 next.1 h.1 in
      let less = next.2 in
      omega (arith, rest, less)

  fairly_bounded : (s : Place) → IsIn start s → AreFairlyBounded start
  fairly_bounded s is = (
    (most_left + 1) * rank s + most_left,
    λ ps pss effective fair_segments.
        let next = leads ps start s is effective in
        let few = segments_few pss (run start ps) next.0 next.1.is fair_segments in
        let left-few = left_few (run start ps) next.0 next.1.is in
        let low = mul-le-mul_left (most_left + 1) next.1.low in
        omega (arith, few, left-few, low),
  )

-- where the rows are searched and have ranks, no more passes than some number of them can follow each other
pub ranked_bounded : (t : Store) (start : WorldState) → IsStart start → IsSearched start t → HaveRanks t → AreFairlyBounded start
ranked_bounded t start is searched ranks =
    let initial = start_stands t start searched is.consistent in
    let b = total initial.0.taken + 4294967296 in
    fairly_bounded t start ranks.0 ranks.1 (length start.processes) b searched ranks.2 (omega arith) initial.0 (record {
      asks = is.asks;
      stands = subst (λ w. Stands t w initial.0) (sym is.same) initial.1;
      processes = refl;
      places = initial.2;
      few = λ q k e. let most = part_most initial.0.taken q k e in omega (arith, most);
    })
