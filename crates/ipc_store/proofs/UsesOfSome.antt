-- What some processes do with objects, among what all do.
use Rattle.std.proofs.Common.{ℕ, zero, suc, ◌≡◌, ◌&&◌, ◌||◌, Bool, true, false, not, List, [], ◌∷◌, Some, refl, sym, ap, subst, ◌∙◌, slice_get}
use Rattle.std.specs.Prelude.{cond}
use Rattle.std.specs.List.{list_all, filter}
use Rattle.ipc_kernel.specs.Kernel.{KernelState}
use Rattle.ipc_kernel.specs.declared.call.Call.{Call}
use Rattle.ipc_store.specs.declared.uses.ProcessUse.{ProcessUse}
use Rattle.ipc_store.specs.Uses.{is_among, uses_but, IsWithin}

-- what holds of all but some holds of each that isn't among them
pub all_but : (ps : List ℕ) (f : ProcessUse → Bool) (uses : List ProcessUse) → list_all (λ it. is_among ps it.pid || f it) uses ≡ list_all f (uses_but ps uses)
all_but ps f [] = refl
all_but ps f (x ∷ xs) = ap (λ b. (is_among ps x.pid || f x) && b) (all_but ps f xs) ∙ by (is_among ps x.pid) (uses_but ps xs)
  where
    by : (a : Bool) (ys : List ProcessUse) → ((a || f x) && list_all f ys) ≡ list_all f (cond (not a) (x ∷ ys) ys)
    by true ys = refl
    by false ys = refl

-- what is among some and passes is among those that pass
kept : (f : ProcessUse → Bool) (xs : List ProcessUse) (j : ℕ) (x : ProcessUse) → f x ≡ true → slice_get xs j ≡ Some x → (i : ℕ) × (slice_get (filter f xs) i ≡ Some x)
kept f [] j x passes e = absurd (cc)
kept f (y ∷ ys) zero x passes e =
    let same : y ≡ x = cc in
    (0, subst (λ b. slice_get (cond b (y ∷ filter f ys) (filter f ys)) 0 ≡ Some x) (sym (ap f same ∙ passes)) e)
kept f (y ∷ ys) (suc j) x passes e = by (f y) (kept f ys j x passes e)
  where
    by : (b : Bool) → (i : ℕ) × (slice_get (filter f ys) i ≡ Some x) → (i : ℕ) × (slice_get (cond b (y ∷ filter f ys) (filter f ys)) i ≡ Some x)
    by true h = (suc h.0, h.1)
    by false h = h

-- and what is among those is among all
back : (f : ProcessUse → Bool) (xs : List ProcessUse) (i : ℕ) (x : ProcessUse) → slice_get (filter f xs) i ≡ Some x → (j : ℕ) × (slice_get xs j ≡ Some x)
back f [] i x e = (i, e)
back f (y ∷ ys) i x e = by (f y) i e (λ j h. back f ys j x h)
  where
    by : (b : Bool) (i : ℕ) → slice_get (cond b (y ∷ filter f ys) (filter f ys)) i ≡ Some x → ((j : ℕ) → slice_get (filter f ys) j ≡ Some x → (k : ℕ) × (slice_get ys k ≡ Some x))
        → (j : ℕ) × (slice_get (y ∷ ys) j ≡ Some x)
    by true zero e rest = (0, e)
    by true (suc i) e rest = let h = rest i e in (suc h.0, h.1)
    by false i e rest = let h = rest i e in (suc h.0, h.1)

-- a call that is within all uses is within those of some, where they have its process, and the other way round
pub within_but : (ps : List ℕ) (uses : List ProcessUse) (k : KernelState) (p : ℕ) (c : Call) → is_among ps p ≡ false → IsWithin uses k p c → IsWithin (uses_but ps uses) k p c
within_but ps uses k p c other h = record {
  keeps = h.keeps;
  listed = λ i n u at name made.
      let it = h.listed i n u at name made in
      kept (λ it. not (is_among ps it.pid)) uses it.0 (record { pid = p; name = n; made = u }) (ap not other) it.1;
}

pub within_whole : (ps : List ℕ) (uses : List ProcessUse) (k : KernelState) (p : ℕ) (c : Call) → IsWithin (uses_but ps uses) k p c → IsWithin uses k p c
within_whole ps uses k p c h = record {
  keeps = h.keeps;
  listed = λ i n u at name made.
      let it = h.listed i n u at name made in
      back (λ it. not (is_among ps it.pid)) uses it.0 (record { pid = p; name = n; made = u }) it.1;
}
