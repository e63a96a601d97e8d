-- What a call works on, by the numbers of parts that are kept.
use Rattle.std.proofs.Common.{◌≡◌, ℕ, Bool, true, false, List, Option, Some, None, unwrap_or, slice_get, refl, sym, ap, subst, ◌∙◌, option_and_then, rules}
use Rattle.ipc_kernel.specs.declared.call.Call.{Call}
use Rattle.ipc_kernel.specs.declared.call.Handle.{Handle}
use Rattle.ipc_kernel.specs.declared.place.Place.{Place}
use Rattle.ipc_kernel.specs.declared.place.Place.TheVariants.{Empty}
use Rattle.ipc_kernel.specs.declared.process.OpenTables.{OpenTables}
use Rattle.ipc_kernel.specs.Processes.{process_at}
use Rattle.ipc_kernel.specs.Places.{place_at}
use Rattle.ipc_kernel.specs.Kernel.{KernelState}
use Rattle.ipc_kernel.specs.Operands.{handle_of, place_of}
use Rattle.ipc_kernel.specs.OwnCalls.{is_own, is_unlink}
use Rattle.std.proofs.lemmas.Bool.{or_left, or_right}
use Rattle.ipc_store.specs.Kept.{KeptKernels}
use Rattle.ipc_store.specs.declared.uses.Use.{Use}
use Rattle.ipc_store.specs.declared.uses.ProcessUse.{ProcessUse}
use Rattle.ipc_store.specs.Uses.{object_name, use_of, place_used, is_unnoticed, is_unnoticed_at, is_own_by, IsListed, IsWithin}
use Rattle.ipc_store.specs.Private.Used.{IsUsed}
use Rattle.ipc_store.proofs.Renamings.{nobody}

-- the tables with a number are those of the process
tables_are : (t : KeptKernels) (k : KernelState) (p n : ℕ) (x : OpenTables) → (u : OpenTables) × (slice_get t.tables n ≡ Some u) × (slice_get k.processes p ≡ Some u) → slice_get t.tables n ≡ Some x → process_at k.processes p ≡ x
tables_are t k p n x h e = let both : Some h.0 ≡ Some x = sym h.1 ∙ e in let same : h.0 ≡ x = cc in ap (λ o. unwrap_or o nobody) h.2 ∙ same

-- no descriptor or slot is open
pub used_none : (t : KeptKernels) (k : KernelState) (p n : ℕ) (h : Handle) (x : OpenTables) → (u : OpenTables) × (slice_get t.tables n ≡ Some u) × (slice_get k.processes p ≡ Some u) → slice_get t.tables n ≡ Some x → place_of x h ≡ None
    → IsUsed t k p h None
used_none t k p n h x tables e none = ap (λ u. place_of u h) (tables_are t k p n x tables e) ∙ none

-- one is, and refers to an object
pub used_some : (t : KeptKernels) (k : KernelState) (p n m i : ℕ) (h : Handle) (x : OpenTables) → (u : OpenTables) × (slice_get t.tables n ≡ Some u) × (slice_get k.processes p ≡ Some u) → slice_get t.tables n ≡ Some x → place_of x h ≡ Some i
    → (o : Place) × (slice_get t.objects m ≡ Some o) × (slice_get k.places i ≡ Some o) → IsUsed t k p h (Some (n, m))
used_some t k p n m i h x tables e at object =
    let same = tables_are t k p n x tables e in (
      i,
      ap (λ u. place_of u h) same ∙ at,
      e ∙ ap (λ u. Some u) (sym same),
      object.1 ∙ ap (λ o. Some o) (sym (ap (λ o. unwrap_or o Empty) object.2)),
    )

-- the place that a call uses, by its handle
used_by : (t : OpenTables) (c : Call) (h : Handle) (x : Option ℕ) → Some h ≡ handle_of c → place_of t h ≡ x → place_used t c ≡ x
used_by t c h x is at = ap (option_and_then (place_of t)) (sym is) ∙ at

-- a call that is unnoticed on its object
pub own_by_object : (t : KeptKernels) (k : KernelState) (uses : List ProcessUse) (p : ℕ) (c : Call) (h : Handle) (n : ℕ × ℕ) (o : Place) → Some h ≡ handle_of c → IsUsed t k p h (Some n) → slice_get t.objects n.1 ≡ Some o
    → is_unnoticed uses p o c ≡ true → is_own_by uses k p c ≡ true
own_by_object t k uses p c h n o is used at unnoticed =
    let both : Some (place_at k.places used.0) ≡ Some o = sym used.3 ∙ at in
    let same : place_at k.places used.0 ≡ o = cc in
    or_right (is_own k.places c) _
    (ap (is_unnoticed_at uses p k.places c) (used_by (process_at k.processes p) c h (Some used.0) is used.1) ∙ ap (λ y. is_unnoticed uses p y c) same ∙ unnoticed)

pub own_by_own : (k : KernelState) (uses : List ProcessUse) (p : ℕ) (c : Call) → is_own k.places c ≡ true → is_own_by uses k p c ≡ true
own_by_own k uses p c own = or_left (is_own k.places c) _ own

-- a call without a handle uses nothing
pub within_without : (k : KernelState) (uses : List ProcessUse) (p : ℕ) (c : Call) → is_unlink c ≡ false → handle_of c ≡ None → IsWithin uses k p c
within_without k uses p c keeps none = record {
  keeps = keeps;
  listed = λ i n u at name made. let no : None ≡ Some i = sym (ap (option_and_then (place_of (process_at k.processes p))) none) ∙ at in absurd (cc);
}

-- nor does one whose descriptor or slot isn't open
pub within_closed : (t : KeptKernels) (k : KernelState) (uses : List ProcessUse) (p : ℕ) (c : Call) (h : Handle) → is_unlink c ≡ false → Some h ≡ handle_of c → IsUsed t k p h None → IsWithin uses k p c
within_closed t k uses p c h keeps is none = record {
  keeps = keeps;
  listed = λ i n u at name made. let no : None ≡ Some i = sym (used_by (process_at k.processes p) c h None is none) ∙ at in absurd (cc);
}

-- a use that is listed, or there is none
pub within_listed : (t : KeptKernels) (k : KernelState) (uses : List ProcessUse) (p : ℕ) (c : Call) (h : Handle) (n : ℕ × ℕ) (x : OpenTables) (o : Place) → is_unlink c ≡ false → Some h ≡ handle_of c
    → IsUsed t k p h (Some n) → slice_get t.tables n.0 ≡ Some x → slice_get t.objects n.1 ≡ Some o
    → ((name : List ℕ) (u : Use) → object_name o ≡ Some name → use_of x c ≡ Some u → IsListed uses p name u) → IsWithin uses k p c
within_listed t k uses p c h n x o keeps is used tables object listed =
    let both : Some (place_at k.places used.0) ≡ Some o = sym used.3 ∙ object in
    let same : place_at k.places used.0 ≡ o = cc in
    let both_tables : Some (process_at k.processes p) ≡ Some x = sym used.2 ∙ tables in
    let same_tables : process_at k.processes p ≡ x = cc in
    record {
      keeps = keeps;
      listed = λ i name u at named made.
          let places : Some used.0 ≡ Some i = sym (used_by (process_at k.processes p) c h (Some used.0) is used.1) ∙ at in
          let place : used.0 ≡ i = cc in
          listed name u (sym (ap object_name same) ∙ ap (λ j. object_name (place_at k.places j)) place ∙ named) (sym (ap (λ y. use_of y c) same_tables) ∙ made);
    }
