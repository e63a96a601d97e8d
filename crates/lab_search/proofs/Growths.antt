-- Stores that grow.
use Rattle.std.proofs.Common.{All, inl, inr, ◌⊎◌, Bool, true, false, IsTrue, ℕ, ◌≡◌, List, [], ◌∷◌, ◌++◌, Option, Some, None, refl, sym, ap, subst, ◌∙◌, slice_get, length}
use Rattle.std.specs.Option.{option_map}
use Rattle.ipc_kernel.specs.Kernel.{KernelState}
use Rattle.lab_sched.specs.declared.process.Process.{Process as Kept}
use Rattle.lab_sched.specs.Worlds.{Process, WorldState}
use Rattle.lab_sched.specs.Held.{process_view}
use Rattle.lab_states.specs.Rows.{Row}
use Rattle.lab_states.specs.declared.edges.Edge.{Edge}
use Rattle.lab_search.specs.declared.store.Store.{Store}
use Rattle.lab_search.specs.declared.store.Next.{Next}
use Rattle.lab_search.specs.declared.store.Next.TheVariants.{To}
use Rattle.lab_search.specs.declared.footprints.Footprint.{Footprint}
use Rattle.lab_search.specs.declared.footprints.Footprints.{Footprints}
use Rattle.lab_search.specs.declared.footprints.FootprintEffect.{FootprintEffect}
use Rattle.lab_search.specs.declared.footprints.Effect.{Effect}
use Rattle.lab_search.specs.declared.footprints.Effect.TheVariants as effect
use Rattle.lab_search.specs.declared.store.Move.{Move}
use Rattle.lab_search.specs.declared.store.Moves.{Moves}
use Rattle.lab_search.specs.declared.store.Mover.{Mover}
use Rattle.ipc_store.specs.Kept.{KeptKernels, GrowsKept}
use Rattle.ipc_kernel.specs.declared.place.Place.{Place}
use Rattle.ipc_kernel.specs.declared.process.OpenTables.{OpenTables}
use Rattle.lab_states.specs.CollapsedStates.{IsSameOrMore}
use Rattle.ipc_store.specs.declared.uses.ProcessUse.{ProcessUse}
use Rattle.lab_search.specs.Reduced.{HasAmpleStep, IsExpandedIn}
use Rattle.lab_search.specs.Stored.{IsState, IsKernel, IsRow, IsAt, LeadsTo, IsStore, IsNext, IsMove, AreMoves, AreParts, IsEffect, IsFootprintEffect, AreFootprintEffects, HasEdge, HasEdgeIfEnabled, IsExpanded}
use Rattle.lab_worlds.specs.Stepped.{IsReady}
use Rattle.lab_search.specs.Private.Stored.{Grows, IsLater}
use Rattle.lab_worlds.specs.Private.Kept.{Keeps}
use Rattle.std.proofs.lemmas.List.Elements.{All-push, All-weaker}
use Rattle.lab_worlds.proofs.Pushes.{both_weaker, keeps_push, get_pushed}

pub kept_more : (t u v : KeptKernels) → GrowsKept t u → GrowsKept u v → GrowsKept t v
kept_more t u v g h = record {
  objects = λ i x e. h.objects i x (g.objects i x e);
  tables = λ i x e. h.tables i x (g.tables i x e);
  kernels = λ i x e. h.kernels i x (g.kernels i x e);
}

pub grows_more : (t u v : Store) → Grows t u → Grows u v → Grows t v
grows_more t u v g h = record {
  kernels = kept_more t.kernels u.kernels v.kernels g.kernels h.kernels;
  states = λ i x e. h.states i x (g.states i x e);
  rows = λ i x e. h.rows i x (g.rows i x e);
  edges = λ i x e. h.edges i x (g.edges i x e);
}

pub later_more : (t u v : Store) → IsLater t u → IsLater u v → IsLater t v
later_more t u v g h = record { grows = grows_more t u v g.grows h.grows; store = h.store }

-- a store is what it was where nothing was added
pub kept_same : (t : KeptKernels) → GrowsKept t t
kept_same t = record { objects = λ i x e. e; tables = λ i x e. e; kernels = λ i x e. e }

pub grows_same : (t : Store) → Grows t t
grows_same t = record {
  kernels = kept_same t.kernels;
  states = λ i x e. e;
  rows = λ i x e. e;
  edges = λ i x e. e;
}

kept_at : (o : Option Kept) (s : Process) → option_map process_view o ≡ Some s → (k : Kept) × (o ≡ Some k) × (process_view k ≡ s)
kept_at None s e = absurd (cc)
kept_at (Some k) s e = (k, refl, (cc))

-- the state that is kept at a place
pub state_kept : (t : Store) (i : ℕ) (s : Process) → IsState t i s → (k : Kept) × (slice_get t.states.processes i ≡ Some k) × (process_view k ≡ s)
state_kept t i s h = kept_at (slice_get t.states.processes i) s h

pub state_grows : (t u : Store) (i : ℕ) (s : Process) → Grows t u → IsState t i s → IsState u i s
state_grows t u i s g h =
    let k = state_kept t i s h in
    ap (λ o. option_map process_view o) (g.states i k.0 k.1) ∙ ap (λ x. Some x) k.2

pub row_grows : (t u : Store) (r : Row) (w : WorldState) → Grows t u → IsRow t r w → IsRow u r w
row_grows t u r w g h = record {
  kernel = g.kernels.kernels r.kernel w.kernel h.kernel;
  settled = h.settled;
  states = λ p. both_weaker (IsState t) (IsState u) (λ i s. state_grows t u i s g) (slice_get r.states p) (slice_get w.processes p) (h.states p);
}

pub at_grows : (t u : Store) (i : ℕ) (w : WorldState) → Grows t u → IsAt t i w → IsAt u i w
at_grows t u i w g h = (h.0, g.rows i h.0 h.1, row_grows t u h.0 w g h.2)

pub kernel_grows : (t u : Store) (i : ℕ) (k : KernelState) → Grows t u → IsKernel t i k → IsKernel u i k
kernel_grows t u i k g h = (h.0, g.kernels.kernels i h.0 h.1, h.2, h.3)

next_grows : (t u : Store) (k : KernelState) (p : ℕ) (s : Process) (n : Next) → Grows t u → IsNext t k p s n → IsNext u k p s n
next_grows t u k p s (To kernel state taken errors) g h = (h.0, kernel_grows t u kernel _ g h.1, state_grows t u state h.0 g h.2, h.3, h.4, h.5)
next_grows t u k p s _ g h = h

pub move_grows : (t u : Store) (m : Mover) (n : Next) → Grows t u → IsMove t m n → IsMove u m n
move_grows t u m n g h = (h.0, h.1, g.kernels.kernels m.kernel h.0 h.2, state_grows t u m.state h.1 g h.3, λ settled. next_grows t u h.0 m.pid h.1 n g (h.4 settled))

-- moves that were made stay so
moves_grow : (t u : Store) (ms : List Move) → Grows t u → AreMoves t ms → AreMoves u ms
moves_grow t u ms g h = All-weaker (λ (m : Move). IsMove t m.mover m.next) (λ (m : Move). IsMove u m.mover m.next) (λ m old. move_grows t u m.mover m.next g old) ms h

edge_grows : (t u : Store) (i : ℕ) (w : WorldState) (p : ℕ) → Grows t u → HasEdge t i w p → HasEdge u i w p
edge_grows t u i w p g h = (h.0, h.1, h.2, g.edges h.0 h.1 h.3, h.4, at_grows t u h.1.to h.2 g h.5, h.6, h.7)

pub expanded_in_grows : (t u : Store) (i : ℕ) (w : WorldState) (p : ℕ) → Grows t u → HasEdgeIfEnabled t i w p → HasEdgeIfEnabled u i w p
expanded_in_grows t u i w p g h e = edge_grows t u i w p g (h e)

pub expanded_grows : (t u : Store) (i : ℕ) → Grows t u → IsExpanded t i → IsExpanded u i
expanded_grows t u i g h = (h.0, at_grows t u i h.0 g h.1, λ p. expanded_in_grows t u i h.0 p g (h.2 p))

-- an edge to a later row stays one
pub alone_grows : (uses : List ProcessUse) (t u : Store) (i : ℕ) → Grows t u → HasAmpleStep uses t i → HasAmpleStep uses u i
unfolding edge_grows
alone_grows uses t u i g (w, at, p, ps, ended, own, x, later) = (w, at_grows t u i w g at, p, ps, ended, own, edge_grows t u i w p g x, later)

-- each step that goes on has an edge, so it needs no independent one
pub expanded_in : (reduced : Bool) (uses : List ProcessUse) (t : Store) (i : ℕ) → IsExpanded t i → IsExpandedIn reduced uses t i
expanded_in false uses t i h = h
expanded_in true uses t i h = inl h

pub are_expanded_in_grows : (reduced : Bool) (uses : List ProcessUse) (t u : Store) (i : ℕ) → Grows t u → IsExpandedIn reduced uses t i → IsExpandedIn reduced uses u i
are_expanded_in_grows false uses t u i g h = expanded_grows t u i g h
are_expanded_in_grows true uses t u i g (inl h) = inl (expanded_grows t u i g h)
are_expanded_in_grows true uses t u i g (inr h) = inr (alone_grows uses t u i g h)

-- where a row leads, it still does
pub leads_grow : (t u : Store) (i p j : ℕ) → Grows t u → LeadsTo t i p j → LeadsTo u i p j
leads_grow t u i p j g (w, v, from, to, reached, goes) = (w, v, at_grows t u i w g from, at_grows t u j v g to, reached, goes)

-- tables and an object stay what they are
parts_grow : (t u : Store) (tables object : ℕ) (x : OpenTables) (o : Place) → Grows t u → AreParts t tables object x o → AreParts u tables object x o
parts_grow t u tables object x o g h = (g.kernels.tables tables x h.0, g.kernels.objects object o h.1)

pub effect_grows : (t u : Store) (k : KernelState) (p : ℕ) (s : Process) (i : ℕ) (e : Effect) → Grows t u → IsEffect t k p s i e → IsEffect u k p s i e
effect_grows t u k p s i (effect.To tables object state taken errors) g h =
    (h.0, h.1, h.2, parts_grow t u tables object h.0 h.1 g h.3, state_grows t u state h.2 g h.4, h.5, h.6, h.7, h.8)
effect_grows t u k p s i _ g h = h

pub footprint_effect_grows : (t u : Store) (x : Footprint) (e : Effect) → Grows t u → IsFootprintEffect t x e → IsFootprintEffect u x e
footprint_effect_grows t u x e g h =
    (h.0, h.1, h.2, h.3, state_grows t u x.state h.0 g h.4, parts_grow t u x.tables x.object h.1 h.2 g h.5, h.6, λ k p settled at works. effect_grows t u k p h.0 x.place e g (h.7 k p settled at works))

footprints_grow : (t u : Store) (ts : List FootprintEffect) → Grows t u → AreFootprintEffects t ts → AreFootprintEffects u ts
footprints_grow t u ts g h =
    All-weaker (λ (m : FootprintEffect). IsFootprintEffect t m.footprint m.effect) (λ (m : FootprintEffect). IsFootprintEffect u m.footprint m.effect) (λ m old. footprint_effect_grows t u m.footprint m.effect g old) ts h

-- a list that is the same, or has one element more, of which this holds
abbrev pub IsGrown : {A : Type 0} → (A → Type 0) → List A → List A → Type 0
IsGrown {A} P xs ys = (ys ≡ xs) ⊎ ((x : A) × (ys ≡ xs ++ x ∷ []) × P x)

grown_keeps : {A : Type 0} (P : A → Type 0) (xs ys : List A) → IsGrown P xs ys → Keeps xs ys
grown_keeps P xs ys (inl same) i x e = ap (λ zs. slice_get zs i) same ∙ e
grown_keeps P xs ys (inr more) i x e = ap (λ zs. slice_get zs i) more.1 ∙ keeps_push xs more.0 i x e

grown_all : {A : Type 0} (P Q : A → Type 0) (xs ys : List A) → IsGrown P xs ys → ((x : A) → P x → Q x) → All P xs → All Q ys
grown_all P Q xs ys (inl same) weaker all = subst (All Q) (sym same) (All-weaker P Q weaker xs all)
grown_all P Q xs ys (inr more) weaker all = subst (All Q) (sym more.1) (All-push Q xs more.0 (All-weaker P Q weaker xs all) (weaker more.0 more.2))

-- where there is perhaps one element more
pub grown_by : {A : Type 0} (P : A → Type 0) (xs ys : List A) (x : A) → P x → IsSameOrMore xs ys x → IsGrown P xs ys
grown_by P xs ys x here (inl same) = inl same
grown_by P xs ys x here (inr more) = inr (x, more, here)

-- where an element may have been pushed, by whether it was
pub grown_if : {A : Type 0} (P : A → Type 0) (done : Bool) (xs ys : List A) (x : A) → P x → (IsTrue done → ys ≡ xs ++ x ∷ []) → (done ≡ false → ys ≡ xs) → IsGrown P xs ys
grown_if P true xs ys x here pushed same = inr (x, pushed refl, here)
grown_if P false xs ys x here pushed same = inl (same refl)

abbrev pub HasWorld : Store → Row → Type 0
HasWorld t r = (w : WorldState) × IsRow t r w

abbrev pub Leads : Store → Edge → Type 0
Leads t e = LeadsTo t e.from e.pid e.to

abbrev pub AreKnownIn : Store → Moves → Type 0
AreKnownIn t ms = AreMoves t ms.made.items × AreFootprintEffects t ms.footprints.made.items

-- a store with more kernels, other moves, and perhaps a state, a row and an edge more
pub later_by : (t u : Store) → IsStore t → GrowsKept t.kernels u.kernels → IsGrown IsReady t.states.processes u.states.processes → IsGrown (HasWorld t) t.rows u.rows → IsGrown (Leads t) t.edges u.edges
    → AreKnownIn t u.moves → IsLater t u
later_by t u s kernels states rows edges known =
    let g : Grows t u = record {
      kernels = kernels;
      states = grown_keeps IsReady t.states.processes u.states.processes states;
      rows = grown_keeps (HasWorld t) t.rows u.rows rows;
      edges = grown_keeps (Leads t) t.edges u.edges edges;
    } in
    record {
      grows = g;
      store = record {
        states = grown_all IsReady IsReady t.states.processes u.states.processes states (λ k h. h) s.states;
        rows = grown_all (HasWorld t) (HasWorld u) t.rows u.rows rows (λ r h. (h.0, row_grows t u r h.0 g h.1)) s.rows;
        edges = grown_all (Leads t) (Leads u) t.edges u.edges edges (λ e h. leads_grow t u e.from e.pid e.to g h) s.edges;
        known = record { moves = moves_grow t u u.moves.made.items g known.0; footprints = footprints_grow t u u.moves.footprints.made.items g known.1 };
      };
    }

-- the same moves
pub still_known : (t : Store) → IsStore t → AreKnownIn t t.moves
still_known t s = (s.known.moves, s.known.footprints)

-- one move more
pub move_added : (t : Store) (ms : Moves) (m : Mover) (n : Next) → IsStore t → IsMove t m n → ms.footprints ≡ t.moves.footprints → ((u : Store) → AreMoves u t.moves.made.items → IsMove u m n → AreMoves u ms.made.items)
    → AreKnownIn t ms
move_added t ms m n s move footprints known = (known t s.known.moves move, subst (λ (x : Footprints). AreFootprintEffects t x.made.items) (sym footprints) s.known.footprints)

-- nothing is looked for any more
pub closed : (t u : Store) → IsStore t → u ≡ record t { row_index = u.row_index } → IsLater t u
closed t u s same =
    subst (IsLater t) (sym same) (later_by t (record t { row_index = u.row_index }) s (kept_same t.kernels) (inl refl) (inl refl) (inl refl) (still_known t s))

-- what stopped the search is no part of what it holds
pub stopped : (t u : Store) → IsStore t → u ≡ record t { stop = u.stop } → IsLater t u
stopped t u s same =
    subst (IsLater t) (sym same) (later_by t (record t { stop = u.stop }) s (kept_same t.kernels) (inl refl) (inl refl) (inl refl) (still_known t s))

pub row_pushed : (t u : Store) (r : Row) (w : WorldState) (n : ℕ) → Grows t u → u.rows ≡ t.rows ++ r ∷ [] → n ≡ length t.rows → IsRow t r w → IsAt u n w
row_pushed t u r w n g rows is h =
    (r, ap (λ xs. slice_get xs n) rows ∙ ap (λ m. slice_get (t.rows ++ r ∷ []) m) is ∙ get_pushed t.rows r, row_grows t u r w g h)
