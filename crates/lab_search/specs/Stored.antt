-- What a search keeps: kernels, states of processes, worlds as places among these, and the moves that it has made.
use Rattle.std.specs.Prelude.{ℕ, ◌≡◌, ◌<◌, List, Some, All, length, slice_get}
use Rattle.std.specs.Option.{option_map}
use Rattle.ipc_kernel.specs.Kernel.{KernelState, IsSettled}
use Rattle.ipc_kernel.specs.Alike.{IsAlike}
use Rattle.ipc_kernel.specs.Operands.{HasOperand, operand_in, with_operand}
use Rattle.ipc_kernel.specs.declared.call.Call.{Call}
use Rattle.ipc_kernel.specs.declared.place.Place.{Place}
use Rattle.ipc_kernel.specs.declared.process.OpenTables.{OpenTables}
use Rattle.lab_sched.specs.Worlds.{Process, WorldState, step_effect, step_effect_in, step}
use Rattle.lab_sched.specs.Held.{process_view, step_of}
use Rattle.lab_conditions.specs.Conditions.{StandsAt}
use Rattle.lab_worlds.specs.Calls.{AreAlike, Alongside}
use Rattle.lab_worlds.specs.Closed.{HasAdvance}
use Rattle.lab_worlds.specs.Unwaiting.{GoesOn}
use Rattle.lab_worlds.specs.Stepped.{IsReady, IsReached, AreReached}
use Rattle.lab_worlds.specs.declared.errors.Errors.{Errors}
use Rattle.lab_worlds.specs.Errors.{IsAnswered, IsAnsweredToCall}
use Rattle.lab_states.specs.Rows.{Row}
use Rattle.lab_states.specs.declared.edges.Edge.{Edge}
use Rattle.lab_search.specs.declared.store.Move.{Move}
use Rattle.lab_search.specs.declared.store.Mover.{Mover}
use Rattle.lab_search.specs.declared.store.Store.{Store}
use Rattle.lab_search.specs.declared.store.Next.{Next}
use Rattle.lab_search.specs.declared.store.Next.TheVariants.{Nothing, Limit, To}
use Rattle.lab_search.specs.declared.footprints.Effect.{Effect}
use Rattle.lab_search.specs.declared.footprints.Effect.TheVariants as outcome
use Rattle.lab_search.specs.declared.footprints.Footprint.{Footprint}
use Rattle.lab_search.specs.declared.footprints.FootprintEffect.{FootprintEffect}

-- the state at a place
abbrev pub IsState : Store → ℕ → Process → Type 0
IsState t i s = option_map process_view (slice_get t.states.processes i) ≡ Some s

-- the kernel with this number
abbrev pub IsExactly : Store → ℕ → KernelState → Type 0
IsExactly t i k = slice_get t.kernels.kernels i ≡ Some k

-- a row stands for the world with the kernel at its place, which is settled, and the states at theirs
pub record IsRow (t : Store) (r : Row) (w : WorldState) : Type 0 where
  pub kernel : IsExactly t r.kernel w.kernel
  pub settled : IsSettled w.kernel
  pub states : Alongside (IsState t) r.states w.processes

-- row number i stands for the world
abbrev pub IsAt : Store → ℕ → WorldState → Type 0
IsAt t i w = (r : Row) × (slice_get t.rows i ≡ Some r) × IsRow t r w

-- row number i stands for a world that the world is alike
abbrev pub IsLike : Store → ℕ → WorldState → Type 0
IsLike t i w = (v : WorldState) × IsAt t i v × AreAlike v w

-- a step of process p by which it goes on, and then all local steps, lead from the world of row number i to that of row
-- number j
abbrev pub LeadsTo : Store → ℕ → ℕ → ℕ → Type 0
LeadsTo t i p j =
    (w : WorldState) × (v : WorldState) × IsAt t i w × IsAt t j v × AreReached (step w p) v
    × GoesOn (step_effect_in w p)

-- the kernel with this number is settled, and alike a kernel
abbrev pub IsKernel : Store → ℕ → KernelState → Type 0
IsKernel t i k = (j : KernelState) × IsExactly t i j × IsAlike k j × IsSettled j

-- what a step of process p makes of it and of the kernel, and of it then all its local steps; and the errors of those of these
-- steps that are refused
abbrev pub IsNext : Store → KernelState → ℕ → Process → Next → Type 0
IsNext t k p s Nothing = GoesOn (step_effect k p (Some s)) → ⊥
IsNext t k p s Limit = GoesOn (step_effect k p (Some s))
IsNext t k p s (To kernel state taken errors) =
    (u : Process) × IsKernel t kernel (step_of k p s).kernel × IsState t state u
    × IsReached (step_of k p s).process u × GoesOn (step_effect k p (Some s))
    × IsAnswered k p s taken errors u

-- the same where the kernel, if it is settled, and the process are given by their places
abbrev pub IsMove : Store → Mover → Next → Type 0
IsMove t m next =
    (k : KernelState) × (s : Process) × IsExactly t m.kernel k × IsState t m.state s
    × (IsSettled k → IsNext t k m.pid s next)

-- each move is such a one
abbrev pub AreMoves : Store → List Move → Type 0
AreMoves t ms = All (λ (m : Move). IsMove t m.mover m.next) ms

-- the tables and the object with these numbers
abbrev pub AreParts : Store → ℕ → ℕ → OpenTables → Place → Type 0
AreParts t tables object x o =
    (slice_get t.kernels.tables tables ≡ Some x) × (slice_get t.kernels.objects object ≡ Some o)

-- what a step of process p makes of its tables, of the object in a place, and of it then all its
-- local steps, with the errors of those that are refused; of the kernel nothing else is changed
abbrev pub IsEffect : Store → KernelState → ℕ → Process → ℕ → Effect → Type 0
IsEffect t k p s i outcome.Nothing = GoesOn (step_effect k p (Some s)) → ⊥
IsEffect t k p s i outcome.Limit = GoesOn (step_effect k p (Some s))
IsEffect t k p s i (outcome.To tables object state taken errors) =
    (x : OpenTables) × (o : Place) × (u : Process) × AreParts t tables object x o × IsState t state u
    × ((step_of k p s).kernel ≡ with_operand k p i o x) × IsReached (step_of k p s).process u
    × GoesOn (step_effect k p (Some s)) × IsAnswered k p s taken errors u

-- that comes of a step at the call, over whatever kernel in which it works on the object in the place
abbrev pub IsFootprintEffect : Store → Footprint → Effect → Type 0
IsFootprintEffect t footprint effect =
    (s : Process) × (x : OpenTables) × (o : Place) × (c : Call) × IsState t footprint.state s
    × AreParts t footprint.tables footprint.object x o × StandsAt s c
    × ((k : KernelState) (p : ℕ) → IsSettled k → HasOperand k p footprint.place x o
    → operand_in k x c ≡ Some footprint.place → IsEffect t k p s footprint.place effect)

-- each step is such a one
abbrev pub AreFootprintEffects : Store → List FootprintEffect → Type 0
AreFootprintEffects t ts = All (λ (m : FootprintEffect). IsFootprintEffect t m.footprint m.effect) ts

-- the moves that were made are such, and so are the steps at calls that work on one object
pub record AreKnown (t : Store) : Type 0 where
  pub moves : AreMoves t t.moves.made.items
  pub footprints : AreFootprintEffects t t.moves.footprints.made.items

-- each row stands for a world, each edge leads to where it says, and the moves are those of the processes
pub record IsStore (t : Store) : Type 0 where
  pub states : All IsReady t.states.processes
  pub rows : All (λ r. (w : WorldState) × IsRow t r w) t.rows
  pub edges : All (λ (e : Edge). LeadsTo t e.from e.pid e.to) t.edges
  pub known : AreKnown t

-- what process p does next in the world of row number i
abbrev pub IsNextAt : Store → ℕ → ℕ → Next → Type 0
IsNextAt t i p next =
    (w : WorldState) → IsAt t i w
    → (s : Process) × (slice_get w.processes p ≡ Some s) × IsNext t w.kernel p s next

-- the step of process p from the world of row number i and the n local steps after it, which are all, have no errors but these
abbrev pub AreErrorsAt : Store → ℕ → ℕ → ℕ → Errors → Type 0
AreErrorsAt t i p n es =
    (w : WorldState) → IsAt t i w
    → (s : Process) × (slice_get w.processes p ≡ Some s) × IsAnsweredToCall w.kernel p s n es

-- an edge from row number i, of process p, leads to the world after a step of p and then all its
-- local steps
abbrev pub HasEdge : Store → ℕ → WorldState → ℕ → Type 0
HasEdge t i w p =
    (k : ℕ) × (e : Edge) × (v : WorldState) × (slice_get t.edges k ≡ Some e) × (e.from ≡ i)
    × IsAt t e.to v × AreReached (step w p) v × (e.pid ≡ p)

-- the step of process p from the world of row number i, if the process goes on, has an edge
abbrev pub HasEdgeIfEnabled : Store → ℕ → WorldState → ℕ → Type 0
HasEdgeIfEnabled t i w p = GoesOn (step_effect_in w p) → HasEdge t i w p

-- row number i stands for a world from which each step by which a process goes on has an edge
abbrev pub IsExpanded : Store → ℕ → Type 0
IsExpanded t i = (w : WorldState) × IsAt t i w × ((p : ℕ) → HasEdgeIfEnabled t i w p)

-- the same of each row
abbrev pub AreExpanded : Store → Type 0
AreExpanded t = (i : ℕ) → i < length t.rows → IsExpanded t i

-- the first row stands for the advance of the start, and each step from each row is held
pub record IsSearched (start : WorldState) (t : Store) : Type 0 where
  pub begins : HasAdvance (IsAt t 0) start
  pub expanded : AreExpanded t
