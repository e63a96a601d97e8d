-- Steps at calls that work on one object, from one kernel to another.
use Rattle.std.proofs.Common.{ℕ, ◌≡◌, Some, refl, sym, subst, ◌∙◌, slice_get}
use Rattle.std.specs.Option.{option_map}
use Rattle.ipc_kernel.specs.Kernel.{KernelState, IsSettled}
use Rattle.ipc_kernel.specs.Alike.{IsAlike}
use Rattle.ipc_kernel.specs.Operands.{HasOperand, operand_in}
use Rattle.ipc_kernel.specs.declared.call.Call.{Call}
use Rattle.ipc_kernel.specs.declared.place.Place.{Place}
use Rattle.ipc_kernel.specs.declared.process.OpenTables.{OpenTables}
use Rattle.lab_conditions.specs.Conditions.{StandsAt}
use Rattle.lab_sched.specs.Worlds.{Process, Running, Waiting, Ended, calls, step_effect}
use Rattle.lab_sched.specs.Verdicts.{HasEnded}
use Rattle.lab_sched.specs.declared.process.Process.{Process as Kept}
use Rattle.lab_worlds.specs.Unwaiting.{GoesOn}
use Rattle.lab_sched.specs.Held.{process_view}
use Rattle.lab_search.specs.declared.store.Mover.{Mover}
use Rattle.lab_search.specs.declared.store.Store.{Store}
use Rattle.lab_search.specs.declared.store.Next.{Next}
use Rattle.lab_search.specs.declared.store.Next.TheVariants as next
use Rattle.lab_search.specs.declared.footprints.Effect.{Effect}
use Rattle.lab_search.specs.declared.footprints.Effect.TheVariants.{Nothing, Limit, To}
use Rattle.lab_search.specs.declared.footprints.Footprint.{Footprint}
use Rattle.lab_worlds.specs.Operands.{IsStepAlike}
use Rattle.lab_search.specs.Stored.{IsState, IsExactly, IsNext, IsMove, AreParts, IsEffect, IsFootprintEffect}
use Rattle.lab_worlds.specs.Stepped.{IsReached}
use Rattle.lab_worlds.specs.declared.errors.Errors.{Errors}
use Rattle.lab_worlds.specs.Errors.{HasErrorAmong, AreLocalAmong, IsAnswered, IsAnsweredToCall}
use Rattle.lab_search.specs.Private.Stored.{IsMoveFrom, IsChanged, IsNextBy, Grows}
use Rattle.lab_search.specs.Private.FootprintEffect.{HasFootprint, IsOutcome}
use Rattle.lab_worlds.proofs.AfterLocalSteps.{same_some}
use Rattle.lab_search.proofs.Growths.{state_grows, state_kept}
use Rattle.lab_worlds.proofs.StepsOnObjects.{steps_by_operand, steps_settled}

-- a step that is alike has the errors of the other
answered_alike : (k j : KernelState) (p q : ℕ) (s : Process) (i n : ℕ) (es : Errors) (u : Process) → IsStepAlike k j p q s i → IsAnswered j q s n es u → IsAnswered k p s n es u
answered_alike k j p q s i n es u there h = record {
  step = subst (HasErrorAmong es) (sym there.told) h.step;
  after = subst (λ x. AreLocalAmong es n x u) (sym there.process) h.after;
}

-- what comes of a step over one kernel comes of it over another, where it is alike
outcome_over : (t : Store) (k j : KernelState) (p q : ℕ) (s : Process) (i : ℕ) (e : Effect) → IsStepAlike k j p q s i → IsStepAlike j k q p s i → IsOutcome t j q s i e → IsEffect t k p s i e
outcome_over t k j p q s i Nothing there back h = λ goes. h (back.goes_on goes)
outcome_over t k j p q s i Limit there back h = there.goes_on h
outcome_over t k j p q s i (To tables object state taken errors) there back h = (
  h.0,
  h.1,
  h.2,
  h.3,
  h.4,
  there.kernel h.0 h.1 h.5,
  subst (λ u. IsReached u h.2) (sym there.process) h.6,
  there.goes_on h.7,
  answered_alike k j p q s i taken errors h.2 there h.8,
)

-- a process stands at one call
stands_once : (s : Process) (c d : Call) → StandsAt s c → StandsAt s d → c ≡ d
stands_once (Running m) c d a b = let same : calls c ≡ calls d = sym a ∙ b in cc
stands_once (Waiting m e) c d a b = sym a ∙ b
stands_once (Ended e) c d a b = absurd a

-- a call that works on an object, by the numbers of its state, its tables and the object
same_footprint : (t : Store) (k : KernelState) (p : ℕ) (footprint : Footprint) (s : Process) (x : OpenTables) (o : Place) (c : Call) → IsState t footprint.state s → AreParts t footprint.tables footprint.object x o → StandsAt s c
    → HasFootprint t k p footprint → HasOperand k p footprint.place x o × (operand_in k x c ≡ Some footprint.place)
same_footprint t k p footprint s x o c state parts stands has =
    let s-is : has.process ≡ s = same_some has.process s (option_map process_view (slice_get t.states.processes footprint.state)) has.state state in
    let x-is : has.tables ≡ x = same_some has.tables x (slice_get t.kernels.tables footprint.tables) has.parts.0 parts.0 in
    let o-is : has.object ≡ o = same_some has.object o (slice_get t.kernels.objects footprint.object) has.parts.1 parts.1 in
    let c-is : has.call ≡ c = stands_once s has.call c (subst (λ r. StandsAt r has.call) s-is has.stands) stands in (
      subst (λ y. HasOperand k p footprint.place y o) x-is (subst (λ y. HasOperand k p footprint.place has.tables y) o-is has.operand),
      subst (λ y. operand_in k y c ≡ Some footprint.place) x-is (subst (λ d. operand_in k has.tables d ≡ Some footprint.place) c-is has.works),
    )

-- a step that was made at such a call is the step over whatever kernel
pub footprint_effect_made : (t u : Store) (k : KernelState) (p : ℕ) (s : Process) (footprint : Footprint) (e : Effect) → Grows t u → IsSettled k → IsState t footprint.state s → HasFootprint t k p footprint
    → IsOutcome u k p s footprint.place e → IsFootprintEffect u footprint e
footprint_effect_made t u k p s footprint e g settled state has made =
    let x = has.tables in
    let o = has.object in
    let c = has.call in
    let s-is : has.process ≡ s = same_some has.process s (option_map process_view (slice_get t.states.processes footprint.state)) has.state state in
    let stands : StandsAt s c = subst (λ r. StandsAt r c) s-is has.stands in (
      s,
      x,
      o,
      c,
      state_grows t u footprint.state s g state,
      (g.kernels.tables footprint.tables x has.parts.0, g.kernels.objects footprint.object o has.parts.1),
      stands,
      λ j q fixed at works.
          outcome_over u j k q p s footprint.place e
          (steps_by_operand j k q p s c footprint.place x o fixed settled stands works has.works at has.operand)
          (steps_by_operand k j p q s c footprint.place x o settled fixed stands has.works works has.operand at) made,
    )

-- what a process does next by the effect of its call, where a kernel is kept that is alike the one after it
pub next_by_changed : (t u : Store) (m : Mover) (i kernel tables object state taken : ℕ) (errors : Errors) → Grows t u → IsChanged t.kernels u.kernels m i object tables kernel
    → IsNextBy t u m i (To tables object state taken errors) (next.To kernel state taken errors)
next_by_changed t u m i kernel tables object state taken errors g there k s at settled h =
    let kept = there k h.1 h.0 at h.3.1 h.3.0 (subst IsSettled h.5 (steps_settled k m.pid s settled)) in (
      h.2,
      (kept.0, kept.1, subst (λ j. IsAlike j kept.0) (sym h.5) kept.2, kept.3),
      state_grows t u state h.2 g h.4,
      h.6,
      h.7,
      h.8,
    )

-- a call works on an object also where more is kept
pub footprint_grows : (t u : Store) (k : KernelState) (p : ℕ) (footprint : Footprint) → Grows t u → HasFootprint t k p footprint → HasFootprint u k p footprint
footprint_grows t u k p footprint g h = record {
  process = h.process;
  call = h.call;
  tables = h.tables;
  object = h.object;
  state = state_grows t u footprint.state h.process g h.state;
  stands = h.stands;
  parts = (g.kernels.tables footprint.tables h.tables h.parts.0, g.kernels.objects footprint.object h.object h.parts.1);
  operand = h.operand;
  works = h.works;
}

-- the move of a process by a step that was made for its call
pub move_by_footprint : (t u : Store) (m : Mover) (n : Next) (footprint : Footprint) (e : Effect) (j : KernelState) → Grows t u → IsExactly t m.kernel j → footprint.state ≡ m.state → HasFootprint t j m.pid footprint → IsFootprintEffect t footprint e
    → IsNextBy t u m footprint.place e n → IsMove u m n
move_by_footprint t u m n footprint e j g exact same has h by =
    let there = same_footprint t j m.pid footprint h.0 h.1 h.2 h.3 h.4 h.5 h.6 has in (
      j,
      h.0,
      g.kernels.kernels m.kernel j exact,
      subst (λ i. IsState u i h.0) same (state_grows t u footprint.state h.0 g h.4),
      λ settled. by j h.0 exact settled (h.7 j m.pid settled there.0 there.1),
    )

-- a process goes on where its step isn't nothing
pub effect_goes_on : (t : Store) (k : KernelState) (p : ℕ) (s : Process) (i : ℕ) (e : Effect) → (e ≡ Nothing → ⊥) → IsEffect t k p s i e → IsNext t k p s next.Limit
effect_goes_on t k p s i Nothing some h = absurd (some refl)
effect_goes_on t k p s i Limit some h = h
effect_goes_on t k p s i (To tables object state taken errors) some h = h.7

next_goes_on : (t : Store) (k : KernelState) (p : ℕ) (s : Process) (n : Next) → (n ≡ next.Nothing → ⊥) → IsNext t k p s n → IsNext t k p s next.Limit
next_goes_on t k p s next.Nothing some h = absurd (some refl)
next_goes_on t k p s next.Limit some h = h
next_goes_on t k p s (next.To kernel state taken errors) some h = h.4

pub move_goes_on : (t : Store) (m : Mover) (n : Next) → (n ≡ next.Nothing → ⊥) → IsMoveFrom t m n → IsMoveFrom t m next.Limit
move_goes_on t m n some h k s at settled here = next_goes_on t k m.pid s n some (h k s at settled here)

-- a process that has ended does nothing, over whatever kernel
ended_still : (k : KernelState) (p : ℕ) (s : Process) → HasEnded s → GoesOn (step_effect k p (Some s)) → ⊥
ended_still k p (Ended e) ended goes = goes
ended_still k p _ ended goes = absurd ended

pub move_of_ended : (t : Store) (m : Mover) → ((s : Kept) → slice_get t.states.processes m.state ≡ Some s → HasEnded (process_view s)) → IsMoveFrom t m next.Nothing
move_of_ended t m ended k s at settled here =
    let kept = state_kept t m.state s here in
    ended_still k m.pid s (subst HasEnded kept.2 (ended kept.0 kept.1))

-- the errors of a step and of all its local steps, by what comes of it
pub effect_to : (t : Store) (k : KernelState) (p : ℕ) (s : Process) (i tables object state taken : ℕ) (errors : Errors) → IsEffect t k p s i (To tables object state taken errors) → IsAnsweredToCall k p s taken errors
effect_to t k p s i tables object state taken errors h = (h.2, h.8, h.6.ahead.at_call)

pub next_to : (t : Store) (k : KernelState) (p : ℕ) (s : Process) (kernel state taken : ℕ) (errors : Errors) → IsNext t k p s (next.To kernel state taken errors) → IsAnsweredToCall k p s taken errors
next_to t k p s kernel state taken errors h = (h.0, h.5, h.3.ahead.at_call)

-- by the effect of the call at which a process stands
pub errors_by_footprint : (t : Store) (m : Mover) (n : ℕ) (es : Errors) (footprint : Footprint) (e : Effect) → footprint.state ≡ m.state
    → ((k : KernelState) → IsExactly t m.kernel k → HasFootprint t k m.pid footprint) → IsFootprintEffect t footprint e
    → ((u : Store) (k : KernelState) (p : ℕ) (s : Process) (i : ℕ) → IsEffect u k p s i e → IsAnsweredToCall k p s n es)
    → (k : KernelState) (s : Process) → IsExactly t m.kernel k → IsSettled k → IsState t m.state s → IsAnsweredToCall k m.pid s n es
errors_by_footprint t m n es footprint e same operand h answered k s at settled here =
    let there = same_footprint t k m.pid footprint h.0 h.1 h.2 h.3 h.4 h.5 h.6 (operand k at) in
    let s-is : h.0 ≡ s = same_some h.0 s (option_map process_view (slice_get t.states.processes m.state)) (subst (λ i. IsState t i h.0) same h.4) here in
    subst (λ x. IsAnsweredToCall k m.pid x n es) s-is (answered t k m.pid h.0 footprint.place (h.7 k m.pid settled there.0 there.1))
