-- Steps at calls that work on one object.
use Rattle.std.specs.Prelude.{ℕ, ◌≡◌, Some}
use Rattle.ipc_kernel.specs.Kernel.{KernelState}
use Rattle.ipc_kernel.specs.Operands.{HasOperand, operand_in}
use Rattle.ipc_kernel.specs.declared.call.Call.{Call}
use Rattle.ipc_kernel.specs.declared.place.Place.{Place}
use Rattle.ipc_kernel.specs.declared.process.OpenTables.{OpenTables}
use Rattle.lab_sched.specs.Worlds.{Process, step_effect}
use Rattle.lab_sched.specs.Held.{step_of}
use Rattle.lab_conditions.specs.Conditions.{StandsAt}
use Rattle.lab_worlds.specs.Unwaiting.{GoesOn}
use Rattle.lab_worlds.specs.Stepped.{IsReached}
use Rattle.lab_worlds.specs.Errors.{IsAnswered}
use Rattle.lab_search.specs.declared.store.Store.{Store}
use Rattle.lab_search.specs.declared.footprints.Effect.{Effect}
use Rattle.lab_search.specs.declared.footprints.Effect.TheVariants.{Nothing, Limit, To}
use Rattle.lab_search.specs.declared.footprints.Footprint.{Footprint}
use Rattle.lab_search.specs.Stored.{IsState, AreParts}

-- over this kernel process p has the tables of a call, which works on the object in the place
pub record HasFootprint (t : Store) (k : KernelState) (p : ℕ) (footprint : Footprint) : Type 0 where
  pub process : Process
  pub call : Call
  pub tables : OpenTables
  pub object : Place
  pub state : IsState t footprint.state process
  pub stands : StandsAt process call
  pub parts : AreParts t footprint.tables footprint.object tables object
  pub operand : HasOperand k p footprint.place tables object
  pub works : operand_in k tables call ≡ Some footprint.place

-- the same where the kernel after the step has these tables, and this object in the place
abbrev pub IsOutcome : Store → KernelState → ℕ → Process → ℕ → Effect → Type 0
IsOutcome t k p s i Nothing = GoesOn (step_effect k p (Some s)) → ⊥
IsOutcome t k p s i Limit = GoesOn (step_effect k p (Some s))
IsOutcome t k p s i (To tables object state taken errors) =
    (x : OpenTables) × (o : Place) × (u : Process) × AreParts t tables object x o × IsState t state u
    × HasOperand (step_of k p s).kernel p i x o × IsReached (step_of k p s).process u
    × GoesOn (step_effect k p (Some s)) × IsAnswered k p s taken errors u
