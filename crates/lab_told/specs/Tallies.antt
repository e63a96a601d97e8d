-- What a trace keeps beside the world.
use Rattle.std.specs.Prelude.{ℕ, ◌+◌, replicate, slice_set, Option, Some, None, List, [], slice_get, unwrap_or}
use Rattle.ipc_kernel.specs.Kernel.{KernelState}
use Rattle.lab_told.specs.Answers.{act_done}
use Rattle.lab_told.specs.Givers.{no_givers, givers_after}
use Rattle.lab_told.specs.Origins.{origins_after}
use Rattle.lab_told.specs.Units.{units_after}
use Rattle.lab_told.specs.declared.origins.Origin.{Origin}
use Rattle.lab_told.specs.declared.tally.UnitCount.{UnitCount}
use Rattle.lab_told.specs.declared.answers.Outcome.{Outcome}
use Rattle.lab_told.specs.declared.answers.Outcome.TheVariants.{Waits}
use Rattle.lab_told.specs.declared.tally.Account.{Account}
use Rattle.lab_told.specs.declared.told.Act.{Act}
use Rattle.lab_told.specs.declared.told.Act.TheVariants.{Calls}
use Rattle.lab_told.specs.declared.told.Told.{Told}
use Rattle.lab_told.specs.declared.told.Told.TheVariants.{Nothing, Counted, Shown}

-- of each process its counted steps since its last line, and since when it waits; of each message in
-- a queue where it comes from; of each process and semaphore how many units it took and gave; of each
-- place the step that last gave to its object
pub record TallyState : Type 0 where
  pub accounts : List Account
  pub origins : List Origin
  pub units : List UnitCount
  pub givers : List (Option ℕ)

-- an account before the first step
abbrev pub new_account : Account
new_account = record { local = 0; since = None }

-- the tally of so many processes before the first step
abbrev pub new_tally : ℕ → TallyState
new_tally count = record { accounts = replicate count new_account; origins = []; units = []; givers = no_givers }

-- the account of process p
abbrev pub account_in : List Account → ℕ → Account
account_in t p = unwrap_or (slice_get t p) new_account

-- the account of process p in a tally
abbrev pub account_of : TallyState → ℕ → Account
account_of t p = account_in t.accounts p

-- since when a process waits after step n, by what became of its call
abbrev pub waits_by : ℕ → Outcome → Option ℕ
waits_by n Waits = Some n
waits_by n other = None

-- since when a process waits after what it did in step n
abbrev pub waits_from : ℕ → Act → Option ℕ
waits_from n (Calls c) = waits_by n c.outcome
waits_from n other = None

-- an account after a counted step
abbrev pub account_counted : Account → Account
account_counted a = record a { local = a.local + 1 }

-- an account after what the process did in step n
abbrev pub account_after : ℕ → Act → Account
account_after n act = record { local = 0; since = waits_from n act }

-- the tally after what process p did in step n; k is the kernel after it
abbrev pub tally_with : KernelState → ℕ → ℕ → Act → TallyState → TallyState
tally_with k n p act t =
    record {
      accounts = slice_set t.accounts p (account_after n act);
      origins = origins_after k n p act t.origins;
      units = units_after k p (act_done act) t.units;
      givers = givers_after n (act_done act) t.givers;
    }

-- the tally after step n of process p, by what is told of it
abbrev pub tally_after : KernelState → ℕ → ℕ → Told → TallyState → TallyState
tally_after k n p Nothing t = t
tally_after k n p Counted t = record t { accounts = slice_set t.accounts p (account_counted (account_of t p)) }
tally_after k n p (Shown e) t = tally_with k n p e.act t
