-- Pictures of all worlds at calls: nodes, and arrows between them.
use Rattle.std.specs.Prelude.{ℕ, ◌≡◌, ◌≤◌, ◌+◌, List, Some, None, All, IfSome, length, slice_get}
use Rattle.lab_sched.specs.Worlds.{Process, WorldState, step_effect_in, step, run, entries}
use Rattle.lab_sched.specs.Execution.{AreEffective}
use Rattle.lab_sched.specs.LocalRun.{AreLocal}
use Rattle.lab_worlds.specs.Calls.{AreAlike, IsAtCall, IsAdvance}
use Rattle.lab_worlds.specs.Closed.{HasAdvance}
use Rattle.lab_worlds.specs.Ends.{IsEnd}
use Rattle.lab_worlds.specs.Unwaiting.{GoesOn, NoneGoesOn, unwaiting}
use Rattle.lab_pictures.specs.declared.picture.Node.{Node}
use Rattle.lab_pictures.specs.declared.picture.Arrow.{Arrow}

-- each process of the world asks for a call, or has ended
abbrev pub AreAtCalls : WorldState → Type 0
AreAtCalls w = (p : ℕ) (s : Process) → slice_get w.processes p ≡ Some s → IsAtCall s

-- effective steps lead from the start to a world, and so many of the steps are calls
pub record IsReachable (start w : WorldState) (count : ℕ) : Type 0 where
  pub steps : List ℕ
  pub effective : AreEffective start steps
  pub leads : run start steps ≡ w
  pub calls : length (entries start steps) ≡ count

-- steps lead from the start to the world of the node by as many calls as it tells; its processes are at calls
pub record IsNode (start : WorldState) (n : Node) : Type 0 where
  pub reachable : IsReachable start n.world n.calls
  pub at_calls : AreAtCalls n.world

-- the end of the node, if it has one, is an end from the start, in the world of the node but for who
-- waits
abbrev pub IsEndOfNode : WorldState → Node → Type 0
IsEndOfNode start n = IfSome n.end (λ e. IsEnd start e × AreAlike n.world (unwaiting e.world))

-- a node from which no process goes on has an end
abbrev pub HasEndAtRest : Node → Type 0
HasEndAtRest n = n.end ≡ None → NoneGoesOn n.world → ⊥

-- node number i has the world
abbrev pub IsNodeAt : List Node → ℕ → WorldState → Type 0
IsNodeAt ns i w = (n : Node) × (slice_get ns i ≡ Some n) × (n.world ≡ w)

-- n steps of process p make of it in w what it is in v: its step there, and then its local steps
pub record TakesSteps (w v : WorldState) (p n : ℕ) : Type 0 where
  pub taken : ℕ
  pub called : Process
  pub after : Process
  pub first : slice_get (step w p).processes p ≡ Some called
  pub local : AreLocal taken called after
  pub there : slice_get v.processes p ≡ Some after
  pub count : n ≡ taken + 1

-- the process of the arrow goes on from the world of the node that it leads from, and the other node
-- has the world after that step and all local steps then, over a kernel that is alike; these are as many
-- steps of the process as the arrow tells
pub record IsStep (ns : List Node) (a : Arrow) : Type 0 where
  pub before : WorldState
  pub after : WorldState
  pub from : IsNodeAt ns a.from before
  pub to : IsNodeAt ns a.to after
  pub goes_on : GoesOn (step_effect_in before a.process)
  pub leads : IsAdvance (step before a.process) after
  pub steps : TakesSteps before after a.process a.steps

-- each step by which a process goes on from the world of a node has an arrow
abbrev pub HaveAllSteps : List Node → List Arrow → Type 0
HaveAllSteps ns arrows = (i p : ℕ) (w : WorldState) → IsNodeAt ns i w → GoesOn (step_effect_in w p)
    → (k : ℕ) × (a : Arrow) × (slice_get arrows k ≡ Some a) × (a.from ≡ i) × (a.process ≡ p)

-- the first node has the world after all local steps from the start, over a kernel that is alike
abbrev pub BeginsAt : WorldState → List Node → Type 0
BeginsAt start ns = HasAdvance (IsNodeAt ns 0) start

-- the arrow leads to a node with at most one call more
abbrev pub IsNearer : List Node → Arrow → Type 0
IsNearer ns a = (m n : Node) → slice_get ns a.from ≡ Some m → slice_get ns a.to ≡ Some n
    → n.calls ≤ m.calls + 1

-- no fewer calls lead to a node: the first has none, and each arrow leads to one with at most one more
pub record HaveFewestNodeCalls (ns : List Node) (arrows : List Arrow) : Type 0 where
  pub first : (n : Node) → slice_get ns 0 ≡ Some n → n.calls ≡ 0
  pub nearer : All (IsNearer ns) arrows
