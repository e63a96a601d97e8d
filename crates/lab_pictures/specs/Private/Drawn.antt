-- Nodes and arrows of a picture, as rows and edges of a search have them.
use Rattle.std.specs.Prelude.{ℕ, ◌≡◌, ◌≤◌, ◌+◌, List, Some, All, length, slice_get}
use Rattle.lab_sched.specs.Worlds.{WorldState}
use Rattle.lab_states.specs.declared.edges.Edge.{Edge}
use Rattle.lab_states.specs.Depths.{depth_of}
use Rattle.lab_search.specs.declared.store.Store.{Store}
use Rattle.lab_search.specs.Stored.{IsLike, AreErrorsAt}
use Rattle.lab_worlds.specs.declared.errors.Errors.{Errors}
use Rattle.lab_pictures.specs.declared.picture.Node.{Node}
use Rattle.lab_pictures.specs.declared.picture.Arrow.{Arrow}
use Rattle.lab_pictures.specs.declared.picture.Picture.{Picture}
use Rattle.lab_pictures.specs.Pictures.{IsNode, IsEndOfNode, HasEndAtRest, IsStep, HaveAllSteps, BeginsAt, HaveFewestNodeCalls}

-- the node of row number i, by the depths of the rows
pub record IsNodeOfRow (start : WorldState) (t : Store) (depth i : ℕ) (n : Node) : Type 0 where
  pub node : IsNode start n
  pub row : IsLike t i n.world
  pub calls : n.calls ≡ depth
  pub end : IsEndOfNode start n
  pub at_rest : HasEndAtRest n

-- each node is that of the row with its number
pub record AreNodesOfRows (start : WorldState) (t : Store) (depths : List ℕ) (ns : List Node) : Type 0 where
  pub count : length ns ≡ length t.rows
  pub each : (i : ℕ) (n : Node) → slice_get ns i ≡ Some n → IsNodeOfRow start t (depth_of depths i) i n

-- the arrow of an edge, with as many steps as a search knows
pub record IsArrowOf (t : Store) (e : Edge) (a : Arrow) : Type 0 where
  pub from : a.from ≡ e.from
  pub to : a.to ≡ e.to
  pub process : a.process ≡ e.pid
  pub taken : ℕ
  pub errors : Errors
  pub known : AreErrorsAt t e.from e.pid taken errors
  pub steps : a.steps ≡ taken + 1

-- the picture shows all worlds to which steps lead from the start
pub record IsPictureOf (start : WorldState) (x : Picture) : Type 0 where
  pub nodes : All (IsNode start) x.nodes.items
  pub arrows : All (IsStep x.nodes.items) x.arrows.items
  pub begins : BeginsAt start x.nodes.items
  pub steps : HaveAllSteps x.nodes.items x.arrows.items
  pub fewest : HaveFewestNodeCalls x.nodes.items x.arrows.items
  pub ends : All (IsEndOfNode start) x.nodes.items
  pub at_rest : All HasEndAtRest x.nodes.items
  pub few : length x.nodes.items ≤ 2000
