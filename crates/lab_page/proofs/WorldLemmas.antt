-- Worlds of a picture have no floats.
use Rattle.std.proofs.Common.{◌≡◌, ℕ, false, Option, Some, None, List, map, refl}
use Rattle.serde_json.specs.Written.{has_float}
use Rattle.ipc_kernel.specs.Kernel.{KernelState}
use Rattle.lab_sched.specs.Worlds.{Process, WorldState}
use Rattle.lab_sched.specs.declared.verdict.Verdict.{Verdict}
use Rattle.lab_moments.specs.Values.{list}
use Rattle.lab_page.specs.Worlds.{standing_data, standing_in, node_data, edge_data}
use Rattle.lab_page.specs.declared.worlds.WorldEdge.{WorldEdge}
use Rattle.lab_moments.proofs.PlainLemmas.{IsPlain, ArePlain, plain}
use Rattle.lab_moments.proofs.ObjectLemmas.{object-plain}
use Rattle.lab_page.proofs.RunLemmas.{output-plain}

standing-plain : (k : KernelState) (p : ℕ) (o : Option Process) → ArePlain (standing_in k p o)
unfolding standing_data
standing-plain k p None = refl
standing-plain k p (Some s) = search plain

pub node_plain : (w : WorldState) (calls : ℕ) (verdict : Option Verdict) (end : Option ℕ) → IsPlain (node_data w calls verdict end)
unfolding node_data
node_plain w calls verdict end = search (plain, standing-plain, output-plain, object-plain)

pub edges_plain : (edges : List WorldEdge) → has_float (list (map edge_data edges)) ≡ false
edges_plain edges = search plain
