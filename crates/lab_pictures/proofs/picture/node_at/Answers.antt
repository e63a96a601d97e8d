use Rattle.std.proofs.Common.{◌≡◌, None, IfSome, rules}
use Rattle.lab_sched.specs.Worlds.{WorldState}
use Rattle.lab_worlds.specs.Ends.{IsEnd}
use Rattle.lab_worlds.specs.Unwaiting.{unwaiting, NoneGoesOn}
use Rattle.lab_search.specs.Stored.{IsAt, IsLike}
use Rattle.lab_explore.specs.Visits.{start_of}
use Rattle.lab_explore.proofs.MetWorlds.{is_start}
use Rattle.lab_pictures.proofs.DrawnRows.{node_made}
use Rattle.lab_pictures.proofs.picture.node_at.Goals as goal

pub returns : goal.returns
returns c =
    let visited = c.args.visited.now in
    let reached = c.in_ok-reached.reached in
    let end = c.if-may_rest.end in
    let here : IsLike visited.store c.args.at reached.world = search rules in
    let deep : reached.calls ≡ c.args.depth = search rules in
    let ends : IfSome end (λ e. IsEnd (start_of visited) e) = search rules in
    let row : IfSome end (λ e. IsLike visited.store c.args.at (unwaiting e.world)) = search rules in
    let none : end ≡ None → (w : WorldState) → IsAt visited.store c.args.at w → NoneGoesOn w → ⊥ = search rules in
    record {
      node = node_made (start_of visited) visited.store c.args.depth c.args.at reached.world reached.calls end (is_start visited.processes.items c.requires.visited.starts).consistent c.requires.store
          c.in_ok-reached.ensures.reached here deep ends row none;
    }
