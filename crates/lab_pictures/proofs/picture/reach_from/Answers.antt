use Rattle.std.proofs.Common.{◌≡◌, ◌+◌, sym, subst, rules}
use Rattle.lab_explore.specs.Visits.{start_of}
use Rattle.lab_pictures.specs.Pictures.{IsReachable, IsNode}
use Rattle.lab_pictures.proofs.DrawnRows.{reach_on}
use Rattle.lab_pictures.proofs.picture.reach_from.Goals as goal

pub returns : goal.returns
returns c =
    let start = start_of c.args.visited.now in
    let before = c.in-Some.before.now in
    let walk = c.go_on.new.self in
    let seen = c.in-Some.ensures.lookup in
    let node : IsNode start before = subst (IsNode start) (sym seen.1) (c.requires.nodes c.args.at before seen.3.0) in
    let calls : c.in-Some-checked_add.calls ≡ before.calls + walk.calls = search rules in
    record {
      reached = subst (λ n. IsReachable start walk.world n) (sym calls)
          (reach_on start c.in_ok-copy_of.field-0 before c.at-walk.result c.go.new.self walk node c.in_ok-copy_of.ensures.same c.at-walk.ensures.walk c.in_ok-go.ensures.walk c.in_ok-go_on.ensures.walk);
    }
