use Rattle.std.proofs.Common.{subst}
use Rattle.lab_search.specs.declared.store.Mover.{Mover}
use Rattle.lab_search.specs.Stored.{IsExactly}
use Rattle.lab_worlds.proofs.Pushes.{all_at}
use Rattle.lab_search.proofs.Growths.{HasWorld, later_more, move_grows, stopped}
use Rattle.lab_search.proofs.StepsOfRows.{move_from, next_of}
use Rattle.lab_search.proofs.store.Store.next.Goals as goal

pub make_move-requires-clause-kernel : goal.make_move-requires-clause-kernel
make_move-requires-clause-kernel c =
    let t = c.args.self.now in
    let placed = c.in-Some.ensures.places in
    let w = all_at (HasWorld t) t.rows c.args.at placed.0 c.requires.store.rows placed.1 in
    (w.0.kernel, subst (λ n. IsExactly t n w.0.kernel) placed.2 w.1.kernel)

pub returns-clause-later : goal.returns-clause-later
returns-clause-later c =
    later_more c.args.self.now c.make_move.new.self c.stop_by.new.self c.in_ok-next.ensures.later (stopped c.make_move.new.self c.stop_by.new.self c.in_ok-next.ensures.later.store c.stop_by.ensures.same)

pub returns-clause-next : goal.returns-clause-next
returns-clause-next c =
    let placed = c.in-Some.ensures.places in
    let t = c.make_move.new.self in
    let u = c.stop_by.new.self in
    let later = c.in_ok-next.ensures.later in
    let then = (stopped t u later.store c.stop_by.ensures.same).grows in
    let m : Mover = record { kernel = c.in-Some.kernel; pid = c.args.pid; state = c.in-Some.state } in
    next_of u c.args.at m c.in_ok-next.next (placed.0, then.rows c.args.at placed.0 (later.grows.rows c.args.at placed.0 placed.1), placed.2, placed.3)
    (move_from u m c.in_ok-next.next (move_grows t u m c.in_ok-next.next then c.in_ok-next.ensures.next))
