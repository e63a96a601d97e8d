use Rattle.std.proofs.Common.{◌<◌, length, map, subst}
use Rattle.lab_sched.specs.Worlds.{WorldState}
use Rattle.lab_sched.specs.Held.{process_view}
use Rattle.lab_search.specs.declared.store.Store.{Store}
use Rattle.lab_search.proofs.Growths.{are_expanded_in_grows, at_grows, closed}
use Rattle.lab_search.proofs.IndependentCalls.{searched_in}
use Rattle.lab_search.proofs.search.Search.fill.Goals as goal

pub returns-in-Ok-clause-store : goal.returns-in-Ok-clause-store
returns-in-Ok-clause-store g c is = (closed c.expand_all-expanded.new.self c.close.new.self c.in-Ok.ensures.later.store c.close.ensures.same).store

pub returns-in-Ok-clause-complete : goal.returns-in-Ok-clause-complete
returns-in-Ok-clause-complete g c is =
    let t = c.expand_all-expanded.new.self in
    let u = c.close.new.self in
    let reduced = c.args.self.now.reduced in
    let told = c.in-Ok.ensures in
    let closes = (closed t u told.later.store c.close.ensures.same).grows in
    let start : WorldState = record { processes = map process_view c.args.processes.now; kernel = c.args.kernel.now } in
    let first = rw c.in-Some.is at c.in_ok-firsts.ensures.begins in
    searched_in reduced c.args.uses.now start u (first.0, at_grows t u 0 first.0 closes (at_grows c.begin.new.self t 0 first.0 told.later.grows first.1), first.2)
    (λ i below. are_expanded_in_grows reduced c.args.uses.now t u i closes (told.all (c.both-complete.ensures.first is) i (subst (λ (x : Store). i < length x.rows) c.close.ensures.same below)))
    (c.are_calm_in-calm.ensures.calm (c.both-complete.ensures.second is))
