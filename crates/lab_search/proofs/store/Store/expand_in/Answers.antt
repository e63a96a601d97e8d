use Rattle.std.proofs.Common.{IsTrue, inr, refl, subst, sym}
use Rattle.std.proofs.lemmas.Result.{IfOk-weaker}
use Rattle.lab_search.specs.Reduced.{IsExpandedIn}
use Rattle.lab_search.specs.Stored.{IsAt, IsExpanded}
use Rattle.lab_worlds.proofs.Pushes.{all_at}
use Rattle.lab_search.proofs.Growths.{HasWorld, at_grows, expanded_in, later_more}
use Rattle.lab_search.proofs.store.Store.expand_in.Goals as goal

pub returns-then-alone-clause-expanded_in : goal.returns-then-alone-clause-expanded_in
returns-then-alone-clause-expanded_in c is =
    let t = c.args.self.now in
    let u = c.try_process.new.self in
    let it = rw c.in-Some.is at c.in_ok-pid.ensures.independent in
    let w = all_at (HasWorld t) t.rows c.args.at it.row.0 c.requires.store.rows it.row.1 in
    let here : IsAt t c.args.at w.0 = (it.row.0, it.row.1, w.1) in
    let edge = c.in_ok-alone.ensures.onward c.if-alone.true refl w.0 here in
    subst (λ b. IsExpandedIn b c.args.uses.now u c.args.at) (sym c.if-not-reduced.false)
    (inr (w.0, at_grows t u c.args.at w.0 c.in_ok-alone.ensures.later.grows here, c.in-Some.pid, it.ended, it.have_ended w.0 here, it.independent w.0 here, edge.0, edge.1))

pub returns-in_default-clause-expanded_in : goal.returns-in_default-clause-expanded_in
returns-in_default-clause-expanded_in c =
    let u = c.expand-in_default.new.self in
    IfOk-weaker c.expand-in_default.result (λ whole. IsTrue whole → IsExpanded u c.args.at) _ (λ whole h is. expanded_in c.args.reduced c.args.uses.now u c.args.at (h is)) c.expand-in_default.ensures.expanded

pub returns-clause-expanded_in : goal.returns-clause-expanded_in
returns-clause-expanded_in c is = expanded_in c.args.reduced c.args.uses.now _ c.args.at (c.in_ok-expanded.ensures.expanded is)

pub returns-clause-later : goal.returns-clause-later
returns-clause-later c = later_more c.args.self.now c.try_process.new.self _ c.in_ok-alone.ensures.later c.in_ok-expanded.ensures.later
