use Rattle.std.proofs.Common.{subst}
use Rattle.lab_search.specs.declared.reduced.KeptAttempt.TheVariants.{Still, Runs, Came}
use Rattle.lab_search.specs.declared.store.Next.TheVariants as next
use Rattle.lab_search.specs.Private.Stored.{IsKeptAttempt}
use Rattle.lab_search.specs.Stored.{IsKernel}
use Rattle.lab_search.proofs.Growths.{grows_more, later_more, state_grows}
use Rattle.lab_search.proofs.StepsOfRows.{move_of_attempt}
use Rattle.lab_search.proofs.store.Store.make_next.Goals as goal

pub returns-in-Still-clause-next : goal.returns-in-Still-clause-next
returns-in-Still-clause-next c =
    move_of_attempt c.args.self.now c.try_move.new.self c.try_move.new.self c.args.mover Still next.Nothing c.in_ok-try_move.ensures.later.grows
    (subst (IsKeptAttempt c.args.self.now c.try_move.new.self c.args.mover) c.in-Still.is c.in_ok-try_move.ensures.attempt) (λ still. still)

pub returns-in-Runs-clause-next : goal.returns-in-Runs-clause-next
returns-in-Runs-clause-next c =
    move_of_attempt c.args.self.now c.try_move.new.self c.try_move.new.self c.args.mover Runs next.Limit c.in_ok-try_move.ensures.later.grows
    (subst (IsKeptAttempt c.args.self.now c.try_move.new.self c.args.mover) c.in-Runs.is c.in_ok-try_move.ensures.attempt) (λ runs. runs)

pub returns-in_ok-number-in-Came-clause-later : goal.returns-in_ok-number-in-Came-clause-later
returns-in_ok-number-in-Came-clause-later c =
    later_more c.args.self.now c.try_move.new.self c.keep_alike.new.self c.in_ok-try_move.ensures.later c.in_ok-number-in-Came.ensures.later

pub returns-in_ok-number-in-Came-clause-next : goal.returns-in_ok-number-in-Came-clause-next
returns-in_ok-number-in-Came-clause-next c =
    let t = c.args.self.now in
    let u = c.try_move.new.self in
    let v = c.keep_alike.new.self in
    let number = c.in_ok-number-in-Came.number in
    let then = c.in_ok-number-in-Came.ensures.later.grows in
    move_of_attempt t u v c.args.mover (Came c.in-Came.kernel c.in-Came.state c.in-Came.taken c.in-Came.errors) (next.To number c.in-Came.state c.in-Came.taken c.in-Came.errors) (grows_more t u v c.in_ok-try_move.ensures.later.grows then)
    (subst (IsKeptAttempt t u c.args.mover) c.in-Came.is c.in_ok-try_move.ensures.attempt)
    (λ made. (made.0, subst (IsKernel v number) made.1 c.in_ok-number-in-Came.ensures.kernel, state_grows u v c.in-Came.state made.0 then made.2, made.3, made.4, made.5))
