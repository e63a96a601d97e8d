use Rattle.std.proofs.Common.{subst}
use Rattle.ipc_kernel.specs.Operands.{HasOperand}
use Rattle.lab_search.specs.declared.footprints.Effect.TheVariants as effect
use Rattle.lab_search.specs.Private.Stored.{IsKeptStep}
use Rattle.lab_search.proofs.Growths.{grows_more, later_more, state_grows}
use Rattle.lab_search.proofs.FootprintLemmas.{footprint_effect_made}
use Rattle.lab_search.proofs.store.Store.make_effect.Goals as goal

pub returns-in-Still-clause-footprint_effect : goal.returns-in-Still-clause-footprint_effect
returns-in-Still-clause-footprint_effect c =
    let h = c.in_ok-try_move.ensures.attempt in
    footprint_effect_made c.args.self.now c.try_move.new.self h.0 c.args.mover.pid h.1 c.args.footprint effect.Nothing c.in_ok-try_move.ensures.later.grows h.4 h.3 (c.requires.operand h.0 h.2)
    (subst (IsKeptStep c.try_move.new.self h.0 c.args.mover.pid h.1) c.in-Still.is h.5)

pub returns-in-Runs-clause-footprint_effect : goal.returns-in-Runs-clause-footprint_effect
returns-in-Runs-clause-footprint_effect c =
    let h = c.in_ok-try_move.ensures.attempt in
    footprint_effect_made c.args.self.now c.try_move.new.self h.0 c.args.mover.pid h.1 c.args.footprint effect.Limit c.in_ok-try_move.ensures.later.grows h.4 h.3 (c.requires.operand h.0 h.2)
    (subst (IsKeptStep c.try_move.new.self h.0 c.args.mover.pid h.1) c.in-Runs.is h.5)

pub returns-in-Some-object_at-clause-later : goal.returns-in-Some-object_at-clause-later
returns-in-Some-object_at-clause-later c =
    later_more c.args.self.now c.try_move.new.self c.keep_kernel.new.self c.in_ok-try_move.ensures.later c.in_ok-number-in-Came.ensures.later

pub returns-in-Some-object_at-clause-footprint_effect : goal.returns-in-Some-object_at-clause-footprint_effect
returns-in-Some-object_at-clause-footprint_effect c =
    let t = c.args.self.now in
    let u = c.try_move.new.self in
    let v = c.keep_kernel.new.self in
    let kernel = c.in-Came.kernel in
    let pid = c.args.mover.pid in
    let place = c.args.footprint.place in
    let first = c.in_ok-try_move.ensures.later in
    let then = c.in_ok-number-in-Came.ensures.later in
    let h = c.in_ok-try_move.ensures.attempt in
    let made = subst (λ x. IsKeptStep u h.0 pid h.1 x) c.in-Came.is h.5 in
    let at = c.in_ok-number-in-Came.ensures.kernel in
    let x = c.in-Some.ensures.tables kernel at in
    let q = c.in-Some-object_at.ensures.object kernel at in
    let has : HasOperand kernel pid place x.0 q.0 = record { tables = x.2; object = q.2 } in
    footprint_effect_made t v h.0 pid h.1 c.args.footprint (effect.To c.in-Some.tables c.in-Some-object_at.object c.in-Came.state c.in-Came.taken c.in-Came.errors)
    (grows_more t u v first.grows then.grows) h.4 h.3 (c.requires.operand h.0 h.2)
    (x.0, q.0, made.0, (x.1, q.1), state_grows u v c.in-Came.state made.0 then.grows made.2, subst (λ j. HasOperand j pid place x.0 q.0) made.1 has, made.3, made.4, made.5)
