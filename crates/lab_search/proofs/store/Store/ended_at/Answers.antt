use Rattle.std.proofs.Common.{subst, sym}
use Rattle.std.proofs.lemmas.Option.{slice_get-get_or}
use Rattle.lab_sched.specs.Verdicts.{HasEndedIn}
use Rattle.lab_worlds.proofs.EndedProcesses.{ended_more}
use Rattle.lab_search.proofs.IndependentCalls.{ended_state, row_states}
use Rattle.lab_search.proofs.store.Store.ended_at.Goals as goal

pub loop-pid-preserved : goal.loop-pid-preserved
loop-pid-preserved c =
    let states = c.in-Some.states.now in
    let row = c.loop-pid.invariant.row in
    let state = slice_get-get_or states c.loop-pid.pid _ c.loop-pid-test.true in
    record {
      row = row;
      ended = λ w here.
          let is = row_states c.args.self.now w c.args.at c.loop-pid.pid row.0 _ states row.1 state here in
          let own : HasEndedIn w c.in_ok-pid.pid = subst (HasEndedIn w) (sym c.in_ok-pid.ensures.value) (ended_state c.args.self.now w c.loop-pid.pid _ (c.has_ended.ensures.ended c.if-not-has_ended.false) is.1) in
          rw c.in_ok-push.ensures.items (ended_more w c.loop-pid.ended.items c.in_ok-pid.pid (c.loop-pid.invariant.ended w here) own);
    }
