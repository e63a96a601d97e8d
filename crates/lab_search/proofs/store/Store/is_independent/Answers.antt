use Rattle.ipc_store.specs.Uses.{uses_but}
use Rattle.lab_search.proofs.IndependentCalls.{independent_over}
use Rattle.lab_search.proofs.store.Store.is_independent.Goals as goal

pub returns-in-Some : goal.returns-in-Some
returns-in-Some c = record {
  yes = λ is w s exactly there state named. independent_over (uses_but c.args.ended.now c.args.uses.now) c.args.self.now w c.args.pid c.args.kernel c.args.state s c.in-Some.call.now c.in-Some.ensures.stands
      (c.is_own_by.ensures.own is) exactly there state named;
}
