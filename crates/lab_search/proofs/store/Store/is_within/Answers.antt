use Rattle.lab_search.proofs.IndependentCalls.{keeps_standing, keeps_ended}
use Rattle.lab_search.proofs.store.Store.is_within.Goals as goal

pub returns-in-Some : goal.returns-in-Some
returns-in-Some c = record {
  yes = λ is w exactly states. keeps_standing c.args.uses.now c.args.self.now w c.args.pid c.args.kernel c.args.state c.in-Some.call.now c.in-Some.ensures.stands (c.is_within.ensures.within is) exactly states;
}

pub returns-in-None : goal.returns-in-None
returns-in-None c = record { yes = λ is w exactly states. keeps_ended c.args.uses.now c.args.self.now w c.args.pid c.args.state (c.has_ended.ensures.ended is) states }
