use Rattle.lab_ways.proofs.StatesAlong.{judged_over, unjudged}
use Rattle.lab_ways.proofs.ways.state_along.Goals as goal

pub returns-then-not-reads : goal.returns-then-not-reads
returns-then-not-reads c = record {
  state = unjudged c.args.wanted.now c.args.before c.args.store.now c.args.edge.now.from c.args.edge.now.pid c.in-Some.kernel c.in-Some.state c.in-Some-call.call.now c.in-Some.ensures.places
      c.in-Some-call.ensures.stands (c.reads.ensures.no c.if-not-reads.true);
}

pub returns : goal.returns
returns c = record {
  state = judged_over c.args.wanted.now c.args.before c.args.store.now c.args.edge.now.from c.args.edge.now.pid c.in-Some.kernel c.in-Some.state c.in-Some-call.call.now c.in-Some-2.kernel c.in_ok-state.state
      c.in-Some.ensures.places c.in-Some-call.ensures.stands (rw c.in-Some-2.is at c.in_ok-kernel.ensures.kept) c.in_ok-state.ensures.value;
}
