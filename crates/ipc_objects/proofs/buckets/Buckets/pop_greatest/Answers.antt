use Rattle.std.proofs.Common.{sym, ◌∙◌, rules}
use Rattle.ipc_objects.proofs.BucketLemmas.{IsWithoutLast, without_last}
use Rattle.ipc_objects.proofs.buckets.Buckets.pop_greatest.Goals as goal

without : (c : goal.After-pop_last) → IsWithoutLast c.pop_last.result c.self.inside.by_priority.entries c.pop_last.new.self.entries
without c = search (rules, without_last)

pub invariant_of-self : goal.invariant_of-self
invariant_of-self c = (without c).buckets

pub returns-clause-rest : goal.returns-clause-rest
returns-clause-rest c = sym c.self.view_is ∙ (without c).rest

pub returns-clause-greatest : goal.returns-clause-greatest
returns-clause-greatest c = (without c).below
