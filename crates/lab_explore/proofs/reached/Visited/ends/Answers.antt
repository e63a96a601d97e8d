use Rattle.std.proofs.Common.{rules}
use Rattle.std.proofs.lemmas.List.Sorted.{All-permutation, IsNonDecreasingBy-from_sort_by_key}
use Rattle.lab_explore.specs.Visits.{start_of}
use Rattle.lab_worlds.specs.Ends.{IsEnd}
use Rattle.lab_states.specs.Depths.{depth_of}
use Rattle.lab_explore.proofs.Explorations.{end_sorted}
use Rattle.lab_explore.proofs.reached.Visited.ends.Goals as goal

pub returns-clause-ends : goal.returns-clause-ends
returns-clause-ends c =
    let start = start_of c.args.self.now in
    All-permutation (IsEnd start) c.in_ok-collected.collected.ends.items c.sort_by_key.new.self.items c.in_ok-sort_by_key.ensures.permutation c.in_ok-collected.ensures.ends

pub returns-clause-all : goal.returns-clause-all
returns-clause-all c whole is =
    let all = c.in_ok-collected.ensures.all whole is in
    record {
      depths = all.depths;
      are = all.are;
      each = λ i w here rest.
          end_sorted c.in_ok-collected.collected.ends.items c.sort_by_key.new.self.items w (depth_of all.depths i) c.in_ok-sort_by_key.ensures.permutation (all.each i w here rest);
    }

pub returns-clause-ordered : goal.returns-clause-ordered
returns-clause-ordered c = IsNonDecreasingBy-from_sort_by_key (λ e. e.calls) _ c.in_ok-sort_by_key.ensures.sorted (λ a r q k. search rules)
