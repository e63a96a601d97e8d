use Rattle.std.proofs.Common.{◌≡◌, ◌+◌, ◌≤◌, ◌++◌, map, vec_len, vec_capacity}
use Rattle.lab_threads.specs.Private.Promised.{due, promise_of}
use Rattle.lab_threads.proofs.spawning.spawn_all.Given as goal

abbrev pub invariant-loop-alloc : goal.invariant-loop-alloc
invariant-loop-alloc g l = record {
  promise_of : map promise_of l.handles.items ++ map (due l.limit) l.starts.items ≡ map (due l.limit) l.fn.starts.items;
  number : l.pid ≡ vec_len l.handles;
  count : l.pid + vec_len l.starts ≡ l.count;
  room : vec_len l.handles + vec_len l.starts ≤ vec_capacity l.handles;
}

abbrev pub decreases-loop-alloc : goal.decreases-loop-alloc
decreases-loop-alloc g l = vec_len l.starts
