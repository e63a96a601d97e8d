use Rattle.std.proofs.Common.{◌≡◌, length, arith}
use Rattle.lab_threads.proofs.JoinedThreads.{joined_workers}
use Rattle.lab_threads.proofs.spawning.fn.run_workers.scope.Goals as goal

pub returns-in-Ok : goal.returns-in-Ok
returns-in-Ok g c =
    let handles = c.in_ok-handles.handles in
    let workers = c.in-Ok.workers in
    let len : length workers.items ≡ length handles.items = omega (arith, c.in-Ok.ensures.len, workers.ok.0, handles.ok.0) in
    record {
      results = joined_workers handles.items workers.items c.captures.starts.items c.captures.limit len
          (λ i w h. let k = (c.in-Ok.ensures.each i w (omega (arith, h, handles.ok.0))).1 in (k.handle, k.handle_is, k.kept)) c.in_ok-handles.ensures.promised;
    }
