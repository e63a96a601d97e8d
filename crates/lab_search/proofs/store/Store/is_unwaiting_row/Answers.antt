use Rattle.std.proofs.Common.{◌≤◌, ◌≡◌, refl, subst, arith, length}
use Rattle.std.proofs.lemmas.List.{length-map}
use Rattle.ipc_kernel.specs.Alike.{IsAlike}
use Rattle.lab_sched.specs.Worlds.{WorldState}
use Rattle.lab_sched.specs.Stepping.{before_wait}
use Rattle.lab_worlds.specs.Unwaiting.{unwaiting}
use Rattle.lab_search.specs.Stored.{IsState}
use Rattle.lab_worlds.proofs.WalkLemmas.{by_places}
use Rattle.lab_search.proofs.store.Store.is_unwaiting_row.Goals as goal

pub returns : goal.returns
returns c = record {
  alike = λ is.
      let states = c.in-Some.states.now in
      let kernel = c.in_ok-alike.ensures.alike c.if-not-alike.false in
      let first : length states ≤ c.loop-pid.pid = omega arith in
      let second : length states ≡ length (unwaiting c.args.world.now).processes = let same = length-map c.args.world.now.processes before_wait in omega (arith, same) in
      let here : WorldState = record { processes = (unwaiting c.args.world.now).processes; kernel = kernel.0 } in (
        here,
        (
          record { kernel = c.in-Some.kernel; states = states },
          c.in-Some.ensures.row,
          record {
            kernel = kernel.1;
            settled = kernel.3;
            states = by_places (IsState c.args.self.now) states (unwaiting c.args.world.now).processes c.loop-pid.pid first second c.loop-pid.invariant;
          },
        ),
        record { processes = refl; kernel = subst (λ k. IsAlike kernel.0 k) c.kernel.ensures.kernel kernel.2 },
      );
}
