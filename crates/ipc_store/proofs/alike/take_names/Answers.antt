use Rattle.std.proofs.Common.{◌+◌, subst, sym}
use Rattle.ipc_store.specs.Private.Renamings.{Permutes, Follows}
use Rattle.ipc_store.proofs.FollowingRenamings.{NamedBelow, name_taken, no_name_taken}
use Rattle.ipc_store.proofs.alike.take_names.Goals as goal
use Rattle.ipc_store.proofs.alike.take_names.Goals.{in-Some, in_default}

pub loop-at-preserved : goal.loop-at-preserved
loop-at-preserved c =
    let ps = c.args.places.now in
    let first = c.args.renaming.now in
    elim c.match-place_of_name.branch [
      | in-Some w ↦ (
        subst Permutes (sym w.renaming-is) w.exchange.ensures.permutation,
        λ f g h same. subst (Follows f (NamedBelow ps (c.loop-at.at + 1)) first) (sym w.renaming-is)
            (name_taken f ps c.loop-at.at w.in-Some.found first _ _ (λ e. w.in-Some.ensures.named (f c.loop-at.at) e (same c.loop-at.at)) w.in-Some.ensures.nameless
            (c.loop-at.invariant.1 f g h same) (w.exchange.ensures.follows f g h)),
      )
      | in_default w ↦ (
        subst Permutes (sym w.renaming-is) c.loop-at.invariant.0,
        λ f g h same. subst (Follows f (NamedBelow ps (c.loop-at.at + 1)) first) (sym w.renaming-is)
            (no_name_taken f ps c.loop-at.at c.place_of_name.result first c.loop-at.renaming w.in_default.is (λ e. c.place_of_name.ensures.named (f c.loop-at.at) e (same c.loop-at.at))
            (c.loop-at.invariant.1 f g h same)),
      )
    ]
