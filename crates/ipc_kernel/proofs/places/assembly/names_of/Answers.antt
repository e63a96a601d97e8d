use Rattle.std.proofs.Common.{sym, ap, ◌∙◌}
use Rattle.ipc_kernel.specs.Private.Index.{name_by}
use Rattle.ipc_kernel.proofs.AssemblyLemmas.{nameless, named_none, named_more, not_found, nameless_more}
use Rattle.ipc_kernel.proofs.places.assembly.names_of.Goals as goal
use Rattle.ipc_kernel.proofs.places.assembly.names_of.Goals.{in-Some+else-is_some+in_ok-put, in_default}

pub loop-at-init : goal.loop-at-init
loop-at-init c = named_none (name_by c.args.kind) _ (nameless c.args.kind) c.new-names.ensures.empty

pub loop-at-preserved : goal.loop-at-preserved
loop-at-preserved c =
    elim c.match-name.branch [
      | in-Some+else-is_some+in_ok-put w ↦ rw (w.names-is, w.in_ok-put.ensures.ok) (named_more (name_by c.args.kind) c.args.places.now c.loop-at.at w.in-Some.name.now c.loop-at.names _ (nameless c.args.kind) c.loop-at-test.true c.loop-at.invariant
          (ap (name_by c.args.kind) (sym c.index-places-at.is) ∙ sym w.in-Some.ensures.name)
          (not_found w.find.result _ _ w.find.ensures.place w.is_some.ensures w.if-is_some.false))
      | in_default w ↦ rw w.names-is (nameless_more (name_by c.args.kind) c.args.places.now c.loop-at.at c.loop-at.names _ (nameless c.args.kind) c.loop-at-test.true c.loop-at.invariant (ap (name_by c.args.kind) (sym c.index-places-at.is) ∙ sym w.in_default.ensures.name))
    ]
