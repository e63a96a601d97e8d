use Rattle.std.proofs.Common.{refl, ap, ◌∙◌}
use Rattle.ipc_kernel.specs.Places.{place_at, queue_name}
use Rattle.ipc_kernel.proofs.IndexLemmas.{found_range}
use Rattle.ipc_kernel.proofs.places.Places.queue_named.Goals as goal

pub returns-clause-range : goal.returns-clause-range
returns-clause-range c = found_range queue_name c.self.inside.places.items c.self.inside.queue_names c.args.name.now c.find.result refl c.self.invariant.queue_index c.self.invariant.all c.find.ensures.place

pub returns-clause-only : goal.returns-clause-only
returns-clause-only c i e = c.find.ensures.place ∙ c.self.invariant.queue_index.named c.args.name.now i (ap (λ ps. queue_name (place_at ps i)) c.self.view_is ∙ e)
