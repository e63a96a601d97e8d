use Rattle.std.proofs.Common.{refl, ap, ◌∙◌}
use Rattle.ipc_kernel.specs.Places.{place_at, semaphore_name}
use Rattle.ipc_kernel.proofs.IndexLemmas.{found_range}
use Rattle.ipc_kernel.proofs.places.Places.semaphore_named.Goals as goal

pub returns-clause-range : goal.returns-clause-range
returns-clause-range c = found_range semaphore_name c.self.inside.places.items c.self.inside.semaphore_names c.args.name.now c.find.result refl c.self.invariant.semaphore_index c.self.invariant.all c.find.ensures.place

pub returns-clause-only : goal.returns-clause-only
returns-clause-only c i e = c.find.ensures.place ∙ c.self.invariant.semaphore_index.named c.args.name.now i (ap (λ ps. semaphore_name (place_at ps i)) c.self.view_is ∙ e)
