use Rattle.std.proofs.Common.{inl, refl}
use Rattle.lab_search.proofs.Growths.{later_by, still_known}
use Rattle.lab_search.proofs.store.Store.keep_kernel.Goals as goal

pub returns-clause-later : goal.returns-clause-later
returns-clause-later c = later_by c.args.self.now _ c.requires.store c.in_ok-number.ensures.grows (inl refl) (inl refl) (inl refl) (still_known c.args.self.now c.requires.store)
