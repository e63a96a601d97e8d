use Rattle.std.proofs.Common.{subst}
use Rattle.lc3_machine.specs.Private.Pages.{AreWhole}
use Rattle.lc3_machine.proofs.PlacedPages.{pages-whole}
use Rattle.lc3_machine.proofs.pages.Pages.is_made.Goals as goal

pub returns-clause-whole : goal.returns-clause-whole
returns-clause-whole c = subst AreWhole c.self.view_is (pages-whole c.self.inside.words.items c.self.inside.starts c.self.invariant)
