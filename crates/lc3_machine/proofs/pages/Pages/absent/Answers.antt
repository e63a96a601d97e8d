use Rattle.std.proofs.Common.{refl}
use Rattle.lc3_machine.proofs.PlacedPages.{pages-absent, absent-pages, blank-is}
use Rattle.lc3_machine.proofs.pages.Pages.absent.Goals as goal

pub invariant_of-result : goal.invariant_of-result
invariant_of-result c = absent-pages _ _ (blank-is c.new-words.result.items _ _ c.new-words.ensures.items c.new-words.ensures.len c.in_ok-resize.ensures.items) refl

pub returns : goal.returns
returns c = record { absent = pages-absent _ _ (blank-is c.new-words.result.items _ _ c.new-words.ensures.items c.new-words.ensures.len c.in_ok-resize.ensures.items) refl }
