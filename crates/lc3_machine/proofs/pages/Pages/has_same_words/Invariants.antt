use Rattle.std.proofs.Common.{◌≡◌, take}
use Rattle.lc3_machine.specs.Private.Pages.{memory_of_pages}
use Rattle.lc3_machine.proofs.pages.Pages.has_same_words.Given as goal

abbrev pub invariant-loop-page : goal.invariant-loop-page
invariant-loop-page l = (memory_of_pages (take l.page l.self)).words ≡ (memory_of_pages (take l.page l.other)).words
