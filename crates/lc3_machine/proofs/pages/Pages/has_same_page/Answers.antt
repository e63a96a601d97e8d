use Rattle.std.proofs.Common.{◌≡◌, ℕ, ◌<◌, false, List, get_or, rules}
use Rattle.lc3_machine.specs.Private.Pages.{PageWords, ArePages, absent_page, pages_at}
use Rattle.lc3_machine.specs.Process.{zeros}
use Rattle.lc3_machine.proofs.PlacedPages.{page-blank}
use Rattle.lc3_machine.proofs.pages.Pages.has_same_page.Goals as goal

zeros-in : (ps : List PageWords) (ws starts : List ℕ) (i : ℕ) → pages_at ws starts ≡ ps → ArePages ws starts → i < 256 → (get_or ps i absent_page).made ≡ false → (get_or ps i absent_page).words ≡ zeros 256
zeros-in ps ws starts i is inv h none = search (rules, page-blank)

pub returns-then-not-is_made-2 : goal.returns-then-not-is_made-2
returns-then-not-is_made-2 c = search (rules, zeros-in)
