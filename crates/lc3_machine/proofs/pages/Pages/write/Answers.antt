use Rattle.std.proofs.Common.{◌<◌, get_or, rules}
use Rattle.std.proofs.lemmas.Bool.Decides.{nat_tests}
use Rattle.lc3_machine.proofs.PlacedPages.{page-made, pages-written, still-pages}
use Rattle.lc3_machine.proofs.pages.Pages.write.Goals as goal

begins : (c : goal.After-self-1) → 0 < get_or c.self.inside.starts c.args.page 0
begins c = search (rules, page-made, nat_tests)

pub invariant_of-self : goal.invariant_of-self
invariant_of-self c = search (rules, still-pages, begins)

pub returns : goal.returns
returns c = search (rules, pages-written, begins)
