use Rattle.std.proofs.Common.{◌+◌, List, get_or, ap, subst, ◌∙◌}
use Rattle.std.proofs.lemmas.List.{get_or_default}
use Rattle.lc3_machine.specs.Private.Pages.{PageWords, AreWhole, absent_page}
use Rattle.lc3_machine.proofs.PlacedPages.{page-word, word-inside, pages-whole}
use Rattle.lc3_machine.proofs.pages.Pages.get.Goals as goal

pub returns-clause-word : goal.returns-clause-word
returns-clause-word c =
    c.index.ensures
    ∙ get_or_default c.self.inside.words.items (get_or c.self.inside.starts c.args.page 0 + c.args.place) c.index.result.now 0 (word-inside c.self.inside.words.items c.self.inside.starts c.args.page c.args.place c.self.invariant c.requires.page c.requires.place)
    ∙ page-word c.self.inside.words.items c.self.inside.starts c.args.page c.args.place c.self.invariant c.requires.page c.requires.place
    ∙ ap (λ (ps : List PageWords). get_or ((get_or ps c.args.page absent_page).words) c.args.place 0) c.self.view_is

pub returns-clause-whole : goal.returns-clause-whole
returns-clause-whole c = subst AreWhole c.self.view_is (pages-whole c.self.inside.words.items c.self.inside.starts c.self.invariant)
