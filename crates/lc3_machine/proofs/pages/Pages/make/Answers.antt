use Rattle.std.proofs.Common.{◌≡◌, ◌++◌, List, true, get_or, set, length, arith, sym, ap, ◌∙◌, rules}
use Rattle.std.proofs.lemmas.List.{take_all}
use Rattle.lc3_machine.specs.Process.{zeros}
use Rattle.lc3_machine.specs.Private.Pages.{PageWords, absent_page, pages_at, page_made}
use Rattle.lc3_machine.proofs.PlacedPages.{page-blank, pages-made, more-pages, zeros-is}
use Rattle.lc3_machine.proofs.pages.Pages.make.Goals as goal

grown : (c : goal.After-way_told-1) → c.resize.new.self.items ≡ c.self.inside.words.items ++ zeros 256
grown c = search (rules, take_all, zeros-is)

pub invariant_of-self-2 : goal.invariant_of-self-2
invariant_of-self-2 c = search (rules, grown, more-pages, c.self.inside.words.items, c.len-start.ensures, c.self.inside.words.ok.0, c.self.inside.starts, c.self.invariant, c.requires.page)

pub returns-clause-ok : goal.returns-clause-ok
returns-clause-ok c =
    let old = c.self.inside.words.items in
    let starts = c.self.inside.starts in
    let size : length old ≡ c.len-start.result = omega (arith, c.len-start.ensures, c.self.inside.words.ok.0) in
    let blank : (get_or (pages_at old starts) c.args.page absent_page).words ≡ zeros 256 =
    page-blank old starts c.args.page c.self.invariant c.requires.page (ap (λ (ps : List PageWords). (get_or ps c.args.page absent_page).made) c.self.view_is ∙ sym c.if-is_made.ensures.made) in
    ap (λ ws. pages_at ws (set starts c.args.page c.len-start.result)) (grown c)
    ∙ ap (λ n. pages_at (old ++ zeros 256) (set starts c.args.page n)) (sym size)
    ∙ pages-made old starts c.args.page c.self.invariant c.requires.page
    ∙ ap (λ ms. set (pages_at old starts) c.args.page (record { words = ms; made = true })) (sym blank)
    ∙ ap (λ (ps : List PageWords). set ps c.args.page (page_made (get_or ps c.args.page absent_page))) c.self.view_is
