use Rattle.std.proofs.Common.{◌≡◌, ◌<◌, ℕ, List, length, ap, subst, arith, rules}
use Rattle.lc3_machine.specs.Private.Pages.{PageWords, AreWhole, ArePages, pages_at}
use Rattle.lc3_machine.proofs.PlacedPages.{pages-count, pages-whole}
use Rattle.lc3_machine.proofs.PageCopies.{same-page, same-more}
use Rattle.lc3_machine.proofs.pages.Pages.has_same_words.Goals as goal
use Rattle.std.proofs.lemmas.Grind.{common_steps}

-- an index of a page
index : (ps : List PageWords) (ws starts : List ℕ) (i : ℕ) → ArePages ws starts → pages_at ws starts ≡ ps → i < 256 → i < length ps
index ps ws starts i inv is h = omega (arith, h, pages-count ws starts inv, ap length is)

pub returns-then-not-has_same_page : goal.returns-then-not-has_same_page
returns-then-not-has_same_page c =
    let h = index c.args.self.now c.self.inside.words.items c.self.inside.starts c.loop-page.page c.self.invariant c.self.view_is c.loop-page-test.true in
    let k = index c.args.other.now c.other.inside.words.items c.other.inside.starts c.loop-page.page c.other.invariant c.other.view_is c.loop-page-test.true in
    record {
      same = (
        λ impossible. absurd (search rules),
        λ same.
            c.if-not-has_same_page.ensures.same.1
            (same-page c.args.self.now c.args.other.now c.loop-page.page (subst AreWhole c.self.view_is (pages-whole c.self.inside.words.items c.self.inside.starts c.self.invariant))
            (subst AreWhole c.other.view_is (pages-whole c.other.inside.words.items c.other.inside.starts c.other.invariant)) h k same),
      );
    }

pub loop-page-preserved : goal.loop-page-preserved
loop-page-preserved c = grind (arith, common_steps, index, same-more)
