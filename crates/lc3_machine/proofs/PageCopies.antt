-- Pages that read the same, and memory that is made up of them.
use Rattle.std.proofs.Common.{◌≡◌, ℕ, ◌+◌, ◌*◌, ◌<◌, List, ◌++◌, length, get_or, take, flat_map, ap, sym, ◌∙◌, arith, rules}
use Rattle.std.proofs.lemmas.List.{ext_get_or, take_more, flat_map_more}
use Rattle.lc3_machine.specs.Private.Pages.{PageWords, AreWhole, absent_page, memory_of_pages}
use Rattle.lc3_machine.proofs.PageLemmas.{AreOf, get_or-parts}
use Rattle.std.proofs.lemmas.Grind.{common_steps}

-- where the wholes are equal, so is each part
same-part : {X : Type 0} (f : X → List ℕ) (n : ℕ) (e : X) (xs ys : List X) (i : ℕ) → AreOf f n e xs → AreOf f n e ys → i < length xs → i < length ys → flat_map f xs ≡ flat_map f ys → f (get_or xs i e) ≡ f (get_or ys i e)
same-part f n e xs ys i all all' h h' same =
    let len = all i h in
    let len' = all' i h' in
    ext_get_or 0 (f (get_or xs i e)) (f (get_or ys i e)) (len ∙ sym len')
    (λ j inside.
    let hj : j < n = omega arith in
    sym (get_or-parts f n e xs i j all h hj) ∙ ap (λ ws. get_or ws (i * n + j) 0) same ∙ get_or-parts f n e ys i j all' h' hj)

-- where memories have the same words, so have their pages
pub same-page : (ps qs : List PageWords) (i : ℕ) → AreWhole ps → AreWhole qs → i < length ps → i < length qs → (memory_of_pages ps).words ≡ (memory_of_pages qs).words
    → (get_or ps i absent_page).words ≡ (get_or qs i absent_page).words
same-page = same-part (λ p. p.words) 256 absent_page

-- the words of one page more
words-more : (ps : List PageWords) (i : ℕ) → i < length ps → (memory_of_pages (take (i + 1) ps)).words ≡ (memory_of_pages (take i ps)).words ++ (get_or ps i absent_page).words
words-more ps i h = grind (arith, common_steps, take_more, flat_map_more)

-- the same words in one page more
pub same-more : (ps qs : List PageWords) (i : ℕ) → i < length ps → i < length qs → (get_or ps i absent_page).words ≡ (get_or qs i absent_page).words
    → (memory_of_pages (take i ps)).words ≡ (memory_of_pages (take i qs)).words → (memory_of_pages (take (i + 1) ps)).words ≡ (memory_of_pages (take (i + 1) qs)).words
same-more ps qs i h h' same so_far = search (rules, words-more)
