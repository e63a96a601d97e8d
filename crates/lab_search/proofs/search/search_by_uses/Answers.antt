use Rattle.lab_search.proofs.search.search_by_uses.Goals as goal

pub returns-then-not-search-clause-complete : goal.returns-then-not-search-clause-complete
returns-then-not-search-clause-complete g c is = rw c.in_ok-search.ensures.reduced (c.in_ok-search.ensures.complete is)
