use Rattle.lab_search.proofs.store.Store.are_calm_in.Goals as goal

pub returns-else-not-reduced : goal.returns-else-not-reduced
returns-else-not-reduced c = record { calm = λ is yes. c.are_calm.ensures.calm is }
