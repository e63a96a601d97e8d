use Rattle.std.proofs.Common.{◌≡◌, ◌+◌, refl, rules}
use Rattle.lab_pictures.proofs.picture.arrow_of.Goals as goal

pub returns : goal.returns
returns c =
    let known = c.in-Some.known in
    let steps : c.in-Some-checked_add.steps ≡ known.taken + 1 = search rules in
    record {
      arrow = record { from = refl; to = refl; process = refl; taken = known.taken; errors = known.errors; known = c.in-Some.ensures.steps c.requires.store.known; steps = steps };
    }
