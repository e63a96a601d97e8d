use Rattle.std.proofs.Common.{◌≡◌, true, false, not, ap, refl, sym, ◌∙◌}
use Rattle.lab_worlds.proofs.Pushes.{got}
use Rattle.lab_explore.proofs.LossesOfRows.{received_at}
use Rattle.lab_explore.proofs.reached.is_loss.Goals as goal

pub returns : goal.returns
returns c = record {
  no = λ is h.
      let receiving = c.args.receiving.now in
      let receives = c.in-Some-get.receives.now in
      let found = c.in-Some-get.ensures.lookup.3 in
      let read = got receiving receiving c.in-Some.state receives refl found.0 (found.1 receives) in
      let place = c.in-Some.ensures.places in
      let told = received_at c.args.store.now receiving c.args.edge.now.from c.args.edge.now.pid c.in-Some.state receives c.requires.receiving (place.0, place.1, place.3) read h.before h.process h.from h.there in
      let clash : true ≡ false = sym (ap not (told ∙ h.receives_none)) ∙ is in
      absurd (cc);
}
