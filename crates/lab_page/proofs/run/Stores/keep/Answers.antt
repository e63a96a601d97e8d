use Rattle.std.proofs.Common.{◌≡◌, ◌<◌, ◌≤◌, ℕ, List, [], Vec, Global, length, map, get_or, refl, sym, rules}
use Rattle.std.proofs.lemmas.List.{length-map, map-set}
use Rattle.lab_page.proofs.StoreLemmas.{stores-past, held-was}
use Rattle.lab_page.proofs.run.Stores.keep.Goals as goal

abbrev items : Vec ℕ Global → List ℕ
items v = v.items

pub returns-in_default : goal.returns-in_default
returns-in_default c =
    let past : length c.self.inside.held.items ≤ c.args.taken.now.pid = search rules in
    record {
      kept = rw (← c.self.view_is) (sym (stores-past c.args.taken.now.number c.args.taken.now.pid c.args.taken.now.world.now _
          (rw (length-map c.self.inside.held.items items) past)));
    }

pub returns : goal.returns
returns c =
    let held = c.self.inside.held.items in
    let pid = c.args.taken.now.pid in
    let within : pid < length held = search rules in
    let was : get_or (map items held) pid [] ≡ items c.in-Some.held.now = held-was items held pid c.in-Some.held.now [] within c.in-Some.ensures.value in
    record {
      kept = rw (
        ← c.self.view_is,
        map-set items held pid c.in_ok-after.after,
        c.in_ok-push_words.ensures.added,
        c.origin_at-first.ensures.origin,
        c.deref.ensures.value,
        c.deref-2.ensures.value,
        c.in_ok-after.ensures.words,
        was,
      )
          refl;
    }
