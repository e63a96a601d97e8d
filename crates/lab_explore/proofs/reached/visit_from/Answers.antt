use Rattle.std.proofs.Common.{◌≡◌, ap, arith, length, refl, subst, sym}
use Rattle.lab_sched.specs.Starts.{initial_world}
use Rattle.lab_search.specs.Reduced.{IsSearchedIn}
use Rattle.lab_worlds.proofs.Beginnings.{started, starts_held}
use Rattle.lab_explore.proofs.reached.visit_from.Goals as goal

pub search_all-requires : goal.search_all-requires
search_all-requires g c = record { held = starts_held c.args.processes.items c.as_slice.result.now c.as_slice.ensures.value c.requires.starts }

pub returns : goal.returns
returns g c =
    let ps = c.args.processes.items in
    let start = initial_world ps in
    let found = c.in_ok-search.search in
    let told = c.in_ok-search.ensures in
    let count : c.len.result ≡ length c.as_slice.result.now = omega (arith, ap length c.as_slice.ensures.value) in
    let same = started start ps c.as_slice.result.now c.in_ok-kernel.kernel c.len.result refl c.as_slice.ensures.value count c.in_ok-kernel.ensures.empty in
    record {
      start = refl;
      reduced = told.reduced;
      visited = record { starts = c.requires.starts; store = told.store; searched = λ is. subst (λ w. IsSearchedIn found.reduced w found.store) (sym same) (told.complete is) };
    }
