use Rattle.std.proofs.Common.{◌≡◌, ◌++◌, ◌∙◌, IsTrue, ap, arith, length, subst, sym, take}
use Rattle.std.proofs.Math.Seq.{take-append_seam}
use Rattle.lab_worlds.specs.Reached.{ViolatesIfSome, KeptIfNone}
use Rattle.lab_questions.specs.Bases.{all_bases, AreNeverThere, StandsBefore}
use Rattle.lab_questions.specs.Private.Founds.{AreShown}
use Rattle.lab_questions.proofs.OrderLemmas.{told_in_order}
use Rattle.lab_questions.proofs.SoFar.{are_shown}
use Rattle.lab_questions.proofs.Watched.{parted, are_never_there}
use Rattle.lab_questions.proofs.asking.search.Goals as goal

pub empty_in-requires : goal.empty_in-requires
empty_in-requires g c =
    let count : c.len-count.result ≡ length c.args.never.items = omega (arith, c.len-count.ensures, c.args.never.ok.0) in
    let parts = parted (ViolatesIfSome c.args.fresh) c.args.never.items c.in_ok-bases.ensures.asks.0 c.deref.result.now c.in_ok-exploration.exploration.reached.items
    c.len-count.result (c.deref.ensures.value ∙ c.in_ok-bases.ensures.asks.1) count c.in_ok-exploration.ensures.reached in
    record { there = parts.0 }

pub returns-clause-each : goal.returns-clause-each
returns-clause-each g c =
    let count : c.len-count.result ≡ length c.args.never.items = omega (arith, c.len-count.ensures, c.args.never.ok.0) in
    let start = c.args.fresh in
    let complete = c.in_ok-exploration.exploration.complete in
    let conditions = c.args.never.items in
    let presences = c.in_ok-bases.ensures.asks.0 in
    let reached = c.in_ok-exploration.exploration.reached.items in
    let whole = c.deref.ensures.value ∙ c.in_ok-bases.ensures.asks.1 in
    let violates = parted (ViolatesIfSome start) conditions presences c.deref.result.now reached c.len-count.result whole count c.in_ok-exploration.ensures.reached in
    let keeps = λ (is : IsTrue complete). parted (KeptIfNone start) conditions presences c.deref.result.now reached c.len-count.result whole count (c.in_ok-exploration.ensures.unreached is) in
    let shown = are_shown start complete conditions (take c.len-count.result reached) violates.1 (λ is. (keeps is).1) in
    let asked = c.truncate.ensures.items ∙ ap (λ xs. take c.len-count.result xs) c.in_ok-bases.ensures.asks.1 ∙ ap (λ n. take n (conditions ++ presences)) count
    ∙ take-append_seam conditions presences in
    let first = ap (λ v. v.items) c.replace-reached.ensures.value ∙ c.in_ok-empty.ensures.first in
    c.in_ok-conditions.ensures.each start
    (subst (λ ns. AreShown start complete ns c.replace-reached.result.items) (sym asked) (subst (AreShown start complete conditions) (sym first) shown))

pub returns-clause-empty : goal.returns-clause-empty
returns-clause-empty g c =
    let count : c.len-count.result ≡ length c.args.never.items = omega (arith, c.len-count.ensures, c.args.never.ok.0) in
    let start = c.args.fresh in
    let conditions = c.args.never.items in
    let presences = c.in_ok-bases.ensures.asks.0 in
    let all = c.deref.result.now in
    let reached = c.in_ok-exploration.exploration.reached.items in
    let whole = c.deref.ensures.value ∙ c.in_ok-bases.ensures.asks.1 in
    let violates = parted (ViolatesIfSome start) conditions presences all reached c.len-count.result whole count c.in_ok-exploration.ensures.reached in
    record {
      whole = λ complete.
          let keeps = parted (KeptIfNone start) conditions presences all reached c.len-count.result whole count (c.in_ok-exploration.ensures.unreached complete) in
          subst (AreNeverThere start conditions) (sym (c.in_ok-empty.ensures.whole complete))
          (are_never_there start conditions presences c.in_ok-bases.bases.items _ c.in_ok-bases.ensures.asks.2 violates.2 keeps.2
          c.in_ok-bases.ensures.named.all c.in_ok-bases.ensures.named.only);
      unknown = c.in_ok-empty.ensures.unknown;
      order = told_in_order (StandsBefore (all_bases conditions)) c.in_ok-exploration.exploration.complete c.in_ok-bases.bases.items c.in_ok-empty.empty.items _
          c.in_ok-bases.ensures.named.order c.in_ok-empty.ensures.whole c.in_ok-empty.ensures.unknown;
    }
