use Rattle.std.proofs.Common.{◌++◌, [], All, Bor, List, ℕ, true, false, flat_map, map, refl, subst, sym}
use Rattle.lab_worlds.specs.Calls.{Alongside}
use Rattle.lab_commands.specs.Asking.{IsAsked, IsRequired, IsSought, MayBe, call_if, output_if}
use Rattle.lab_commands.proofs.inquiry.asked_of.Goals as goal

pub returns : goal.returns
returns c =
    let outputs = c.args.question.now.outputs.items in
    let never = c.args.question.now.never.items in
    let required = λ (words : List (Bor (List ℕ))). flat_map (λ word. call_if false word.now) words in
    let forbidden = λ (words : List (Bor (List ℕ))). flat_map (λ word. call_if true word.now) words in
    record {
      asked = record {
        words = record {
          outputs = c.in_ok-needs.needs.items;
          is = rw c.in_ok-words.ensures.words at c.in_ok-append.ensures.items;
          needed = subst (λ (words : List (Bor (List ℕ))). Alongside IsRequired (flat_map (λ word. output_if word.now) words) c.in_ok-needs.needs.items) c.as_slice-outputs.ensures.value
              c.in_ok-needs.ensures.needs;
        };
        waiters = subst (λ (words : List (Bor (List ℕ))). Alongside MayBe (map (λ word. word.now) words) c.in_ok-waiters_of.field-0.items) c.as_slice.ensures.value
            c.in_ok-waiters_of.ensures.waiters;
        never = subst (λ (words : List (Bor (List ℕ))). All (λ word. IsAsked c.in_ok-nevers_of.field-0.items word.now) words) c.as_slice-never.ensures.value c.in_ok-nevers_of.ensures.each;
        calls = subst (λ words. Alongside IsSought (required words ++ forbidden never) c.push_calls-2.new.calls.items) c.as_slice-outputs.ensures.value
            (subst (λ words. Alongside IsSought (required c.as_slice-outputs.result.now ++ forbidden words) c.push_calls-2.new.calls.items) c.as_slice-never.ensures.value
            (c.in_ok-push_calls-2.ensures.sought _ (c.in_ok-push_calls.ensures.sought [] (subst (Alongside IsSought []) (sym c.new-calls.ensures.items) (λ p. tt)))));
        fair = refl;
        out = refl;
        left = refl;
      };
    }
