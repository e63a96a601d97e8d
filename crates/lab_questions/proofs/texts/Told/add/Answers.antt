use Rattle.std.proofs.Common.{ℕ, ◌≡◌, ◌∙◌, ◌+◌, [], ◌∷◌, ◌++◌, Bool, Global, List, String, map, length, string_bytes, bytes_eq, sym, ap, arith, rules, tests}
use Rattle.std.specs.List.{list_any}
use Rattle.std.proofs.lemmas.Iterator.{YieldsList-from_slice}
use Rattle.std.proofs.lemmas.Iterator.Search.{any_from_yields_List}
use Rattle.std.proofs.lemmas.List.{map_push, length-map}
use Rattle.lab_worlds.specs.declared.ends.End.{End}
use Rattle.lab_questions.specs.declared.asked.Show.{Show}
use Rattle.lab_questions.specs.EndTexts.{text_of, told_ends, end_lines, ends_text}
use Rattle.lab_questions.proofs.Numbered.{numbers_known, numbers_new}
use Rattle.lab_questions.proofs.ToldEnds.{any-map, told-known, told-new}
use Rattle.lab_questions.proofs.TextLemmas.{end_told, ends-push}
use Rattle.lab_questions.proofs.texts.Told.add.Goals as goal

-- the answer is that of the ends that are told
answered : (show : Show) (es : List End) (e : End) (others : List (String Global)) (text : List ℕ) (r known : Bool) → map string_bytes others ≡ map (text_of show) (told_ends show es)
    → text ≡ text_of show e → r ≡ list_any (λ other. bytes_eq (string_bytes other) text) others → r ≡ known
    → list_any (λ other. bytes_eq other (text_of show e)) (map (text_of show) (told_ends show es)) ≡ known
answered show es e others text r known told is value here =
    let test = λ (other : List ℕ). bytes_eq other (text_of show e) in
    ap (list_any test) (sym told) ∙ any-map string_bytes test others ∙ ap (λ x. list_any (λ other. bytes_eq (string_bytes other) x) others) (sym is) ∙ sym value ∙ here

pub returns-then-any : goal.returns-then-any
returns-then-any c = record {
  told = λ ends at told.
      let e = c.args.end.now in
      let show = c.args.show in
      let others = ap (map string_bytes) c.deref.ensures.value ∙ told.texts in
      let among = any_from_yields_List (λ other. bytes_eq (string_bytes other) (string_bytes c.in_ok-text.text)) _ _ c.any.result c.any.ensures.ran (YieldsList-from_slice c.deref.result.now cc) (λ x b q k. search (rules, tests)) in
      let known = told-known show ends e (answered show ends e _ _ _ _ others c.in_ok-text.ensures.text among c.if-any.true) in
      record {
        text = told.text ∙ ap (ends_text show 1) (sym known);
        texts = told.texts ∙ ap (map (text_of show)) (sym known);
        numbers = numbers_known show ends e c.args.self.now.numbers.items known told.numbers;
      };
}

pub returns : goal.returns
returns c = record {
  told = λ ends at told.
      let e = c.args.end.now in
      let show = c.args.show in
      let old = c.args.self.now in
      let others = ap (map string_bytes) c.deref.ensures.value ∙ told.texts in
      let among = any_from_yields_List (λ other. bytes_eq (string_bytes other) (string_bytes c.in_ok-text.text)) _ _ c.any.result c.any.ensures.ran (YieldsList-from_slice c.deref.result.now cc) (λ x b q k. search (rules, tests)) in
      let is_new = told-new show ends e (answered show ends e _ _ _ _ others c.in_ok-text.ensures.text among c.if-any.false) in
      let count : c.len.result + 1 ≡ 1 + length (told_ends show ends) =
      let same = ap length told.texts in
      omega (arith, same, length-map old.texts.items string_bytes, length-map (told_ends show ends) (text_of show), c.len.ensures, old.texts.ok.0) in
      record {
        text = c.in_ok-write.ensures.bytes ∙ end_told (string_bytes old.text) (c.len.result + 1) (string_bytes c.in_ok-text.text) c.blocks-2.result.now
            ∙ ap (λ t. t ++ end_lines (c.len.result + 1) (string_bytes c.in_ok-text.text) c.blocks-2.result.now) told.text
            ∙ ap (λ n. ends_text show 1 (told_ends show ends) ++ end_lines n (string_bytes c.in_ok-text.text) c.blocks-2.result.now) count
            ∙ ap (λ r. ends_text show 1 (told_ends show ends) ++ end_lines (1 + length (told_ends show ends)) r c.blocks-2.result.now) c.in_ok-text.ensures.text
            ∙ ap (λ s. ends_text show 1 (told_ends show ends) ++ end_lines (1 + length (told_ends show ends)) (text_of show e) s) c.blocks-2.ensures.value
            ∙ sym (ends-push show 1 (told_ends show ends) e) ∙ ap (ends_text show 1) (sym is_new);
        texts = ap (map string_bytes) c.in_ok-push.ensures.items ∙ map_push string_bytes old.texts.items c.in_ok-text.text
            ∙ ap (λ rs. rs ++ string_bytes c.in_ok-text.text ∷ []) told.texts
            ∙ ap (λ r. map (text_of show) (told_ends show ends) ++ r ∷ []) c.in_ok-text.ensures.text
            ∙ sym (map_push (text_of show) (told_ends show ends) e) ∙ ap (map (text_of show)) (sym is_new);
        numbers = numbers_new show ends e old.numbers.items _ c.args.at is_new at c.in_ok-push-2.ensures.items told.numbers;
      };
}
