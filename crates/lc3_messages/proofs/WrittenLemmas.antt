-- Messages that are written.
use Rattle.std.proofs.Common.{ℕ, ◌≡◌, ◌∙◌, ◌<◌, ◌+◌, ◌++◌, List, [], ◌∷◌, append-nil, ap, codes, get_or, length, map, refl, subst, sym, take, rules}
use Rattle.std.specs.List.{concat}
use Rattle.std.proofs.lemmas.List.{map-append, take_more}
use Rattle.std.proofs.lemmas.List.Folds.{concat-append}
use Rattle.std.proofs.lemmas.Slice.Zip.{all_zipped_more}
use Rattle.lc3_messages.specs.Telling.{finding_told}
use Rattle.lc3_messages.specs.Written.{message_text, heading_of, count_line, IsMessage, AreMessages, AreNoTextReport}
use Rattle.lc3_messages.specs.declared.source.Finding.{Finding}
use Rattle.lc3_messages.specs.declared.telling.Told.{Told}

-- this is a message about what was found
pub is_message : (file : List ℕ) (f : Finding) (column : ℕ) (words name below bytes : List ℕ)
    → bytes ≡ message_text file f.line column (heading_of f.what) words name below → IsMessage file f bytes
is_message file f column words name below bytes is = (column, words, name, below, is)

-- one message is the report on what is no text
pub is_no_text : (file : List ℕ) (line column : ℕ) (words name below message bytes : List ℕ)
    → message ≡ message_text file line column (codes "error") words name below → bytes ≡ message ++ count_line file 1 1 → AreNoTextReport file bytes
is_no_text file line column words name below message bytes is all = (line, message, (column, words, name, below, is), all)

-- no message about nothing
pub no_messages : (file : List ℕ) → AreMessages file [] []
no_messages file = ([], search rules, refl)

-- one message more
pub messages_next : (file : List ℕ) (told : List Told) (i : ℕ) (d one : Told) (old new message : List ℕ) → i < length told → one ≡ get_or told i d
    → AreMessages file (map finding_told (take i told)) old → IsMessage file (finding_told one) message → new ≡ old ++ message
    → AreMessages file (map finding_told (take (i + 1) told)) new
messages_next file told i d one old new message within here (each, are, so_far) is all =
    let front = map finding_told (take i told) in
    let more : map finding_told (take (i + 1) told) ≡ front ++ finding_told one ∷ [] =
    ap (map finding_told) (take_more told i d within ∙ ap (λ x. take i told ++ x ∷ []) (sym here)) ∙ map-append finding_told (take i told) (one ∷ []) in
    let last : concat (message ∷ []) ≡ message = append-nil message in
    subst (λ found. AreMessages file found new) (sym more) (
      each ++ message ∷ [],
      all_zipped_more (IsMessage file) front each (finding_told one) message are is,
      all ∙ ap (λ bytes. bytes ++ message) so_far ∙ ap (λ bytes. concat each ++ bytes) (sym last) ∙ sym (concat-append each (message ∷ [])),
    )
