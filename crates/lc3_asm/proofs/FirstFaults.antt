-- The fault of a text is the first of the first line that has one.
use Rattle.std.proofs.Common.{◌≡◌, ℕ, ◌+◌, Bool, true, false, List, [], ◌∷◌, ◌++◌, length, map, refl, ap, sym, ◌∙◌, subst, append_assoc, append-nil, arith, length-append, rules}
use Rattle.std.specs.Prelude.{Result, Ok, Err, IsOk, All, if◌then◌else◌}
use Rattle.std.specs.List.{list_any, AllZip}
use Rattle.std.proofs.lemmas.List.Elements.{All-nil, All-cons, All-head, All-tail}
use Rattle.std.proofs.lemmas.Slice.Zip.{AllZip-long}
use Rattle.lc3_table.specs.Statements.{Line, Operand, ◌>>=◌}
use Rattle.lc3_table.specs.Meaning.{words}
use Rattle.lc3_table.specs.declared.operation.Fault.{Fault}
use Rattle.lc3_table.specs.declared.operation.Fault.TheVariants as fault
use Rattle.lc3_asm.specs.Texts.{At, at_line, lines, is_origin, is_end, labels, value, address_after, line_after, lines_after, lines_read, lines_behind, with_earlier, words_at, all_ok, words_of_lines, program_with_words, program_of, program_of_lines, program}
use Rattle.lc3_asm.specs.Laws.{IsReadAs, HasWordsAt, IsFirstUnread, IsFirstWithoutWords, HasFirstFault, Unread, Unstarted, WithoutWords, FaultIsFirst}
use Rattle.lc3_asm.proofs.EarlierLemmas.{behind-append, length-behind, words_behind}

-- a fault at a line
abbrev at : ℕ → Fault → At
at n k = record { line = n; kind = k }

-- the same fault
abbrev SameFault : {A : Type 0} → Result A At → Result A At → Type 0
SameFault r s = r ≡ s

err-same : {A : Type 0} (x y : At) → SameFault {A = A} (Err x) (Err y) → x ≡ y
err-same x y e = cc

-- the first text that can't be read, behind these lines
record Broken (before : List (Line Operand)) (bs : List (List ℕ)) (n : ℕ) (k : Fault) : Type 0 where
  front : List (List ℕ)
  bytes : List ℕ
  rest : List (List ℕ)
  made : List (Line Operand)
  split : bs ≡ front ++ bytes ∷ rest
  number : n ≡ length before + length front + 1
  earlier : AllZip IsReadAs front (lines_behind before made)
  here : line_after (before ++ made) bytes ≡ Err k

broken : (before : List (Line Operand)) (bs : List (List ℕ)) (n : ℕ) (k : Fault) → lines_after before bs ≡ Err (at n k) → Broken before bs n k
broken before [] n k e = cc
broken before (b ∷ bs) n k e = by (line_after before b) refl (λ l. broken (before ++ l ∷ []) bs n k) e
  where
    behind : (l : Line Operand) (ends : Bool) → line_after before b ≡ Ok l → is_end l ≡ ends → (lines_after (before ++ l ∷ []) bs ≡ Err (at n k) → Broken (before ++ l ∷ []) bs n k)
        → (if ends then Ok (before ++ l ∷ []) else lines_after (before ++ l ∷ []) bs) ≡ Err (at n k) → Broken before (b ∷ bs) n k
    behind l true read ends next h = cc
    behind l false read ends next h =
        let more = next h in record {
          front = b ∷ more.front;
          bytes = more.bytes;
          rest = more.rest;
          made = l ∷ more.made;
          split = ap (λ t. b ∷ t) more.split;
          number = omega (arith, more.number, length-append before (l ∷ []));
          earlier = ((read, ends), more.earlier);
          here = subst (λ u. line_after u more.bytes ≡ Err k) (append_assoc before (l ∷ []) more.made) more.here;
        }

    by : (r : Result (Line Operand) Fault) → line_after before b ≡ r → ((l : Line Operand) → lines_after (before ++ l ∷ []) bs ≡ Err (at n k) → Broken (before ++ l ∷ []) bs n k)
        → (at_line (length before + 1) r >>= λ l. if is_end l then Ok (before ++ l ∷ []) else lines_after (before ++ l ∷ []) bs) ≡ Err (at n k) → Broken before (b ∷ bs) n k
    by (Ok l) read next h = behind l (is_end l) read refl (next l) h
    by (Err f) read next h =
        let same = err-same (at (length before + 1) f) (at n k) h in
        let number : length before + 1 ≡ n = ap (λ (a : At). a.line) same in
        let kind : f ≡ k = ap (λ (a : At). a.kind) same in record {
          front = [];
          bytes = b;
          rest = bs;
          made = [];
          split = refl;
          number = omega (arith, number);
          earlier = tt;
          here = subst (λ u. line_after u b ≡ Err k) (sym (append-nil before)) (read ∙ ap Err kind);
        }

-- the texts that were read are passed over
read-over : (before : List (Line Operand)) (front : List (List ℕ)) (made : List (Line Operand)) (rest : List (List ℕ)) → AllZip IsReadAs front (lines_behind before made)
    → lines_after before (front ++ rest) ≡ lines_after (before ++ made) rest
read-over before [] [] rest h = ap (λ u. lines_after u rest) (sym (append-nil before))
read-over before [] (l ∷ made) rest h = absurd h
read-over before (b ∷ front) [] rest h = absurd h
read-over before (b ∷ front) (l ∷ made) rest h =
    let step : lines_after before (b ∷ (front ++ rest)) ≡ lines_after (before ++ l ∷ []) (front ++ rest) = rw (h.0.0, h.0.1) refl in
    step ∙ read-over (before ++ l ∷ []) front made rest h.1 ∙ ap (λ u. lines_after u rest) (append_assoc before (l ∷ []) made)

unread : (text : List ℕ) (n : ℕ) (k : Fault) → IsFirstUnread text n k → program text ≡ Err (at n k)
unread text n k h =
    let count : length h.before + 1 ≡ n = omega (arith, h.number, AllZip-long IsReadAs h.front (lines_behind [] h.before) h.earlier, length-behind [] h.before) in
    let found : lines_read text ≡ Err (at n k) = ap (lines_after []) h.lines_are ∙ read-over [] h.front h.before (h.bytes ∷ h.rest) h.earlier ∙ rw (h.here, count) refl in
    rw found refl

-- the first line without words, behind these lines
record Wordless (known : List (List ℕ × ℕ)) (before ls : List (Line Operand)) (n : ℕ) (k : Fault) : Type 0 where
  made : List (Line Operand)
  line : Line Operand
  after : List (Line Operand)
  split : ls ≡ made ++ line ∷ after
  number : n ≡ length before + length made + 1
  earlier : All (HasWordsAt known) (lines_behind before made)
  here : words (value known) (address_after (before ++ made)) line ≡ Err k

rest-err : {A B : Type 0} (r : Result A At) (f : A → B) (x : At) → (r >>= λ a. Ok (f a)) ≡ Err x → r ≡ Err x
rest-err y f x e = search rules

wordless : (known : List (List ℕ × ℕ)) (before ls : List (Line Operand)) (n : ℕ) (k : Fault) → words_behind known before ls ≡ Err (at n k) → Wordless known before ls n k
wordless known before [] n k e = cc
wordless known before (l ∷ ls) n k e = by (words (value known) (address_after before) l) refl (wordless known (before ++ l ∷ []) ls n k) e
  where
    by : (r : Result (List ℕ) Fault) → words (value known) (address_after before) l ≡ r
        → (words_behind known (before ++ l ∷ []) ls ≡ Err (at n k) → Wordless known (before ++ l ∷ []) ls n k)
        → ((at_line (length before + 1) r >>= λ ws. Ok (record { line = length before + 1; address = address_after before; words = ws })) >>= λ m.
        (words_behind known (before ++ l ∷ []) ls >>= λ ms. Ok (m ∷ ms))) ≡ Err (at n k) → Wordless known before (l ∷ ls) n k
    by (Err f) made next h =
        let same = err-same (at (length before + 1) f) (at n k) h in
        let number : length before + 1 ≡ n = ap (λ (a : At). a.line) same in
        let kind : f ≡ k = ap (λ (a : At). a.kind) same in record {
          made = [];
          line = l;
          after = ls;
          split = refl;
          number = omega (arith, number);
          earlier = All-nil (HasWordsAt known);
          here = subst (λ u. words (value known) (address_after u) l ≡ Err k) (sym (append-nil before)) (made ∙ ap Err kind);
        }
    by (Ok ws) made next h =
        let more = next (rest-err (words_behind known (before ++ l ∷ []) ls) (λ ms. record { line = length before + 1; address = address_after before; words = ws } ∷ ms) (at n k) h) in
        let has : HasWordsAt known (before, l) = rw made refl in record {
          made = l ∷ more.made;
          line = more.line;
          after = more.after;
          split = ap (λ t. l ∷ t) more.split;
          number = omega (arith, more.number, length-append before (l ∷ []));
          earlier = All-cons (HasWordsAt known) (before, l) (lines_behind (before ++ l ∷ []) more.made) has more.earlier;
          here = subst (λ u. words (value known) (address_after u) more.line ≡ Err k) (append_assoc before (l ∷ []) more.made) more.here;
        }

ok-value : {A E : Type 0} (r : Result A E) → IsOk r → (x : A) × (r ≡ Ok x)
ok-value x h = search rules

-- the lines that have words are passed over
words-over : (known : List (List ℕ × ℕ)) (es : List (List (Line Operand) × Line Operand)) (e : List (Line Operand) × Line Operand) (rest : List (List (Line Operand) × Line Operand)) (k : Fault)
    → All (HasWordsAt known) es → words (value known) (address_after e.0) e.1 ≡ Err k → all_ok (map (words_at known) (es ++ e ∷ rest)) ≡ Err (at (length e.0 + 1) k)
words-over known [] e rest k h here = rw here refl
words-over known (x ∷ es) e rest k h here =
    let has = ok-value (words (value known) (address_after x.0) x.1) (All-head (HasWordsAt known) x es h) in
    rw (has.1, words-over known es e rest k (All-tail (HasWordsAt known) x es h) here) refl

without_words : (text : List ℕ) (n : ℕ) (k : Fault) → IsFirstWithoutWords text n k → program text ≡ Err (at n k)
without_words text n k h =
    let known = labels h.read in
    let all : words_of_lines known h.read ≡ Err (at n k) =
    ap (words_of_lines known) h.split ∙ ap (λ es. all_ok (map (words_at known) es)) (behind-append [] h.before (h.line ∷ h.after))
    ∙ words-over known (with_earlier h.before) (h.before, h.line) (lines_behind (h.before ++ h.line ∷ []) h.after) k h.earlier h.here ∙ ap (λ m. Err (at m k)) (sym h.number) in
    rw (h.lines_are, h.started, all) refl

-- the fault of lines that were all read
found-started : (text : List ℕ) (ls : List (Line Operand)) (n : ℕ) (k : Fault) (started : Bool) → lines_read text ≡ Ok ls → list_any is_origin ls ≡ started
    → (if started then program_of ls else Err (at (length (lines text)) fault.NoOrig)) ≡ Err (at n k) → HasFirstFault text n k
found-started text ls n k false read e h = search rules
found-started text ls n k true read e h =
    let w = wordless (labels ls) [] ls n k (rest-err (words_of_lines (labels ls) ls) (program_with_words ls) (at n k) h) in
    WithoutWords (record {
      read = ls;
      before = w.made;
      line = w.line;
      after = w.after;
      lines_are = read;
      started = e;
      split = w.split;
      number = omega (arith, w.number);
      earlier = w.earlier;
      here = w.here;
    })

found : (text : List ℕ) (n : ℕ) (k : Fault) (r : Result (List (Line Operand)) At) → lines_read text ≡ r
    → (r >>= λ ls. program_of_lines (length (lines text)) ls) ≡ Err (at n k) → HasFirstFault text n k
found text n k (Ok ls) read e = found-started text ls n k (list_any is_origin ls) read refl e
found text n k (Err f) read e =
    let b = broken [] (lines text) n k (read ∙ ap Err (err-same f (at n k) e)) in
    Unread (record { front = b.front; bytes = b.bytes; rest = b.rest; before = b.made; lines_are = b.split; number = omega (arith, b.number); earlier = b.earlier; here = b.here })

refused : (text : List ℕ) (n : ℕ) (k : Fault) → HasFirstFault text n k → program text ≡ Err (at n k)
refused text n k (Unread h) = unread text n k h
refused text n k (Unstarted h) = rw (h.lines_are, h.unstarted, h.number, h.here) refl
refused text n k (WithoutWords h) = without_words text n k h

pub fault_is_first : FaultIsFirst
fault_is_first text n k = (found text n k (lines_read text) refl, refused text n k)
