-- All the faults of a text, and the one for which it is refused.
use Rattle.std.proofs.Common.{◌≡◌, ℕ, ◌+◌, ◌<◌, get_or, Bool, true, false, List, [], ◌∷◌, ◌++◌, length, take, map, refl, ap, sym, ◌∙◌, arith, Option, Some, None, rules}
use Rattle.std.specs.Prelude.{Result, Ok, Err, MatchOption, slice_get, if◌then◌else◌}
use Rattle.std.specs.List.{flat_map}
use Rattle.std.proofs.lemmas.Bool.{cond_both, le-leb}
use Rattle.lc3_table.specs.Statements.{Line, Operand, ◌>>=◌}
use Rattle.lc3_table.specs.Meaning.{words}
use Rattle.lc3_table.specs.declared.operation.Fault.{Fault}
use Rattle.lc3_asm.specs.Texts.{At, LineWords, at_line, lines, lines_after, line_after, lines_read, is_end, labels, value, address_after, with_earlier, words_at, all_ok, program_of_lines, program}
use Rattle.lc3_asm.specs.Faults.{Reading, outcome, told_once, kept, fault_of, numbered, reading_with, reading_after, reading, unless_unknown, label_fault, faults_of, faults, refused_for}
use Rattle.lc3_asm.specs.Views.{seen_line}
use Rattle.lc3_asm.specs.declared.line.Line.{Line as Read}
use Rattle.lc3_asm.specs.declared.passes.LineFault.{LineFault}
use Rattle.lc3_asm.proofs.EarlierLemmas.{behind-append, seen-more}
use Rattle.lc3_asm.proofs.ReadLemmas.{line-read, read-below}
use Rattle.std.proofs.lemmas.Grind.{common_steps}

-- these lines without a fault
abbrev pub sound : List (Line Operand) → Reading
sound ls = record { read = ls; found = [] }

-- a line without a fault is kept as it is
told-none : (o : Option Fault) → told_once [] o ≡ o
told-none x = search rules

outcome-sound : (before : List (Line Operand)) (bytes : List ℕ) → outcome (sound before) bytes ≡ line_after before bytes
outcome-sound before bytes = search (rules, told-none)

kept-sound : (before : List (Line Operand)) (bytes : List ℕ) (l : Line Operand) → line_after before bytes ≡ Ok l → kept (sound before) bytes ≡ l
kept-sound before bytes l e = search (rules, read-below, line-read, le-leb, outcome-sound)

with-sound : (before : List (Line Operand)) (bytes : List ℕ) (l : Line Operand) → line_after before bytes ≡ Ok l → reading_with (sound before) bytes ≡ sound (before ++ l ∷ [])
with-sound before bytes l e = rw (kept-sound before bytes l e, outcome-sound before bytes, e) refl

-- the first fault found
abbrev pub first_found : Reading → Option LineFault
first_found r = slice_get r.found 0

-- the first fault stays the first
first-with : (r : Reading) (bytes : List ℕ) (f : LineFault) → first_found r ≡ Some f → first_found (reading_with r bytes) ≡ Some f
first-with r bytes f e = search rules

first-after : (r : Reading) (rest : List (List ℕ)) (f : LineFault) → first_found r ≡ Some f → first_found (reading_after r rest) ≡ Some f
first-after r [] f e = e
first-after r (bytes ∷ rest) f e =
    let next = first-with r bytes f e in
    cond_both (is_end (kept r bytes)) (reading_with r bytes) (reading_after (reading_with r bytes) rest) (λ q. first_found q ≡ Some f) (λ _. next) (λ _. first-after (reading_with r bytes) rest f next)

-- what the lines of a text without a fault of reading are, and the first fault of one with some
abbrev pub ReadsAs : Result (List (Line Operand)) At → Reading → Type 0
ReadsAs (Ok ls) r = r ≡ sound ls
ReadsAs (Err e) r = first_found r ≡ Some (record { line = e.line; kind = e.kind })

reads-as : (before : List (Line Operand)) (rest : List (List ℕ)) → ReadsAs (lines_after before rest) (reading_after (sound before) rest)
reads-as before [] = refl
reads-as before (bytes ∷ rest) = by (λ l. reads-as (before ++ l ∷ []) rest) (line_after before bytes) refl
  where
    ended : ((l : Line Operand) → ReadsAs (lines_after (before ++ l ∷ []) rest) (reading_after (sound (before ++ l ∷ [])) rest))
        → (l : Line Operand) (b c : Bool) → b ≡ c → line_after before bytes ≡ Ok l
        → ReadsAs (if b then Ok (before ++ l ∷ []) else lines_after (before ++ l ∷ []) rest) (if c then reading_with (sound before) bytes else reading_after (reading_with (sound before) bytes) rest)
    ended more l true true same e = with-sound before bytes l e
    ended more l false false same e = rw (with-sound before bytes l e) (more l)
    ended more l true false same e = cc
    ended more l false true same e = cc

    faulty : (k : Fault) → line_after before bytes ≡ Err k → first_found (reading_with (sound before) bytes) ≡ Some (record { line = length before + 1; kind = k })
    faulty k e = rw (outcome-sound before bytes, e) refl

    stays : (b : Bool) (f : LineFault) → first_found (reading_with (sound before) bytes) ≡ Some f
        → first_found (if b then reading_with (sound before) bytes else reading_after (reading_with (sound before) bytes) rest) ≡ Some f
    stays true f h = h
    stays false f h = first-after (reading_with (sound before) bytes) rest f h

    by : ((l : Line Operand) → ReadsAs (lines_after (before ++ l ∷ []) rest) (reading_after (sound (before ++ l ∷ [])) rest))
        → (r : Result (Line Operand) Fault) → line_after before bytes ≡ r
        → ReadsAs (at_line (length before + 1) r >>= λ l. if is_end l then Ok (before ++ l ∷ []) else lines_after (before ++ l ∷ []) rest)
        (if is_end (kept (sound before) bytes) then reading_with (sound before) bytes else reading_after (reading_with (sound before) bytes) rest)
    by more (Ok l) e = ended more l (is_end l) (is_end (kept (sound before) bytes)) (ap is_end (sym (kept-sound before bytes l e))) e
    by more (Err k) e = stays (is_end (kept (sound before) bytes)) (record { line = length before + 1; kind = k }) (faulty k e)

-- the lines of a text without a fault of reading, and the first fault of one with some
pub read_as : (text : List ℕ) (r : Reading) → r ≡ reading text
    → MatchOption (first_found r) (lines_read text ≡ Ok r.read) (λ f. lines_read text ≡ Err (record { line = f.line; kind = f.kind }))
read_as text r e = by (lines_read text) (reads-as [] (lines text))
  where
    by : (read : Result (List (Line Operand)) At) → ReadsAs read (reading text) → MatchOption (first_found r) (read ≡ Ok r.read) (λ f. read ≡ Err (record { line = f.line; kind = f.kind }))
    by (Ok ls) k = rw (e ∙ k) refl
    by (Err k) m = rw (ap first_found e ∙ m) refl

-- the first error among results
abbrev first_error : {A : Type 0} → Result A At → Option LineFault
first_error (Ok x) = None
first_error (Err e) = Some (record { line = e.line; kind = e.kind })

-- where there is no fault of reading, the first fault of a label is the one for which the lines have no words
labels-first : (ls : List (Line Operand)) (es : List (List (Line Operand) × Line Operand))
    → slice_get (flat_map (label_fault (sound ls)) es) 0 ≡ first_error (all_ok (map (words_at (labels ls)) es))
labels-first ls [] = refl
labels-first ls (e ∷ es) = by (words (value (labels ls)) (address_after e.0) e.1) (labels-first ls es)
  where
    joined : (r : Result (List LineWords) At) (w : LineWords) → first_error r ≡ first_error (r >>= λ xs. Ok (w ∷ xs))
    joined (Ok xs) w = refl
    joined (Err k) w = refl

    by : (r : Result (List ℕ) Fault) → slice_get (flat_map (label_fault (sound ls)) es) 0 ≡ first_error (all_ok (map (words_at (labels ls)) es))
        → slice_get (numbered (length e.0 + 1) (unless_unknown [] (fault_of r)) ++ flat_map (label_fault (sound ls)) es) 0
        ≡ first_error ((at_line (length e.0 + 1) r >>= λ ws. Ok (record { line = length e.0 + 1; address = address_after e.0; words = ws })) >>= λ x. (all_ok (map (words_at (labels ls)) es) >>= λ xs. Ok (x ∷ xs)))
    by (Ok ws) h = h ∙ joined (all_ok (map (words_at (labels ls)) es)) (record { line = length e.0 + 1; address = address_after e.0; words = ws })
    by (Err k) h = refl

sound-first : (count : ℕ) (ls : List (Line Operand)) → slice_get (faults_of count (sound ls)) 0 ≡ refused_for (program_of_lines count ls)
sound-first count ls = search (rules, labels-first)

found-first : (count : ℕ) (r : Reading) (f : LineFault) → first_found r ≡ Some f → slice_get (faults_of count r) 0 ≡ Some f
found-first count r f e = search rules

-- the first fault of a text is the one for which it is refused
pub first_fault : (text : List ℕ) → slice_get (faults text) 0 ≡ refused_for (program text)
first_fault text = by (lines_read text) (reads-as [] (lines text))
  where
    by : (read : Result (List (Line Operand)) At) → ReadsAs read (reading text)
        → slice_get (faults text) 0 ≡ refused_for (read >>= λ ls. program_of_lines (length (lines text)) ls)
    by (Ok ls) e = ap (λ r. slice_get (faults_of (length (lines text)) r) 0) e ∙ sound-first (length (lines text)) ls
    by (Err k) e = found-first (length (lines text)) (reading text) (record { line = k.line; kind = k.kind }) e

pub first_of_all : (found : List LineFault) (text : List ℕ) → found ≡ faults text → slice_get found 0 ≡ refused_for (program text)
first_of_all found text e = ap (λ fs. slice_get fs 0) e ∙ first_fault text

-- one more line whose label has this fault, or none
pub labels-more : (r : Reading) (lines : List Read) (i : ℕ) (d x : Read) (address : ℕ) (start fs gs : List LineFault)
    → i < length lines → x ≡ get_or lines i d → address ≡ address_after (map seen_line (take i lines))
    → gs ≡ fs ++ numbered (i + 1) (unless_unknown r.found (fault_of (words (value (labels r.read)) address (seen_line x))))
    → fs ≡ start ++ flat_map (label_fault r) (with_earlier (map seen_line (take i lines)))
    → gs ≡ start ++ flat_map (label_fault r) (with_earlier (map seen_line (take (i + 1) lines)))
labels-more r lines i d x address start fs gs h is at g f = grind (arith, common_steps, seen-more, behind-append)
