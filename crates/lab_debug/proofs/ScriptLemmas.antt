-- How far a session has come in its script.
use Rattle.std.proofs.Common.{◌≡◌, ℕ, ◌-◌, ◌<◌, ◌≤◌, ◌==◌, nat_lt, List, [], ◌∷◌, ◌++◌, length, Option, Some, None, Bool, true, false, Result, Ok, Err, refl, sym, ap, ◌∙◌, append_assoc, append-nil, arith, if◌then◌else◌, IfSome}
use Rattle.std.specs.Prelude.{⊤}
use Rattle.std.specs.Option.{option_map}
use Rattle.std.specs.List.{onto_first}
use Rattle.std.proofs.lemmas.Bool.Decides.{nat_tests}
use Rattle.std.specs.Io.KnownBytes.{Appends, Keeps, prepend_known}
use Rattle.std.proofs.KnownBytes.{Appends-trans}
use Rattle.lab_io.specs.Device.{AppendsPrefix}
use Rattle.lab_io.proofs.Prefixes.{AppendsPrefix-after}
use Rattle.lab_debug.specs.declared.script.SessionFault.{SessionFault}
use Rattle.lab_debug.specs.declared.script.SessionFault.TheVariants.{TooManyLines}
use Rattle.lab_debug.specs.Lines.{lines, line_limit}
use Rattle.lab_debug.specs.Private.Reading.{TakesLine}
use Rattle.lab_debug.specs.Script.{Effect, Script, before, script_of, script, line_count_limit}

-- bytes begin a line
lines-some : (b : ℕ) (bs : List ℕ) → (first : List ℕ) × (more : List (List ℕ)) × (lines (b ∷ bs) ≡ first ∷ more)
lines-some b bs = some_line b (b == 10) (lines bs)
  where
    some_line : (b : ℕ) (feed : Bool) (ls : List (List ℕ)) → (first : List ℕ) × (more : List (List ℕ)) × ((if feed then [] ∷ ls else onto_first b ls) ≡ first ∷ more)
    some_line b true ls = ([], ls, refl)
    some_line b false [] = (b ∷ [], [], refl)
    some_line b false (l ∷ ls) = (b ∷ l, ls, refl)

module _ {W : Type 0} where
  -- what the session of a line's effect goes on with
  abbrev pub rest_of : (W → List ℕ → Effect W) → ℕ → Effect W → List (List ℕ) → Script W
  rest_of effect room e more = if e.ends then record { text = []; end = Ok e.world } else script_of effect (room - 1) e.world more

  -- the session has sent this text, and goes on here with what still comes
  abbrev pub IsReached : (W → List ℕ → Effect W) → W → Option (List ℕ) → Option (List ℕ) → List ℕ → ℕ → W → Type 0
  IsReached effect first None now sent room world = ⊤
  IsReached effect first (Some bytes) None sent room world = ⊥
  IsReached effect first (Some bytes) (Some rest) sent room world = script effect first bytes ≡ before sent (script_of effect room world (lines rest))

  -- the session is over
  abbrev pub IsOver : (W → List ℕ → Effect W) → W → Option (List ℕ) → List ℕ → Result W SessionFault → Type 0
  IsOver effect first start sent end = IfSome start (λ bytes. script effect first bytes ≡ record { text = sent; end = end })

  before-before : (a b : List ℕ) (s : Script W) → before a (before b s) ≡ before (a ++ b) s
  before-before a b s =
      let as_text : List ℕ → Script W = λ t. record { text = t; end = s.end } in
      ap as_text (sym (append_assoc a b s.text))

  before-nothing : (a : List ℕ) (end : Result W SessionFault) → before a (record { text = []; end = end }) ≡ record { text = a; end = end }
  before-nothing a end =
      let as_text : List ℕ → Script W = λ t. record { text = t; end = end } in
      ap as_text (append-nil a)

  script_of-line : (effect : W → List ℕ → Effect W) (room : ℕ) (world : W) (line : List ℕ) (more : List (List ℕ)) → 0 < room → length line ≤ line_limit
      → script_of effect room world (line ∷ more) ≡ before (effect world line).text (rest_of effect room (effect world line) more)
  script_of-line effect room world line more some short =
      let open_ : (room == 0) ≡ false = grind (arith, nat_tests, some) in
      let fits : nat_lt line_limit (length line) ≡ false = grind (arith, nat_tests, short) in
      rw (open_, fits) refl

  -- a line that was taken, by its effect
  IsReached-line : (effect : W → List ℕ → Effect W) (first : W) (bytes rest after sent : List ℕ) (room : ℕ) (world : W) (line : List ℕ) (e : Effect W)
      → e ≡ effect world line → 0 < room → length line ≤ line_limit
      → script effect first bytes ≡ before sent (script_of effect room world (lines rest)) → lines rest ≡ line ∷ lines after
      → script effect first bytes ≡ before (sent ++ e.text) (rest_of effect room e (lines after))
  IsReached-line effect first bytes rest after sent room world line e is some short reached cut =
      let here : Effect W → Script W = λ x. before x.text (rest_of effect room x (lines after)) in
      reached ∙ ap (λ l. before sent (script_of effect room world l)) cut
      ∙ ap (before sent) (script_of-line effect room world line (lines after) some short ∙ ap here (sym is))
      ∙ before-before sent e.text (rest_of effect room e (lines after))

  pub IsReached-start : (effect : W → List ℕ → Effect W) (first : W) (known : Option (List ℕ)) (left : List ℕ) → left ≡ []
      → IsReached effect first known (prepend_known left known) [] line_count_limit first
  unfolding script
  IsReached-start effect first None left none = tt
  IsReached-start effect first (Some bytes) left none = ap (λ l. script_of effect line_count_limit first (lines (l ++ bytes))) (sym none)

  pub IsReached-more : (effect : W → List ℕ → Effect W) (first : W) (start now next : Option (List ℕ)) (sent : List ℕ) (room : ℕ) (world : W) (line : List ℕ) (e : Effect W)
      → e ≡ effect world line → e.ends ≡ false → 0 < room → length line ≤ line_limit
      → IsReached effect first start now sent room world → TakesLine now next (Some line) → IsReached effect first start next (sent ++ e.text) (room - 1) e.world
  IsReached-more effect first None now next sent room world line e is on some short r t = tt
  IsReached-more effect first (Some bytes) None next sent room world line e is on some short r t = absurd r
  IsReached-more effect first (Some bytes) (Some rest) None sent room world line e is on some short r t = absurd t
  IsReached-more effect first (Some bytes) (Some rest) (Some after) sent room world line e is on some short r t =
      let goes_on : rest_of effect room e (lines after) ≡ script_of effect (room - 1) e.world (lines after) = rw on refl in
      IsReached-line effect first bytes rest after sent room world line e is some short r t ∙ ap (before (sent ++ e.text)) goes_on

  -- a line too many comes
  pub IsReached-many : (effect : W → List ℕ → Effect W) (first : W) (start now known : Option (List ℕ)) (left sent : List ℕ) (room : ℕ) (world : W)
      → room ≡ 0 → IsReached effect first start now sent room world → Keeps now (prepend_known left known) → (left ≡ [] → ⊥)
      → IsOver effect first start sent (Err TooManyLines)
  IsReached-many effect first None now known left sent room world full r k some = tt
  IsReached-many effect first (Some bytes) None known left sent room world full r k some = absurd r
  IsReached-many effect first (Some bytes) (Some rest) None left sent room world full r k some = absurd k
  IsReached-many effect first (Some bytes) (Some rest) (Some more) [] sent room world full r k some = absurd (some refl)
  IsReached-many effect first (Some bytes) (Some rest) (Some more) (b ∷ left) sent room world full r k some =
      let line = lines-some b (left ++ more) in
      let closed : (room == 0) ≡ true = grind (arith, nat_tests, full) in
      let stops : script_of effect room world (line.0 ∷ line.1) ≡ record { text = []; end = Err TooManyLines } = rw closed refl in
      r ∙ ap (λ l. before sent (script_of effect room world (lines l))) (sym k) ∙ ap (λ l. before sent (script_of effect room world l)) line.2
      ∙ ap (before sent) stops ∙ before-nothing sent (Err TooManyLines)

  pub IsOver-fault : (effect : W → List ℕ → Effect W) (first : W) (start : Option (List ℕ)) (sent : List ℕ) (end : Result W SessionFault)
      → IsOver effect first start sent end → IfSome (option_map (script effect first) start) (λ s. s.end ≡ end)
  IsOver-fault effect first None sent end over = tt
  IsOver-fault effect first (Some bytes) sent end over = ap (λ s. s.end) over

  -- a line ends the session
  pub IsReached-ends : (effect : W → List ℕ → Effect W) (first : W) (start now next old mid new : Option (List ℕ)) (sent : List ℕ) (room : ℕ) (world : W) (line : List ℕ) (e : Effect W)
      → e ≡ effect world line → e.ends ≡ true → 0 < room → length line ≤ line_limit
      → IsReached effect first start now sent room world → TakesLine now next (Some line) → Appends old mid sent → Appends mid new e.text
      → IfSome start (λ bytes. Appends old new (script effect first bytes).text)
  IsReached-ends effect first None now next old mid new sent room world line e is off some short r t a b = tt
  IsReached-ends effect first (Some bytes) None next old mid new sent room world line e is off some short r t a b = absurd r
  IsReached-ends effect first (Some bytes) (Some rest) None old mid new sent room world line e is off some short r t a b = absurd t
  IsReached-ends effect first (Some bytes) (Some rest) (Some after) old mid new sent room world line e is off some short r t a b =
      let over : rest_of effect room e (lines after) ≡ record { text = []; end = Ok e.world } = rw off refl in
      let whole = IsReached-line effect first bytes rest after sent room world line e is some short r t in
      let all : (script effect first bytes).text ≡ sent ++ e.text = ap (λ s. s.text) (whole ∙ ap (before (sent ++ e.text)) over ∙ before-nothing (sent ++ e.text) (Ok e.world)) in
      rw all (Appends-trans old mid new sent e.text a b)

  -- and so is that with a beginning of the next line's text
  pub IsReached-part : (effect : W → List ℕ → Effect W) (first : W) (start now next old mid new : Option (List ℕ)) (sent : List ℕ) (room : ℕ) (world : W) (line : List ℕ) (e : Effect W)
      → e ≡ effect world line → 0 < room → length line ≤ line_limit
      → IsReached effect first start now sent room world → TakesLine now next (Some line) → Appends old mid sent → AppendsPrefix mid new e.text
      → IfSome start (λ bytes. AppendsPrefix old new (script effect first bytes).text)
  IsReached-part effect first None now next old mid new sent room world line e is some short r t a part = tt
  IsReached-part effect first (Some bytes) None next old mid new sent room world line e is some short r t a part = absurd r
  IsReached-part effect first (Some bytes) (Some rest) None old mid new sent room world line e is some short r t a part = absurd t
  IsReached-part effect first (Some bytes) (Some rest) (Some after) old mid new sent room world line e is some short r t a part =
      let whole = IsReached-line effect first bytes rest after sent room world line e is some short r t in
      let more = rest_of effect room e (lines after) in
      AppendsPrefix-after old mid new sent e.text more.text _ a part (ap (λ s. s.text) whole ∙ append_assoc sent e.text more.text)
