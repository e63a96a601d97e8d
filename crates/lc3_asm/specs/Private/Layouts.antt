-- The words of lines, one after another.
use Rattle.std.specs.Prelude.{ℕ, ◌≡◌, List, Result, Ok, Err}
use Rattle.std.specs.declared.vec.Vec.{Vec}
use Rattle.lc3_asm.specs.Texts.{LineWords, At, words_of, rows_of, IsFault}
use Rattle.lc3_asm.specs.declared.assembled.Row.{Row}
use Rattle.lc3_asm.specs.declared.passes.AsmFault.{AsmFault}

-- lines have words, all these together, and these rows
abbrev pub AreLaid : List ℕ → List Row → Result (List LineWords) At → Type 0
AreLaid words rows (Ok made) = (words ≡ words_of made) × (rows ≡ rows_of made)
AreLaid words rows (Err e) = ⊥

-- what the definition gives; of want of memory nothing is said
abbrev pub Lays : {Y Z : Type 0} → Result (Vec ℕ Y × Vec Row Z) AsmFault → Result (List LineWords) At → Type 0
Lays (Ok laid) made = AreLaid laid.0.items laid.1.items made
Lays (Err e) made = IsFault e made
