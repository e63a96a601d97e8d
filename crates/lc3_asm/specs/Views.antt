-- What the code's values say, in the words of the definition.
use Rattle.std.specs.Prelude.{ℕ, List, [], Option, Some, None, option_map, map, string_bytes}
use Rattle.std.specs.Borrow.{Bor}
use Rattle.lc3_table.specs.Statements.{Line, Blank, LabelAlone, Operates, Operand, Register, Number, Label, Characters}
use Rattle.lc3_table.specs.Tokens.{Token, Word, Quoted, Unclosed}
use Rattle.lc3_asm.specs.declared.line.Token.{Token as ReadToken}
use Rattle.lc3_asm.specs.declared.line.Token.TheVariants as tokens
use Rattle.lc3_asm.specs.declared.statement.Operand.{Operand as Read}
use Rattle.lc3_asm.specs.declared.statement.Operand.TheVariants as read
use Rattle.lc3_asm.specs.declared.line.Line.{Line as ReadLine}
use Rattle.lc3_asm.specs.declared.line.Line.TheVariants as lines
use Rattle.lc3_asm.specs.Texts.{lines as text_lines}

-- an operand, by what it holds
abbrev pub seen_operand : Read → Operand
seen_operand (read.Register r) = Register r
seen_operand (read.Number z) = Number z
seen_operand (read.Label name) = Label (string_bytes name)
seen_operand (read.Characters cs) = Characters cs.items

-- a line, by what it holds
abbrev pub seen_line : ReadLine → Line Operand
seen_line lines.Blank = Blank
seen_line (lines.LabelAlone name) = LabelAlone (string_bytes name)
seen_line (lines.Operates label o xs) = Operates (option_map string_bytes label) o (map seen_operand xs.items)

-- a token, by what it holds
abbrev pub token_of : ReadToken → Token
token_of (tokens.Word w) = Word w.now
token_of (tokens.Quoted s) = Quoted s.now
token_of tokens.Unclosed = Unclosed

-- the lines of what follows a line feed
abbrev pub lines_if : Option (Bor (List ℕ)) → List (List ℕ)
lines_if None = []
lines_if (Some text) = text_lines text.now
