-- The names and the texts of warnings.
use Rattle.std.specs.Prelude.{ℕ, List, ◌++◌, codes}
use Rattle.std.specs.Fmt.{decimal}
use Rattle.lc3_word.specs.Words.{number_text, hexadecimal_text}
use Rattle.lc3_table.specs.Text.{trap_text}
use Rattle.lc3_table.specs.declared.operation.Form.{Form}
use Rattle.lc3_table.specs.declared.operation.Form.TheVariants as form
use Rattle.lc3_warnings.specs.declared.texts.Kind.{Kind}
use Rattle.lc3_warnings.specs.declared.texts.Kind.TheVariants as kind

-- the name of a warning
abbrev pub warning_name : Kind → List ℕ
warning_name (kind.Wraps f value) = codes "wraps"
warning_name kind.UnknownTrap = codes "unknown-trap"
warning_name (kind.DecimalOrigin n) = codes "decimal-origin"
warning_name kind.Misspelt = codes "misspelt"
warning_name (kind.CallName n) = codes "call-name"
warning_name kind.UnusedLabel = codes "unused-label"
warning_name kind.StartsInData = codes "starts-in-data"
warning_name (kind.RunsIntoData n) = codes "runs-into-data"
warning_name kind.RunsPastEnd = codes "runs-past-end"
warning_name kind.FallsInto = codes "falls-into"
warning_name (kind.LostReturn n) = codes "r7"
warning_name (kind.StaleCodes n) = codes "stale-codes"
warning_name (kind.LoadedString n) = codes "loaded-string"
warning_name (kind.AfterEnd n) = codes "after-end"

-- the numbers of a signed field, which stands as an operand of this form
abbrev pub field_text : Form → List ℕ
field_text form.RegisterOrImmediate = codes "a number from -16 to 15"
field_text form.Offset = codes "a number from -32 to 31"
field_text form.Target = codes "a number from -256 to 255"
field_text form.FarTarget = codes "a number from -1,024 to 1,023"
field_text f = codes "a number"

-- the text of a warning about a word
abbrev pub warning_text : Kind → List ℕ → List ℕ
warning_text (kind.Wraps f value) word = word ++ codes " is taken as " ++ number_text value ++ codes "; expected " ++ field_text f
warning_text kind.UnknownTrap word = codes "this trap ends the process as badtrap; the traps are x20 to x25, x40 to x46 and x50 to x56"
warning_text (kind.DecimalOrigin n) word =
    word ++ codes " is decimal, the address " ++ hexadecimal_text n ++ codes "; did you mean x" ++ decimal n ++ codes "?"
warning_text kind.Misspelt word = word ++ codes " is read as a label"
warning_text (kind.CallName n) word = word ++ codes " is read as a label; the call is " ++ trap_text n
warning_text kind.UnusedLabel word = codes "no line names the label " ++ word
warning_text kind.StartsInData word = codes "execution begins here, and this is data"
warning_text (kind.RunsIntoData n) word = codes "execution goes on into the data of line " ++ decimal n ++ codes "; is a HALT missing?"
warning_text kind.RunsPastEnd word = codes "execution goes on after this last word; is a HALT missing?"
warning_text kind.FallsInto word = codes "execution goes on from above into the subroutine " ++ word ++ codes "; is a RET or a HALT missing?"
warning_text (kind.LostReturn n) word =
    word ++ codes " in line " ++ decimal n ++ codes " has written R7, so this goes back to just after it; store R7 before it and load it again"
warning_text (kind.StaleCodes n) word =
    word ++ codes " in line " ++ decimal n
    ++ codes " sets no condition codes, so this reads those from before it; ADD R0,R0,#0 between them sets them by R0"
warning_text (kind.LoadedString n) word =
    word ++ codes " loads a word into R0, and line " ++ decimal n
    ++ codes " prints the string at the address in R0; LEA loads the address of a string"
warning_text (kind.AfterEnd n) word = codes "nothing after the .END of line " ++ decimal n ++ codes " is read"
