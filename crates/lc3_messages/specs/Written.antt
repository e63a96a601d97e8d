-- The report on a text, as it is written.
use Rattle.std.specs.Prelude.{ℕ, ◌≡◌, ◌-◌, ◌==◌, ◌||◌, nat_lt, if◌then◌else◌, List, [], ◌++◌, codes, decimal, length, take}
use Rattle.std.specs.List.{AllZip, concat}
use Rattle.lc3_table.specs.declared.profile.Profile.{Profile}
use Rattle.lc3_asm.specs.Texts.{lines}
use Rattle.lc3_asm.specs.Faults.{reading, faults_of}
use Rattle.lc3_messages.specs.Counts.{error_count, told_warnings}
use Rattle.lc3_messages.specs.Told.{Tells, most_told}
use Rattle.lc3_messages.specs.declared.source.Finding.{Finding}
use Rattle.lc3_messages.specs.declared.source.What.{What}
use Rattle.lc3_messages.specs.declared.source.What.TheVariants.{Fault, Warning}

-- a message: its place, what it is, its words and its name, and what stands below it
abbrev pub message_text : List ℕ → ℕ → ℕ → List ℕ → List ℕ → List ℕ → List ℕ → List ℕ
message_text file line column heading words name below =
    file ++ (codes ":" ++ (decimal line ++ (codes ":" ++ (decimal column ++ (codes ": " ++ (heading ++ (codes ": " ++ (words ++ (codes " [" ++ (name ++ (codes "]\n" ++ below)))))))))))

-- what a message about it is
abbrev pub heading_of : What → List ℕ
heading_of (Fault k) = codes "error"
heading_of (Warning w) = codes "warning"

-- these are a message about a line of a file
abbrev pub IsMessageOn : List ℕ → ℕ → List ℕ → List ℕ → Type 0
IsMessageOn file line heading bytes = (column : ℕ) × (words : List ℕ) × (name : List ℕ) × (below : List ℕ)
    × (bytes ≡ message_text file line column heading words name below)

-- these are a message about what was found in a file
abbrev pub IsMessage : List ℕ → Finding → List ℕ → Type 0
IsMessage file f bytes = IsMessageOn file f.line (heading_of f.what) bytes

-- these are a message about each of what was found, in order
abbrev pub AreMessages : List ℕ → List Finding → List ℕ → Type 0
AreMessages file found bytes = (each : List (List ℕ)) × AllZip (IsMessage file) found each × (bytes ≡ concat each)

-- how many there are of this name, if there are any
abbrev pub count_text : ℕ → List ℕ → List ℕ
count_text n name = if n == 0 then [] else if n == 1 then codes "1 " ++ name else decimal n ++ (codes " " ++ (name ++ codes "s"))

-- what stands between two such texts
abbrev pub comma : ℕ → ℕ → List ℕ
comma m n = if m == 0 || n == 0 then [] else codes ", "

-- how many messages are written of so many, if not all are
abbrev pub shown_text : ℕ → List ℕ
shown_text all = if nat_lt most_told all then codes " (" ++ (decimal most_told ++ (codes " of " ++ (decimal all ++ codes " are shown)"))) else []

-- the line behind so many messages, of which so many are about faults, if there are any
abbrev pub count_line : List ℕ → ℕ → ℕ → List ℕ
count_line file errors all =
    if all == 0 then [] else
    codes "lc3lab: " ++ (file ++ (codes ": " ++ (count_text errors (codes "error") ++ (comma errors (all - errors) ++ (count_text (all - errors) (codes "warning") ++ (shown_text all ++ codes "\n"))))))

-- these are a message about each of the first that were found, and the line behind them
abbrev pub AreReport : List ℕ → List Finding → List ℕ → Type 0
AreReport file found bytes = (messages : List ℕ) × AreMessages file (take most_told found) messages
    × (bytes ≡ messages ++ count_line file (error_count found) (length found))

-- these are the report on a text in a file, for this machine, where warnings of these names are left out
abbrev pub AreReportOn : Profile → List (List ℕ) → List ℕ → List ℕ → List ℕ → Type 0
AreReportOn profile names file text bytes = (found : List Finding)
    × Tells (faults_of (length (lines text)) (reading text)) (told_warnings profile names text) found
    × AreReport file found bytes

-- these are the report on bytes that are no text: one message
abbrev pub AreNoTextReport : List ℕ → List ℕ → Type 0
AreNoTextReport file bytes = (line : ℕ) × (message : List ℕ) × IsMessageOn file line (codes "error") message
    × (bytes ≡ message ++ count_line file 1 1)
