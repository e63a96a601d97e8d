-- The words that name programs.
use Rattle.std.specs.Prelude.{ℕ, ◌==◌, Bool, List, codes, bytes_eq}
use Rattle.std.specs.List.{before_first, after_first}

-- the file that a word names: what stands before its first `=`
abbrev pub file_of : List ℕ → List ℕ
file_of word = before_first (λ c. c == 61) word

-- what stands behind its first `=`
abbrev pub input_of : List ℕ → List ℕ
input_of word = after_first (λ c. c == 61) word

-- standard input is the console input of the process: behind the first `=` stands `-` alone
abbrev pub takes_input : List ℕ → Bool
takes_input word = bytes_eq (input_of word) (codes "-")
