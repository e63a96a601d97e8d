-- Flags by their names in POSIX.1-2017, <fcntl.h>.
use Rattle.std.specs.Prelude.{ℕ, ◌+◌, ◌-◌, ◌==◌, Bool, true, false, if◌then◌else◌, List, [], ◌++◌, codes, bit_and}
use Rattle.ipc_names.specs.Flags.{has_flag, o_accmode, o_creat, o_excl, o_nonblock, unnamed_flags}
use Rattle.lc3_word.specs.Words.{hexadecimal_text}

-- what stands between two flags
abbrev pub bar : Bool → List ℕ
bar true = codes "|"
bar false = []

-- a flag where it is set; `begun` says whether another stands before it
unfoldable pub flag_part : Bool → ℕ → List ℕ → ℕ → List ℕ
flag_part begun flag name w = if has_flag flag w then bar begun ++ name else []

-- the bits of a word that have no name, as one word, where there are any
unfoldable pub rest_part : Bool → ℕ → ℕ → List ℕ
rest_part begun unnamed w = if has_flag unnamed w then bar begun ++ hexadecimal_text (bit_and w unnamed) else []

-- the access that bits 1 and 0 ask for
abbrev pub access_text : ℕ → List ℕ
access_text access =
    if access == 0 then codes "O_RDONLY" else
    if access == 1 then codes "O_WRONLY" else
    if access == 2 then codes "O_RDWR" else codes "x0003"

-- the flags of mq_open
unfoldable pub mq_flags : ℕ → List ℕ
mq_flags w =
    access_text (bit_and w o_accmode) ++ flag_part true o_creat (codes "O_CREAT") w ++ flag_part true o_excl (codes "O_EXCL") w
    ++ flag_part true o_nonblock (codes "O_NONBLOCK") w ++ rest_part true unnamed_flags w

-- the flags of sem_open
unfoldable pub sem_flags : ℕ → List ℕ
sem_flags w =
    if w == 0 then codes "0" else
    flag_part false o_creat (codes "O_CREAT") w ++ flag_part (has_flag o_creat w) o_excl (codes "O_EXCL") w ++ rest_part (has_flag (o_creat + o_excl) w) (0xffff - (o_creat + o_excl)) w

-- mq_flags of the attributes of a queue
unfoldable pub flag_word : ℕ → List ℕ
flag_word w = if w == 0 then codes "0" else flag_part false o_nonblock (codes "O_NONBLOCK") w ++ rest_part (has_flag o_nonblock w) (0xffff - o_nonblock) w
