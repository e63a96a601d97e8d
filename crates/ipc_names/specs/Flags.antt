-- The flags of mq_open and sem_open (POSIX.1-2017, fcntl.h), with the numbers that they have on Linux.
use Rattle.std.specs.Prelude.{ℕ, ◌+◌, ◌-◌, ◌==◌, Bool, not, ◌||◌, Result, Ok, Err, bit_and, if◌then◌else◌}
use Rattle.ipc_names.specs.declared.errno.Errno.{Errno}
use Rattle.ipc_names.specs.declared.errno.Errno.TheVariants.{Invalid}
use Rattle.ipc_names.specs.declared.flags.Flags.{Flags}

-- the bits of the access: 0 to receive (O_RDONLY), 1 to send (O_WRONLY), 2 for both (O_RDWR)
abbrev pub o_accmode : ℕ
o_accmode = 3

-- an object is made where none has the name
abbrev pub o_creat : ℕ
o_creat = 0x40

-- with O_CREAT, an object that has the name is refused
abbrev pub o_excl : ℕ
o_excl = 0x80

-- a call that would wait is refused
abbrev pub o_nonblock : ℕ
o_nonblock = 0x800

-- the bits of mq_open's flags that have no name
abbrev pub unnamed_flags : ℕ
unnamed_flags = 0xffff - (o_accmode + o_creat + o_excl + o_nonblock)

-- whether a word has a one in some of these bits
abbrev pub has_flag : ℕ → ℕ → Bool
has_flag flag word = not (bit_and word flag == 0)

-- the flags of a word: the access is one of three, and there are no others
abbrev pub flags_read : ℕ → Result Flags Errno
flags_read word =
    if has_flag unnamed_flags word || bit_and word o_accmode == 3 then Err Invalid
    else Ok (record { access = bit_and word o_accmode; create = has_flag o_creat word; excl = has_flag o_excl word; nonblock = has_flag o_nonblock word })
