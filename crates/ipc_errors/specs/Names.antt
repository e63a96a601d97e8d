-- The errors of the calls by their names (POSIX.1-2017, <errno.h>).
use Rattle.std.specs.Prelude.{ℕ, Bool, Option, List, [], ◌∷◌, codes, find}
use Rattle.std.specs.Str.{bytes_eq}
use Rattle.ipc_names.specs.declared.errno.Errno.{Errno}
use Rattle.ipc_names.specs.declared.errno.Errno.TheVariants.{NoEntry, BadDescriptor, Again, Fault, Exists, Invalid, TooManyOpen, NoSpace, NameTooLong, Overflow, MessageSize}

-- the name of an error
abbrev pub error_name : Errno → List ℕ
error_name NoEntry = codes "ENOENT"
error_name BadDescriptor = codes "EBADF"
error_name Again = codes "EAGAIN"
error_name Fault = codes "EFAULT"
error_name Exists = codes "EEXIST"
error_name Invalid = codes "EINVAL"
error_name TooManyOpen = codes "EMFILE"
error_name NoSpace = codes "ENOSPC"
error_name NameTooLong = codes "ENAMETOOLONG"
error_name Overflow = codes "EOVERFLOW"
error_name MessageSize = codes "EMSGSIZE"

-- each error
abbrev pub errors : List Errno
errors =
    NoEntry ∷ BadDescriptor ∷ Again ∷ Fault ∷ Exists ∷ Invalid ∷ TooManyOpen ∷ NoSpace ∷ NameTooLong ∷ Overflow
    ∷ MessageSize ∷ []

-- whether a word is the name of an error
unfoldable pub is_name : List ℕ → Errno → Bool
is_name word e = bytes_eq (error_name e) word

-- the error that a word names
abbrev pub error_named : List ℕ → Option Errno
error_named word = find (is_name word) errors
