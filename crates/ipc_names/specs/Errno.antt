-- The errors of the calls.
use Rattle.std.specs.Prelude.{ℕ}
use Rattle.ipc_names.specs.declared.errno.Errno.{Errno}
use Rattle.ipc_names.specs.declared.errno.Errno.TheVariants.{NoEntry, BadDescriptor, Again, Fault, Exists, Invalid, TooManyOpen, NoSpace, NameTooLong, Overflow, MessageSize}

-- the number of an error, as on Linux
abbrev pub number_of : Errno → ℕ
number_of NoEntry = 2
number_of BadDescriptor = 9
number_of Again = 11
number_of Fault = 14
number_of Exists = 17
number_of Invalid = 22
number_of TooManyOpen = 24
number_of NoSpace = 28
number_of NameTooLong = 36
number_of Overflow = 75
number_of MessageSize = 90
