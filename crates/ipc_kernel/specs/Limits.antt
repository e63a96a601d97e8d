-- The limits of the kernel that POSIX.1-2017 leaves to the system. Those of queues and semaphores stand in ipc_objects.
use Rattle.std.specs.Prelude.{ℕ}

-- how many objects, queues and semaphores together, there can be
abbrev pub object_places : ℕ
object_places = 64

-- how many queues, and how many semaphores, a process can have open
abbrev pub open_max : ℕ
open_max = 16

-- how often a process can have a semaphore open
abbrev pub opens_max : ℕ
opens_max = 255

-- how many processes there can be
abbrev pub process_max : ℕ
process_max = 64
