-- A call with its arguments, as POSIX.1-2017 writes them.
use Rattle.std.specs.Prelude.{ℕ, ◌+◌, ◌==◌, if◌then◌else◌, Option, Some, None, List, [], ◌++◌, codes, slice_index}
use Rattle.std.specs.Fmt.{decimal}
use Rattle.lc3_machine.specs.Process.{Process as Machine, reg}
use Rattle.ipc_names.specs.Flags.{has_flag, o_creat}
use Rattle.ipc_kernel.specs.Kernel.{KernelState}
use Rattle.ipc_traps.specs.Names.{is_in_memory, words_at}
use Rattle.lc3_word.specs.Words.{hexadecimal_text}
use Rattle.lab_told.specs.Attributes.{sizes_text, flags_text}
use Rattle.lab_told.specs.Words.{pointer_text, name_text, bare_name_text, message_text}
use Rattle.lab_told.specs.Flags.{mq_flags, sem_flags}
use Rattle.lab_told.specs.Objects.{held_place, object_or_number, handle_text}
use Rattle.ipc_traps.specs.Services.{is_by_name}
use Rattle.ipc_traps.specs.declared.service.Service.{Service}
use Rattle.ipc_traps.specs.declared.service.Service.TheVariants.{MqOpen, MqUnlink, MqSend, MqReceive, MqGetattr, MqSetattr, SemOpen, SemUnlink, SemGetvalue}

-- what stands between two arguments
abbrev pub comma : List ℕ
comma = codes ", "

-- the attributes for mq_open at an address, where their four words lie in memory
unfoldable pub attributes_asked : Machine → ℕ → List ℕ
attributes_asked m at =
    if at == 0 then codes "NULL" else
    if is_in_memory at 4 then sizes_text (slice_index m.memory (at + 1)) (slice_index m.memory (at + 2)) else
    hexadecimal_text at

-- mq_open: name, flags, and with O_CREAT the attributes
unfoldable pub mq_open_arguments : Machine → List ℕ
mq_open_arguments m =
    name_text m.memory (reg m 0) ++ comma ++ mq_flags (reg m 1)
    ++ (if has_flag o_creat (reg m 1) then comma ++ attributes_asked m (reg m 2) else [])

-- sem_open: name, flags, and with O_CREAT the value
unfoldable pub sem_open_arguments : Machine → List ℕ
sem_open_arguments m =
    name_text m.memory (reg m 0) ++ comma ++ sem_flags (reg m 1) ++ (if has_flag o_creat (reg m 1) then comma ++ decimal (reg m 2) else [])

-- the message in a buffer that lies in memory, else its address
unfoldable pub buffer_text : Machine → ℕ → ℕ → List ℕ
buffer_text m at len = if is_in_memory at len then message_text (words_at m.memory at len) else hexadecimal_text at

-- the new mq_flags, where the four words of the attributes lie in memory, else their address
unfoldable pub flags_asked : Machine → ℕ → List ℕ
flags_asked m at = if is_in_memory at 4 then flags_text (slice_index m.memory at) else hexadecimal_text at

-- what stands behind the descriptor or the slot
unfoldable pub further_arguments : Machine → Service → List ℕ
further_arguments m MqSend = comma ++ buffer_text m (reg m 1) (reg m 2) ++ comma ++ decimal (reg m 2) ++ comma ++ decimal (reg m 3)
further_arguments m MqReceive = comma ++ hexadecimal_text (reg m 1) ++ comma ++ decimal (reg m 2) ++ comma ++ pointer_text (reg m 3)
further_arguments m MqGetattr = comma ++ hexadecimal_text (reg m 1)
further_arguments m MqSetattr = comma ++ flags_asked m (reg m 1) ++ comma ++ pointer_text (reg m 2)
further_arguments m SemGetvalue = comma ++ hexadecimal_text (reg m 1)
further_arguments m other = []

-- the arguments of a call of process p
abbrev pub arguments : KernelState → ℕ → Machine → Service → List ℕ
arguments k p m MqOpen = mq_open_arguments m
arguments k p m SemOpen = sem_open_arguments m
arguments k p m MqUnlink = name_text m.memory (reg m 0)
arguments k p m SemUnlink = name_text m.memory (reg m 0)
arguments k p m s = handle_text k p s (reg m 0) ++ further_arguments m s

-- what a call of process p is on: its object by its name, or what stands for an object that isn't there
abbrev pub object_called : KernelState → ℕ → Machine → Service → List ℕ
object_called k p m s =
    if is_by_name s then bare_name_text m.memory (reg m 0) else object_or_number k (reg m 0) (held_place k p s (reg m 0))

-- the place of the object that a call of process p is on, where a descriptor or a slot stands for one
abbrev pub place_of : KernelState → ℕ → Machine → Service → Option ℕ
place_of k p m s = if is_by_name s then None else held_place k p s (reg m 0)

-- the words in a buffer that lies in memory
abbrev pub buffer_words : Machine → ℕ → ℕ → Option (List ℕ)
buffer_words m at len = if is_in_memory at len then Some (words_at m.memory at len) else None

-- the words that a call sends
abbrev pub sent_words : Machine → Service → Option (List ℕ)
sent_words m MqSend = buffer_words m (reg m 1) (reg m 2)
sent_words m other = None
