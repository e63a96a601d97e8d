-- Why a call was refused, in words that name the argument.
use Rattle.std.specs.Prelude.{ℕ, Bool, true, not, ◌==◌, ◌&&◌, if◌then◌else◌, List, [], ◌++◌, codes}
use Rattle.std.specs.Fmt.{decimal}
use Rattle.lc3_word.specs.Words.{hexadecimal_text}
use Rattle.ipc_names.specs.Flags.{has_flag, o_creat}
use Rattle.ipc_traps.specs.Names.{is_in_memory}
use Rattle.ipc_traps.specs.Services.{is_on_queues}
use Rattle.ipc_traps.specs.declared.service.Service.{Service}
use Rattle.ipc_traps.specs.declared.service.Service.TheVariants.{MqOpen, MqSend, MqReceive, MqGetattr, MqSetattr, SemOpen, SemGetvalue}
use Rattle.ipc_names.specs.declared.errno.Errno.{Errno}
use Rattle.ipc_names.specs.declared.errno.Errno.TheVariants.{NoEntry, BadDescriptor, Again, Fault, Exists, Invalid, TooManyOpen, NoSpace, NameTooLong, Overflow, MessageSize}
use Rattle.lab_notes.specs.declared.rows.Refusal.{Refusal}
use Rattle.lab_notes.specs.declared.rows.Registers.{Registers}

-- what a call is on
abbrev pub kind_of : Service → List ℕ
kind_of s = if is_on_queues s then codes "queue" else codes "semaphore"

-- several words of memory that reach the devices
abbrev pub words_text : ℕ → ℕ → List ℕ
words_text at count = decimal count ++ (codes " words from " ++ (hexadecimal_text at ++ codes " on reach xFE00"))

-- a word of memory that is none
abbrev pub word_text : ℕ → List ℕ
word_text at = hexadecimal_text at ++ codes " is no address of memory"

-- a range of memory that reaches the devices
abbrev pub range_text : ℕ → ℕ → List ℕ
range_text at count = if count == 1 then word_text at else words_text at count

-- that a name, which is shown so, reaches the devices
abbrev pub long_name_text : List ℕ → List ℕ
long_name_text object = codes "the name at " ++ object ++ codes " reaches xFE00"

-- whether mq_open is given attributes
abbrev pub has_attributes : Registers → Bool
has_attributes r = has_flag o_creat r.r1 && not (r.r2 == 0)

-- which range of mq_open, whose name is shown so, reaches the devices
abbrev pub open_range_text : Registers → List ℕ → List ℕ
open_range_text r object =
    if has_attributes r && not (is_in_memory r.r2 4) then range_text r.r2 4
    else long_name_text object

-- which range of memory reaches the devices
abbrev pub fault_text : Service → Registers → List ℕ → List ℕ
fault_text MqSend r object = range_text r.r1 r.r2
fault_text MqReceive r object = if is_in_memory r.r1 r.r2 then range_text r.r3 1 else range_text r.r1 r.r2
fault_text MqGetattr r object = range_text r.r1 4
fault_text MqSetattr r object = if is_in_memory r.r1 4 then range_text r.r2 4 else range_text r.r1 4
fault_text SemGetvalue r object = range_text r.r1 1
fault_text MqOpen r object = open_range_text r object
fault_text other r object = long_name_text object

-- what is wrong with a descriptor: it may be open without the access that the call needs
abbrev pub descriptor_fault : Service → Bool → List ℕ
descriptor_fault MqSend true = codes "is not open to send"
descriptor_fault MqReceive true = codes "is not open to receive"
descriptor_fault other is_open = codes "is no descriptor"

-- what is wrong where too many are open
abbrev pub open_fault : Service → List ℕ
open_fault s = if is_on_queues s then codes "no descriptor is free" else codes "no slot, or no open of it, is free"

-- what is wrong with a length
abbrev pub size_fault : Service → List ℕ
size_fault MqReceive = codes "the buffer is too short"
size_fault other = codes "the message is too long"

-- that the flags of an open have no O_CREAT, with which it makes what isn't there
abbrev pub no_create_text : Service → ℕ → List ℕ
no_create_text MqOpen flags = codes ", and the flags " ++ hexadecimal_text flags ++ codes " have no O_CREAT, x40"
no_create_text SemOpen flags = codes ", and the flags " ++ hexadecimal_text flags ++ codes " have no O_CREAT, x40"
no_create_text other flags = []

-- why a call was refused, but for EINVAL
abbrev pub fault_of : Errno → Refusal → List ℕ
fault_of NoEntry r = codes "no " ++ kind_of r.service ++ codes " is called " ++ r.object ++ no_create_text r.service r.registers.r1
fault_of BadDescriptor r = r.object ++ codes " " ++ descriptor_fault r.service r.is_open
fault_of Again r = codes "it would have to wait"
fault_of Fault r = fault_text r.service r.registers r.object
fault_of Exists r = codes "a " ++ kind_of r.service ++ codes " is called " ++ r.object
fault_of Invalid r = []
fault_of TooManyOpen r = open_fault r.service
fault_of NoSpace r = codes "no place for objects is free"
fault_of NameTooLong r = codes "the name at " ++ r.object ++ codes " has more than 255 characters"
fault_of Overflow r = r.object ++ codes " has its greatest value"
fault_of MessageSize r = codes "length " ++ decimal r.registers.r2 ++ codes ": " ++ size_fault r.service

abbrev pub why_text : Refusal → List ℕ
why_text r = fault_of r.error r
