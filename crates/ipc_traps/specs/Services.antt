-- The calls of the kernel, by the vectors of their traps and by the names that POSIX.1-2017 gives them.
use Rattle.std.specs.Prelude.{ℕ, ◌==◌, Bool, true, false, if◌then◌else◌, Option, Some, None, List, codes}
use Rattle.ipc_traps.specs.declared.service.Service.{Service}
use Rattle.ipc_traps.specs.declared.service.Service.TheVariants.{MqOpen, MqClose, MqUnlink, MqSend, MqReceive, MqGetattr, MqSetattr, SemOpen, SemClose, SemUnlink, SemWait, SemTrywait, SemPost, SemGetvalue}

-- the call with this vector
unfoldable pub service_in : ℕ → Option Service
service_in v =
    if v == 0x40 then Some MqOpen else
    if v == 0x41 then Some MqClose else
    if v == 0x42 then Some MqUnlink else
    if v == 0x43 then Some MqSend else
    if v == 0x44 then Some MqReceive else
    if v == 0x45 then Some MqGetattr else
    if v == 0x46 then Some MqSetattr else
    if v == 0x50 then Some SemOpen else
    if v == 0x51 then Some SemClose else
    if v == 0x52 then Some SemUnlink else
    if v == 0x53 then Some SemWait else
    if v == 0x54 then Some SemTrywait else
    if v == 0x55 then Some SemPost else
    if v == 0x56 then Some SemGetvalue else
    None

-- the name of a call
abbrev pub service_name : Service → List ℕ
service_name MqOpen = codes "mq_open"
service_name MqClose = codes "mq_close"
service_name MqUnlink = codes "mq_unlink"
service_name MqSend = codes "mq_send"
service_name MqReceive = codes "mq_receive"
service_name MqGetattr = codes "mq_getattr"
service_name MqSetattr = codes "mq_setattr"
service_name SemOpen = codes "sem_open"
service_name SemClose = codes "sem_close"
service_name SemUnlink = codes "sem_unlink"
service_name SemWait = codes "sem_wait"
service_name SemTrywait = codes "sem_trywait"
service_name SemPost = codes "sem_post"
service_name SemGetvalue = codes "sem_getvalue"

-- whether a call is on message queues, and not on semaphores
abbrev pub is_on_queues : Service → Bool
is_on_queues MqOpen = true
is_on_queues MqClose = true
is_on_queues MqUnlink = true
is_on_queues MqSend = true
is_on_queues MqReceive = true
is_on_queues MqGetattr = true
is_on_queues MqSetattr = true
is_on_queues other = false

-- whether a call opens an object
abbrev pub is_open : Service → Bool
is_open MqOpen = true
is_open SemOpen = true
is_open other = false

-- whether a call names its object in memory, and not by a descriptor or a slot
abbrev pub is_by_name : Service → Bool
is_by_name MqOpen = true
is_by_name MqUnlink = true
is_by_name SemOpen = true
is_by_name SemUnlink = true
is_by_name other = false

-- whether a call can change the messages of a queue or the value of a semaphore that is open
abbrev pub is_on_level : Service → Bool
is_on_level MqSend = true
is_on_level MqReceive = true
is_on_level SemWait = true
is_on_level SemTrywait = true
is_on_level SemPost = true
is_on_level other = false
