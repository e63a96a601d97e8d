-- The calls of the kernel, by their names.
use Rattle.std.specs.Prelude.{ℕ, bytes_eq, codes, Option, Some, None, List, if◌then◌else◌}

-- the vector of the call with this name in capital letters, if there is one
abbrev pub call_named : List ℕ → Option ℕ
call_named name =
    if bytes_eq name (codes "MQ_OPEN") then Some 0x40 else
    if bytes_eq name (codes "MQ_CLOSE") then Some 0x41 else
    if bytes_eq name (codes "MQ_UNLINK") then Some 0x42 else
    if bytes_eq name (codes "MQ_SEND") then Some 0x43 else
    if bytes_eq name (codes "MQ_RECEIVE") then Some 0x44 else
    if bytes_eq name (codes "MQ_GETATTR") then Some 0x45 else
    if bytes_eq name (codes "MQ_SETATTR") then Some 0x46 else
    if bytes_eq name (codes "SEM_OPEN") then Some 0x50 else
    if bytes_eq name (codes "SEM_CLOSE") then Some 0x51 else
    if bytes_eq name (codes "SEM_UNLINK") then Some 0x52 else
    if bytes_eq name (codes "SEM_WAIT") then Some 0x53 else
    if bytes_eq name (codes "SEM_TRYWAIT") then Some 0x54 else
    if bytes_eq name (codes "SEM_POST") then Some 0x55 else
    if bytes_eq name (codes "SEM_GETVALUE") then Some 0x56 else
    None
