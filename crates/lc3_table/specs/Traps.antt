-- The traps, by their vectors. Those of the console are in Patt and Patel, 2nd edition, table A.2.
use Rattle.std.specs.Prelude.{ℕ, Bool, ◌&&◌, ◌||◌, ◌==◌, nat_le, if◌then◌else◌, Option, Some, None}
use Rattle.lc3_table.specs.declared.trap.ConsoleTrap.{ConsoleTrap}
use Rattle.lc3_table.specs.declared.trap.ConsoleTrap.TheVariants.{Getc, Out, Puts, In, Putsp, Halt}

-- the vector of a console trap
abbrev pub console_vector : ConsoleTrap → ℕ
console_vector Getc = 0x20
console_vector Out = 0x21
console_vector Puts = 0x22
console_vector In = 0x23
console_vector Putsp = 0x24
console_vector Halt = 0x25

-- the console trap with this vector
abbrev pub console_trap : ℕ → Option ConsoleTrap
console_trap v =
    if v == console_vector Getc then Some Getc
    else (if v == console_vector Out then Some Out
    else (if v == console_vector Puts then Some Puts
    else (if v == console_vector In then Some In
    else (if v == console_vector Putsp then Some Putsp
    else (if v == console_vector Halt then Some Halt
    else None)))))

-- whether a vector is that of a call of the kernel: x40 to x46 for queues, x50 to x56 for semaphores
abbrev pub is_kernel_vector : ℕ → Bool
is_kernel_vector v = (nat_le 0x40 v && nat_le v 0x46) || (nat_le 0x50 v && nat_le v 0x56)
