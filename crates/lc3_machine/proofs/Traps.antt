-- The traps that the machine hands to the kernel.
use Rattle.std.proofs.Common.{◌≡◌, ℕ, refl}
use Rattle.lc3_table.specs.Traps.{is_kernel_vector}
use Rattle.lc3_machine.specs.Effects.{is_kernel_trap}

-- they are those whose vectors are the kernel's in the table of traps
pub same_kernel_traps : (v : ℕ) → is_kernel_vector v ≡ is_kernel_trap v
same_kernel_traps v = refl
