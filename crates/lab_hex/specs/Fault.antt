-- When a fault of a run over hexadecimal words comes.
use Rattle.std.specs.Prelude.{◌≡◌, ℕ, ◌<◌, Bool, List, length, Option, IfSome, Err, IsTrue, ⊤}
use Rattle.lab_hex.specs.Hex.{image_of}
use Rattle.lab_hex.specs.declared.run.CliFault.{CliFault}
use Rattle.lab_hex.specs.declared.run.CliFault.TheVariants.{TooLarge, Read, Write, NoMemory}

-- the fault fits the text that came, where it is known, and whether the input and the output failed
abbrev pub Explains : CliFault → Option (List ℕ) → Bool → Bool → Type 0
Explains TooLarge text read write = IfSome text (λ bytes. 4000000 < length bytes)
Explains Read text read write = IsTrue read
Explains Write text read write = IsTrue write
Explains NoMemory text read write = ⊤
Explains fault text read write = IfSome text (λ bytes. image_of bytes ≡ Err fault)

-- the fault of reading a whole input fits the bytes that came, where they are known, and whether it failed
abbrev pub Stops : CliFault → Option (List ℕ) → Bool → Type 0
Stops TooLarge text read = IfSome text (λ bytes. 4000000 < length bytes)
Stops Read text read = IsTrue read
Stops NoMemory text read = ⊤
Stops fault text read = ⊥
