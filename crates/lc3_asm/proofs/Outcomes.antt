-- What an `Ok` tells of the steps behind it.
use Rattle.std.proofs.Common.{◌≡◌, ℕ, Bool, true, false, Some, None, Option, rules}
use Rattle.std.specs.Prelude.{Result, Ok, Err, if◌then◌else◌}
use Rattle.lc3_table.specs.Statements.{unless, or_fault, option_or, ◌>>=◌}
use Rattle.lc3_table.specs.declared.operation.Fault.{Fault}
use Rattle.lc3_asm.specs.Texts.{at_line}

pub then-ok : {E A B : Type 0} (r : Result A E) (f : A → Result B E) (y : B) → (r >>= f) ≡ Ok y → (x : A) × (r ≡ Ok x) × (f x ≡ Ok y)
then-ok x f y e = search rules

pub unless-ok : {A : Type 0} (o : Option Fault) (r : Result A Fault) (x : A) → unless o r ≡ Ok x → (o ≡ None) × (r ≡ Ok x)
unless-ok y r x e = search rules

pub or_fault-ok : {A : Type 0} (o : Option A) (k : Fault) (x : A) → or_fault o k ≡ Ok x → o ≡ Some x
or_fault-ok y k x e = search rules

pub if-ok : {A : Type 0} (b : Bool) (r : Result A Fault) (x : A) (k : Fault) → (if b then r else Err k) ≡ Ok x → (b ≡ true) × (r ≡ Ok x)
if-ok y r x k e = search rules

pub at_line-ok : {A : Type 0} (n : ℕ) (r : Result A Fault) (x : A) → at_line n r ≡ Ok x → r ≡ Ok x
at_line-ok n y x e = search rules

-- the same value
abbrev SameOutcome : {E A : Type 0} → Result A E → Result A E → Type 0
SameOutcome r s = r ≡ s

pub ok-same : {E A : Type 0} (x y : A) → SameOutcome {E = E} (Ok x) (Ok y) → x ≡ y
ok-same x y e = cc

pub first_false : (b : Bool) (k : Fault) (o : Option Fault) → option_or (if b then Some k else None) o ≡ None → b ≡ false
first_false x k o e = search rules
