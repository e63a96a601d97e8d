-- Units of semaphores that are held, name by name.
use Rattle.std.proofs.Common.{ℕ, ◌≡◌, ◌+◌, ◌*◌, ◌/◌, ◌%◌, ◌==◌, ◌&&◌, true, false, List, [], ◌∷◌, length, refl, sym, ap, ◌∙◌, arith}
use Rattle.ipc_kernel.specs.declared.call.Call.{Call}
use Rattle.ipc_kernel.specs.Kernel.{KernelState}
use Rattle.lab_ways.specs.Wanted.{next_held, next_units, are_held}

pub none_held : (names : List (List ℕ)) (s : ℕ) → length names ≡ 0 → are_held names s ≡ true
unfolding are_held
none_held [] s none = refl
none_held (name ∷ names) s none = absurd (omega (arith, none))

pub first_held : (names rest : List (List ℕ)) {name : List ℕ} (s : ℕ) → names ≡ name ∷ rest → s % 2 ≡ 1 → are_held names s ≡ are_held rest (s / 2)
unfolding are_held
first_held names rest s cut odd = ap (λ ns. are_held ns s) cut ∙ ap (λ n. n == 1 && are_held rest (s / 2)) odd

pub first_unheld : (names rest : List (List ℕ)) {name : List ℕ} (s : ℕ) → names ≡ name ∷ rest → s % 2 ≡ 0 → are_held names s ≡ false
unfolding are_held
first_unheld names rest s cut even = ap (λ ns. are_held ns s) cut ∙ ap (λ n. n == 1 && are_held rest (s / 2)) even

pub no_units : (names : List (List ℕ)) (s : ℕ) (k : KernelState) (p : ℕ) (c : Call) → length names ≡ 0 → next_units names s k p c ≡ s
unfolding next_units
no_units [] s k p c none = refl
no_units (name ∷ names) s k p c none = absurd (omega (arith, none))

pub first_units : (names rest : List (List ℕ)) {name : List ℕ} (s : ℕ) (k : KernelState) (p : ℕ) (c : Call) (d r n : ℕ) → names ≡ name ∷ rest → n ≡ d + 2 * r
    → d ≡ next_held name (s % 2) k p c → r ≡ next_units rest (s / 2) k p c → n ≡ next_units names s k p c
unfolding next_units
first_units names rest {name} s k p c d r n cut is digit others =
    is ∙ ap (λ e. e + 2 * r) digit ∙ ap (λ m. next_held name (s % 2) k p c + 2 * m) others ∙ sym (ap (λ ns. next_units ns s k p c) cut)
