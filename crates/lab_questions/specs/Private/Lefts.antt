-- Queues in which messages are left, with their lines.
use Rattle.std.specs.Prelude.{ℕ, ◌≡◌, List, map, string_bytes}
use Rattle.std.specs.List.{position_or_len}
use Rattle.std.specs.Option.{option_copied}
use Rattle.ipc_kernel.specs.declared.place.Place.{Place}
use Rattle.ipc_kernel.specs.declared.place.Place.TheVariants.{Mq}
use Rattle.ipc_kernel.specs.Kernel.{KernelState}
use Rattle.lab_questions.specs.declared.left.Left.{Left}
use Rattle.lab_questions.specs.Left.{left_lines, left_places}
use Rattle.lab_questions.specs.Orders.{comes_before}

-- how many stand before the first of the texts that this one comes before
abbrev pub place_for : List ℕ → List (List ℕ) → ℕ
place_for t texts = position_or_len (comes_before t) texts

-- a place with this queue
abbrev pub place_of : Left → Place
place_of l = Mq (option_copied l.name) l.queue.now

-- these are those of the first n places of a kernel in which messages are left, each with its lines
pub record AreLeft (k : KernelState) (n : ℕ) (lefts : List Left) : Type 0 where
  pub places : map place_of lefts ≡ left_places n k
  pub lines : map (λ l. string_bytes l.lines) lefts ≡ map left_lines (left_places n k)
