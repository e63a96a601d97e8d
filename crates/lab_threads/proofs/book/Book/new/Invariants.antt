use Rattle.std.proofs.Common.{◌≡◌, ℕ, ◌<◌, length, slice_get, Some, None}
use Rattle.lab_threads.proofs.book.Book.new.Given as goal

abbrev pub invariant-loop : goal.invariant-loop
invariant-loop l = record {
  len : length l.waiting.items ≡ l.counter;
  none : (p : ℕ) → p < length l.waiting.items → slice_get l.waiting.items p ≡ Some None;
}
