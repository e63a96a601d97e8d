use Rattle.std.proofs.Common.{◌≡◌, ℕ, List, length, take, ◌<◌, ◌≤◌, rules}
use Rattle.ipc_objects.specs.Limits.{few_words}

room : (words : List ℕ) (count : ℕ) (shown : List ℕ) → count ≤ length words → take count words ≡ shown → length shown < few_words → count < few_words
room words count shown few is below = search rules
