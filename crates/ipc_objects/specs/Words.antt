-- Lists of words, wherever the words are kept.
use Rattle.std.specs.Prelude.{ℕ, List}
use Rattle.std.specs.Arc.{arc_slice_items}
use Rattle.ipc_objects.specs.declared.words.Store.{Store}
use Rattle.ipc_objects.specs.declared.words.Store.TheVariants.{Few, Shared}

-- the words of a store
abbrev pub words_of_store : Store → List ℕ
words_of_store (Few words) = words
words_of_store (Shared words) = arc_slice_items words
