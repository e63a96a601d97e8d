-- Which methods ask about a document.
use Rattle.std.specs.Prelude.{ℕ, ◌||◌, ◌&&◌, Bool, List, codes, bytes_eq}

-- whether a method asks about a document, where hints may be asked for or not
unfoldable pub is_question : Bool → List ℕ → Bool
is_question hints method =
    bytes_eq method (codes "textDocument/hover") || (bytes_eq method (codes "textDocument/definition") || (bytes_eq method (codes "textDocument/references")
    || (bytes_eq method (codes "textDocument/documentHighlight") || (bytes_eq method (codes "textDocument/documentSymbol") || (bytes_eq method (codes "textDocument/prepareRename")
    || (bytes_eq method (codes "textDocument/rename") || (bytes_eq method (codes "textDocument/completion") || (bytes_eq method (codes "textDocument/codeAction")
    || (bytes_eq method (codes "textDocument/inlayHint") && hints)))))))))
