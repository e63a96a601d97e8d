-- A question about a text that is open.
use Rattle.std.proofs.Common.{◌≡◌, Bool, true, nat_lt, List, ℕ, Option, Some, length, sym, inr}
use Rattle.serde_json.specs.Data.{Data}
use Rattle.lab_server.specs.Edits.{uri_asked}
use Rattle.lab_server.specs.Documents.{text_of}
use Rattle.lab_server.specs.Sessions.{Session, AsksOf, Asks, document_limit}

pub asks_of : (known : Bool) (s : Session) (id : Data) (params : Option Data) (uri text : List ℕ) (r : Data) → known ≡ true → Some uri ≡ uri_asked params
    → Some text ≡ text_of uri s.documents → AsksOf (nat_lt document_limit (length text)) id r → Asks known s id params r
asks_of known s id params uri text r is named there of = rw (is, sym named, sym there) (inr of)
