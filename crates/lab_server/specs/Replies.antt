-- What the server sends, as values.
use Rattle.std.specs.Prelude.{◌≡◌, ℕ, ℤ, Option, Some, None, is_some, true, List, codes}
use Rattle.std.specs.Option.{option_and_then}
use Rattle.serde_json.specs.Data.{Data, null, number, string, array, object, no_items, member, no_members}
use Rattle.serde_json.specs.Find.{of_integer, get}

-- an id, or null if there is none
abbrev pub or_null : Option Data → Data
or_null None = null
or_null (Some d) = d

-- the answer to the request of this id
abbrev pub answer_data : Data → Data → Data
answer_data id result = object (member (codes "id") id (member (codes "jsonrpc") (string (codes "2.0")) (member (codes "result") result no_members)))

-- a notification
abbrev pub notice_data : List ℕ → Data → Data
notice_data method params = object (member (codes "jsonrpc") (string (codes "2.0")) (member (codes "method") (string method) (member (codes "params") params no_members)))

-- what is said of a document
abbrev pub published_data : List ℕ → ℤ → Data → Data
published_data uri version diagnostics =
    notice_data (codes "textDocument/publishDiagnostics")
    (object (member (codes "diagnostics") diagnostics (member (codes "uri") (string uri) (member (codes "version") (number (of_integer version)) no_members))))

-- nothing is said of a document any more
abbrev pub cleared_data : List ℕ → Data
cleared_data uri =
    notice_data (codes "textDocument/publishDiagnostics")
    (object (member (codes "diagnostics") (array no_items) (member (codes "uri") (string uri) no_members)))

-- a line for the editor's log
abbrev pub IsLog : Data → Type 0
IsLog d = get (codes "method") d ≡ Some (string (codes "window/logMessage"))

-- an error of this code, for the request of this id
pub record IsError (id : Data) (number_of : ℤ) (d : Data) : Type 0 where
  pub to : get (codes "id") d ≡ Some id
  pub code : option_and_then (get (codes "code")) (get (codes "error") d) ≡ Some (number (of_integer number_of))
  pub alone : get (codes "result") d ≡ None

-- an answer to the request of this id
pub record IsAnswer (id : Data) (d : Data) : Type 0 where
  pub to : get (codes "id") d ≡ Some id
  pub answered : is_some (get (codes "result") d) ≡ true
  pub alone : get (codes "error") d ≡ None
