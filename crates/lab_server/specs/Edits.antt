-- What a notification does to the documents, by its value.
use Rattle.std.specs.Prelude.{ℕ, if◌then◌else◌, ℤ, Option, Some, None, List, codes, bytes_eq}
use Rattle.std.specs.Option.{option_and_then}
use Rattle.serde_json.specs.Data.{Data}
use Rattle.lab_server.specs.Members.{object_of, text_at, integer_at, changed_text}

-- what a notification does to the documents
pub data Edited : Type 0 where
  -- a document is opened: its name, its version and its text
  opens : List ℕ → ℤ → List ℕ → Edited
  -- it becomes a text, if there is one
  changes : List ℕ → ℤ → Option (List ℕ) → Edited
  closes : List ℕ → Edited
  nothing : Edited
  -- a member is missing, or has another type
  faulty : Edited

-- what is there of these, or a fault
abbrev pub if_there : {X : Type 0} → Option X → (X → Edited) → Edited
if_there None next = faulty
if_there (Some x) next = next x

-- the name of the document of a message
abbrev pub uri_at : Data → Option (List ℕ)
uri_at d = text_at (codes "textDocument") (codes "uri") d

-- the name of the document that parameters are about
abbrev pub uri_asked : Option Data → Option (List ℕ)
uri_asked params = option_and_then uri_at (object_of params)

abbrev pub version_at : Data → Option ℤ
version_at d = integer_at (codes "textDocument") (codes "version") d

-- what a message with these parameters opens
unfoldable pub opened : Option Data → Edited
opened params =
    if_there (object_of params) (λ d. if_there (uri_at d) (λ uri. if_there (version_at d) (λ version.
    if_there (text_at (codes "textDocument") (codes "text") d) (λ text. opens uri version text))))

-- what a message with these parameters changes
unfoldable pub changed : Option Data → Edited
changed params =
    if_there (object_of params) (λ d. if_there (uri_at d) (λ uri. if_there (version_at d) (λ version.
    if_there (changed_text d) (λ text. changes uri version text))))

-- what a message with these parameters closes
unfoldable pub closed : Option Data → Edited
closed params = if_there (object_of params) (λ d. if_there (uri_at d) closes)

-- what a notification of this method does to the documents
unfoldable pub edit_of : List ℕ → Option Data → Edited
edit_of method params =
    if bytes_eq method (codes "textDocument/didOpen") then opened params else
    (if bytes_eq method (codes "textDocument/didChange") then changed params else
    (if bytes_eq method (codes "textDocument/didClose") then closed params else nothing))
