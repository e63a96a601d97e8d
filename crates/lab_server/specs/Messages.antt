-- What a message of JSON-RPC 2.0 asks for, by its value.
use Rattle.std.specs.Prelude.{ℕ, ◌&&◌, ◌||◌, not, if◌then◌else◌, ℤ, Bool, false, Option, Some, None, is_some, List, codes, bytes_eq}
use Rattle.std.specs.Option.{option_and_then}
use Rattle.serde_json.specs.Data.{Data}
use Rattle.serde_json.specs.Find.{get, as_str, as_number, as_i64}
use Rattle.lab_server.specs.declared.message.Kind.{Kind}
use Rattle.lab_server.specs.declared.message.Kind.TheVariants.{Begin, ShutDown, Ask}

-- what a message asks for: its method and its parameters, and of a request its id
pub data Asked : Type 0 where
  request : Data → List ℕ → Option Data → Asked
  notification : List ℕ → Option Data → Asked
  -- it answers something
  answered : Asked
  -- it is no message; its id, if it has one
  bad : Option Data → Asked

-- the integer that a value is
abbrev pub integer_of : Data → Option ℤ
integer_of d = option_and_then as_i64 (as_number d)

abbrev pub is_id : Data → Bool
is_id d = is_some (as_str d) || is_some (integer_of d)

-- an id, if it is one
abbrev pub known_id : Option Data → Option Data
known_id None = None
known_id (Some id) = if is_id id then Some id else None

-- whether a text is this one
abbrev pub is_named : Option (List ℕ) → List ℕ → Bool
is_named None name = false
is_named (Some text) name = bytes_eq text name

-- whether a value, if there is one, is this text
abbrev pub is_text : Option Data → List ℕ → Bool
is_text d text = is_named (option_and_then as_str d) text

-- whether it says that it is of this protocol
unfoldable pub is_of_protocol : Data → Bool
is_of_protocol d = is_text (get (codes "jsonrpc") d) (codes "2.0")

-- a message of this method
abbrev pub called : Option (List ℕ) → Option Data → Option Data → Asked
called None known params = bad known
called (Some method) None params = notification method params
called (Some method) (Some id) params = request id method params

-- a message that has a method, or is an answer
abbrev pub named : Option Data → Option Data → Data → Asked
named None known d = if is_some (get (codes "result") d) || is_some (get (codes "error") d) then answered else bad known
named (Some method) known d = called (as_str method) known (get (codes "params") d)

-- a message with this id, which is one or isn't
abbrev pub with_id : Option Data → Option Data → Data → Asked
with_id id known d = if not (is_of_protocol d) || (is_some id && not (is_some known)) then bad known else named (get (codes "method") d) known d

-- what a value is as a message
unfoldable pub message_of : Data → Asked
message_of d = with_id (get (codes "id") d) (known_id (get (codes "id") d)) d

-- what a request of this method does to a session
unfoldable pub kind_of : List ℕ → Kind
kind_of method = if bytes_eq method (codes "initialize") then Begin else (if bytes_eq method (codes "shutdown") then ShutDown else Ask)
