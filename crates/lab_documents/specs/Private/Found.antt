-- What is found, as members of an object.
use Rattle.std.specs.Prelude.{ℕ, List, codes, string_bytes}
use Rattle.serde_json.specs.Data.{Members, number, unsigned, string, member, no_members}
use Rattle.lc3_messages.specs.declared.telling.Told.{Told}
use Rattle.lab_documents.specs.Diagnostics.{severity}

-- what is found, by this name, with how bad it is and its words
abbrev pub found_members : List ℕ → Told → Members
found_members name told =
    member (codes "code") (string name)
    (member (codes "message") (string (string_bytes told.text))
    (member (codes "severity") (number (unsigned (severity told.what))) no_members))
