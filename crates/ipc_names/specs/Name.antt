-- The names of queues and semaphores: a slash, and then one or more visible characters of ASCII without a slash.
use Rattle.std.specs.Prelude.{◌≡◌, ℕ, ◌≤◌, ◌==◌, nat_le, nat_lt, Bool, true, false, ◌&&◌, not, List, [], ◌∷◌, length, Result, Ok, Err, if◌then◌else◌}
use Rattle.std.specs.List.{list_all}
use Rattle.ipc_names.specs.declared.errno.Errno.{Errno}
use Rattle.ipc_names.specs.declared.errno.Errno.TheVariants.{NameTooLong, Invalid}

-- the character /
abbrev pub slash : ℕ
slash = 0x2f

-- whether a character may follow the slash
abbrev pub is_name_character : ℕ → Bool
is_name_character c = nat_le 0x21 c && nat_le c 0x7e && not (c == slash)

-- whether a text has the form of a name, whatever its length
abbrev pub has_name_form : List ℕ → Bool
has_name_form [] = false
has_name_form (c ∷ rest) = c == slash && nat_le 1 (length rest) && list_all is_name_character rest

-- the greatest number of characters of a name, with its slash
abbrev pub name_max : ℕ
name_max = 255

-- a name has the form and no more characters than that
abbrev pub IsName : List ℕ → Type 0
IsName text = (has_name_form text ≡ true) × (length text ≤ name_max)

-- the name that words spell, or why they spell none: the length is looked at before the form
abbrev pub name_read : List ℕ → Result (List ℕ) Errno
name_read words = if nat_lt name_max (length words) then Err NameTooLong else if has_name_form words then Ok words else Err Invalid
