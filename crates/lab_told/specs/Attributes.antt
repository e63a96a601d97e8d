-- The attributes of a queue by their names in POSIX.1-2017, <mqueue.h>.
use Rattle.std.specs.Prelude.{ℕ, List, ◌++◌, codes}
use Rattle.std.specs.Fmt.{decimal}
use Rattle.lab_told.specs.Flags.{flag_word}

-- the flags, by their name
unfoldable pub flags_field : ℕ → List ℕ
flags_field w = codes "mq_flags=" ++ flag_word w

-- the greatest number of messages, by its name
unfoldable pub most_field : ℕ → List ℕ
most_field n = codes "mq_maxmsg=" ++ decimal n

-- the greatest length of a message, by its name
unfoldable pub size_field : ℕ → List ℕ
size_field n = codes ", mq_msgsize=" ++ decimal n

-- the number of messages, by its name
unfoldable pub count_field : ℕ → List ℕ
count_field n = codes ", mq_curmsgs=" ++ decimal n

-- the attributes that mq_open asks for
abbrev pub sizes_text : ℕ → ℕ → List ℕ
sizes_text most size = codes "{" ++ most_field most ++ size_field size ++ codes "}"

-- the attribute that mq_setattr sets
abbrev pub flags_text : ℕ → List ℕ
flags_text w = codes "{" ++ flags_field w ++ codes "}"

-- the limits of a queue, and how many messages it has
abbrev pub queue_fields : ℕ → ℕ → ℕ → List ℕ
queue_fields most size count = most_field most ++ size_field size ++ count_field count

-- all attributes, which a call gives
abbrev pub attributes_text : ℕ → ℕ → ℕ → ℕ → List ℕ
attributes_text flags most size count = codes " {" ++ flags_field flags ++ codes ", " ++ queue_fields most size count ++ codes "}"
