-- A call in words, what became of it, and the level of its object.
use Rattle.std.specs.Prelude.{ℕ, Option, Some, None, List, [], ◌++◌, codes, slice_index}
use Rattle.std.specs.Fmt.{decimal}
use Rattle.ipc_errors.specs.Names.{error_name}
use Rattle.lab_told.specs.Answers.{result_in}
use Rattle.lab_told.specs.Attributes.{attributes_text}
use Rattle.lab_told.specs.Words.{message_text}
use Rattle.ipc_traps.specs.Services.{service_name}
use Rattle.ipc_traps.specs.declared.service.Service.{Service}
use Rattle.ipc_kernel.specs.declared.call.Reply.{Reply}
use Rattle.ipc_kernel.specs.declared.call.Reply.TheVariants.{Plain, Message, Attr, Value}
use Rattle.lab_told.specs.declared.answers.Outcome.{Outcome}
use Rattle.lab_told.specs.declared.answers.Outcome.TheVariants.{Waits, Refused, Replied}
use Rattle.lab_told.specs.declared.handles.Level.{Level}
use Rattle.lab_told.specs.declared.handles.Level.TheVariants.{Messages, Value}

-- a call with its arguments
unfoldable pub call_text : Service → List ℕ → List ℕ
call_text s arguments = service_name s ++ codes "(" ++ arguments ++ codes ")"

-- a message that was received
abbrev pub received_text : List ℕ → ℕ → List ℕ
received_text words priority = codes " " ++ message_text words ++ codes " prio " ++ decimal priority

-- what a reply gives beside its result; the four words of attributes are mq_flags, mq_maxmsg, mq_msgsize and mq_curmsgs
unfoldable pub given_text : Reply → List ℕ
given_text (Plain word) = []
given_text (Message words priority) = received_text words priority
given_text (Attr words) = attributes_text (slice_index words 0) (slice_index words 1) (slice_index words 2) (slice_index words 3)
given_text (Value value) = codes " value " ++ decimal value

-- what became of a call, in words
unfoldable pub outcome_text : Outcome → List ℕ
outcome_text Waits = codes "waits"
outcome_text (Refused e) = codes "= " ++ error_name e
outcome_text (Replied reply) = codes "= " ++ decimal (result_in reply) ++ given_text reply

-- a level in words
abbrev pub level_text : Level → List ℕ
level_text (Messages count most) = decimal count ++ codes " of " ++ decimal most
level_text (Value value) = codes "value " ++ decimal value

-- the level of an object, where there is one
abbrev pub level_part : Option Level → List ℕ
level_part None = []
level_part (Some level) = level_text level
