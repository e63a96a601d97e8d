-- Notes in words.
use Rattle.std.specs.Prelude.{ℕ, nat_lt, ◌==◌, if◌then◌else◌, Option, Some, None, List, [], ◌++◌, codes, length}
use Rattle.std.specs.Fmt.{decimal}
use Rattle.ipc_traps.specs.Services.{service_name}
use Rattle.ipc_traps.specs.declared.service.Service.{Service}
use Rattle.ipc_traps.specs.declared.service.Service.TheVariants.{MqReceive, MqSend}
use Rattle.lab_notes.specs.declared.openers.Opened.{Opened}
use Rattle.lab_notes.specs.declared.remarks.Change.{Change}
use Rattle.lab_notes.specs.declared.remarks.Change.TheVariants.{Exceeded, MadeAnew}
use Rattle.lab_notes.specs.declared.remarks.Remark.{Remark}
use Rattle.lab_notes.specs.declared.waiting.Waiting.{Waiting}

-- how many more were refused, where there are more
unfoldable pub more_text : ℕ → List ℕ
more_text more = if nat_lt 0 more then codes ", and " ++ decimal more ++ codes " more" else []

-- a call of a process that stands at a place
abbrev pub call_text : Remark → List ℕ → List ℕ
call_text r place = codes "process " ++ (decimal r.pid ++ (codes ": " ++ (service_name r.service ++ (codes ", at " ++ place))))

-- what a semaphore was made with, and what it comes to
abbrev pub exceeded_text : ℕ → ℕ → ℕ → List ℕ
exceeded_text first maker value =
    codes ", made with " ++ (decimal first ++ (codes " by process " ++ (decimal maker ++ (codes ", comes to " ++ decimal value))))

-- that an object is made anew
abbrev pub anew_text : ℕ → List ℕ
anew_text holder = codes " is made anew, while process " ++ (decimal holder ++ codes " has the one that was unlinked")

-- what became of an object
abbrev pub change_text : Change → List ℕ
change_text (Exceeded first maker value) = exceeded_text first maker value
change_text (MadeAnew holder) = anew_text holder

-- what is remarked of an object, by a call that stands at a place
unfoldable pub remark_text : Remark → List ℕ → List ℕ
remark_text r place = codes "lc3lab: note: " ++ r.name ++ change_text r.change ++ codes " (" ++ call_text r place ++ codes ")"

-- that a process opens a name
abbrev pub opener_text : Opened → List ℕ
opener_text o = codes "process " ++ (decimal o.pid ++ (codes " opens " ++ o.name))

-- that one process alone opens a name, and another one alone a name that differs by the case of letters
unfoldable pub twins_text : Opened → Opened → List ℕ
twins_text a b = codes "lc3lab: note: only " ++ opener_text a ++ codes ", only " ++ opener_text b ++ codes ": is one name meant?"

-- a process, with its program, unless that has no name
abbrev pub process_text : ℕ → List ℕ → List ℕ
process_text p program =
    if length program == 0 then codes "P" ++ decimal p else codes "P" ++ (decimal p ++ (codes " (" ++ (program ++ codes ")")))

-- what a process waits for in a call, by who took units of the semaphore
abbrev pub waited_text : Service → Option ℕ → List ℕ → List ℕ
waited_text MqReceive taker object = codes " waits for a message in " ++ object
waited_text MqSend taker object = codes " waits for room in " ++ object
waited_text s (Some taker) object = codes " waits for " ++ (object ++ (codes ", which P" ++ (decimal taker ++ codes " has")))
waited_text s None object = codes " waits for a post to " ++ object

abbrev pub object_text : Waiting → List ℕ
object_text wait = waited_text wait.service wait.taker wait.object
