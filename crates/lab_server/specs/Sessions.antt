-- What a message does to a session, and what is sent for it.
use Rattle.std.specs.Prelude.{◌≡◌, ◌⊎◌, ⊤, ℕ, nat_lt, ℤ, negsuc, Bool, true, false, Option, Some, None, List, [], length, codes, bytes_eq}
use Rattle.std.specs.Option.{option_and_then}
use Rattle.serde_json.specs.Data.{Data, null}
use Rattle.lab_documents.specs.Diagnostics.{AreDiagnostics}
use Rattle.lab_server.specs.Messages.{Asked, request, notification, answered, bad, kind_of}
use Rattle.lab_server.specs.Members.{object_of}
use Rattle.lab_server.specs.Edits.{Edited, opens, changes, closes, nothing, faulty, uri_asked, edit_of}
use Rattle.lab_server.specs.Documents.{Document, text_of, put, without}
use Rattle.lab_server.specs.Settings.{Settings, first_settings, settings_of}
use Rattle.lab_server.specs.Questions.{is_question}
use Rattle.lab_server.specs.Replies.{or_null, answer_data, published_data, cleared_data, IsLog, IsError, IsAnswer}
use Rattle.lab_server.specs.declared.message.Kind.{Kind}
use Rattle.lab_server.specs.declared.message.Kind.TheVariants.{Begin, ShutDown, Ask}
use Rattle.lab_server.specs.declared.session.Stage.{Stage}
use Rattle.lab_server.specs.declared.session.Stage.TheVariants.{Fresh, Ready, Over}

-- the most bytes of a document about which questions are answered
abbrev pub document_limit : ℕ
document_limit = 4_000_000

-- the protocol's numbers of errors
abbrev pub no_json : ℤ
no_json = negsuc 32_699

abbrev pub no_request : ℤ
no_request = negsuc 32_599

abbrev pub no_method : ℤ
no_method = negsuc 32_600

abbrev pub bad_params : ℤ
bad_params = negsuc 32_601

abbrev pub not_initialized : ℤ
not_initialized = negsuc 32_001

abbrev pub failed : ℤ
failed = negsuc 32_802

-- a session: how far it is, the warnings that may be left out, its settings, and the texts that are open
pub record Session : Type 0 where
  pub stage : Stage
  pub names : List (List ℕ)
  pub settings : Settings
  pub documents : List Document

-- a session that isn't begun
abbrev pub first : List (List ℕ) → Session
first names = record { stage = Fresh; names = names; settings = first_settings; documents = [] }

-- an error of this code, and the session is as before
abbrev pub Refuses : Session → Data → ℤ → Data → Session → Type 0
Refuses s id code r after = IsError id code r × (after ≡ s)

-- a session begins with these settings, if there are any
abbrev pub BeginsBy : Option Settings → Session → Data → Data → Session → Type 0
BeginsBy None s id r after = Refuses s id bad_params r after
BeginsBy (Some settings) s id r after = IsAnswer id r × (after ≡ record s { stage = Ready; settings = settings })

-- a session begins with the settings of these parameters
abbrev pub Begins : Session → Data → Option Data → Data → Session → Type 0
Begins s id params r after = BeginsBy (option_and_then (settings_of s.names) (object_of params)) s id r after

-- a question about a text, which is too large or isn't
abbrev pub AsksOf : Bool → Data → Data → Type 0
AsksOf true id r = IsError id failed r
AsksOf false id r = IsAnswer id r ⊎ IsError id failed r

-- a question about a text, if the document is open; a member may be missing
abbrev pub AsksText : Option (List ℕ) → Data → Data → Type 0
AsksText None id r = IsError id bad_params r
AsksText (Some text) id r = IsError id bad_params r ⊎ AsksOf (nat_lt document_limit (length text)) id r

-- the text that parameters name, if it is open
abbrev pub text_asked : Session → Option Data → Option (List ℕ)
text_asked s params = option_and_then (λ uri. text_of uri s.documents) (uri_asked params)

-- a question of a method that is known or isn't
abbrev pub Asks : Bool → Session → Data → Option Data → Data → Type 0
Asks false s id params r = IsError id no_method r
Asks true s id params r = AsksText (text_asked s params) id r

-- how a request of this kind is answered in a session of this stage
abbrev pub AnswersAt : Stage → Kind → Session → Data → List ℕ → Option Data → Data → Session → Type 0
AnswersAt Over kind s id method params r after = Refuses s id no_request r after
AnswersAt Fresh Begin s id method params r after = Begins s id params r after
AnswersAt Fresh kind s id method params r after = Refuses s id not_initialized r after
AnswersAt Ready Begin s id method params r after = Refuses s id no_request r after
AnswersAt Ready ShutDown s id method params r after = (r ≡ answer_data id null) × (after ≡ record s { stage = Over })
AnswersAt Ready Ask s id method params r after = Asks (is_question s.settings.addresses method) s id params r × (after ≡ s)

-- how a request is answered
abbrev pub Answers : Session → Data → List ℕ → Option Data → Data → Session → Type 0
Answers s id method params r after = AnswersAt s.stage (kind_of method) s id method params r after

-- what is said of a text, which is too large or isn't
abbrev pub IsSaidOf : Bool → Settings → List ℕ → Data → Type 0
IsSaidOf true settings text d = ⊤
IsSaidOf false settings text d = AreDiagnostics settings.profile settings.allowed text d

-- what check says of a text is published under its name
abbrev pub Publishes : Session → List ℕ → ℤ → List ℕ → Data → Type 0
Publishes s uri version text r = (d : Data) × (r ≡ published_data uri version d) × IsSaidOf (nat_lt document_limit (length text)) s.settings text d

-- a text is kept under a name, and what check says of it is published
abbrev pub Puts : Session → List ℕ → ℤ → List ℕ → Data → Session → Type 0
Puts s uri version text r after = Publishes s uri version text r × (after ≡ record s { documents = put uri text s.documents })

-- a document that was this text, if it was open, becomes another, if there is one
abbrev pub Changes : Session → List ℕ → ℤ → Option (List ℕ) → Option (List ℕ) → Data → Session → Type 0
Changes s uri version text None r after = IsLog r × (after ≡ s)
Changes s uri version None (Some old) r after = Publishes s uri version old r × (after ≡ s)
Changes s uri version (Some text) (Some old) r after = Puts s uri version text r after

-- a document that was this text, if it was open, is closed
abbrev pub Closes : Session → List ℕ → Option (List ℕ) → Data → Session → Type 0
Closes s uri None r after = IsLog r × (after ≡ s)
Closes s uri (Some old) r after = (r ≡ cleared_data uri) × (after ≡ record s { documents = without uri s.documents })

-- a message is sent, and this holds of it
abbrev pub Sends : (Data → Type 0) → Option Data → Type 0
Sends P None = ⊥
Sends P (Some r) = P r

-- nothing is sent, and the session is as before
abbrev pub Passes : Session → Option Data → Session → Type 0
Passes s sent after = (sent ≡ None) × (after ≡ s)

-- what a notification does to the documents of a session, and what is sent for it
abbrev pub Edits : Edited → Session → Option Data → Session → Type 0
Edits (opens uri version text) s sent after = Sends (λ r. Puts s uri version text r after) sent
Edits (changes uri version text) s sent after = Sends (λ r. Changes s uri version text (text_of uri s.documents) r after) sent
Edits (closes uri) s sent after = Sends (λ r. Closes s uri (text_of uri s.documents) r after) sent
Edits nothing s sent after = Passes s sent after
Edits faulty s sent after = Sends (λ r. IsLog r × (after ≡ s)) sent

-- what a notification does in a session of this stage
abbrev pub NotesAt : Stage → Session → List ℕ → Option Data → Option Data → Session → Type 0
NotesAt Fresh s method params sent after = Passes s sent after
NotesAt Ready s method params sent after = Edits (edit_of method params) s sent after
NotesAt Over s method params sent after = Passes s sent after

-- what a message does to a session, and what is sent for it
abbrev pub Leads : Asked → Session → Option Data → Session → Type 0
Leads (request id method params) s sent after = Sends (λ r. Answers s id method params r after) sent
Leads (notification method params) s sent after = NotesAt s.stage s method params sent after
Leads answered s sent after = Passes s sent after
Leads (bad id) s sent after = Sends (λ r. Refuses s (or_null id) no_request r after) sent

-- what is sent for a message if memory is refused
abbrev pub GivesUp : Asked → Option Data → Type 0
GivesUp (request id method params) sent = Sends (IsError id failed) sent
GivesUp (notification method params) sent = Sends IsLog sent
GivesUp answered sent = sent ≡ None
GivesUp (bad id) sent = Sends (IsError (or_null id) failed) sent

-- whether a message ends the session
abbrev pub ends : Asked → Bool
ends (notification method params) = bytes_eq method (codes "exit")
ends other = false
