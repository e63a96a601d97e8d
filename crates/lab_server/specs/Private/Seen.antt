-- What the code keeps, as the values that contracts speak of.
use Rattle.std.specs.Prelude.{List, map, string_bytes, Result, Ok, Err}
use Rattle.std.specs.Option.{option_map}
use Rattle.serde_json.specs.View.{view}
use Rattle.lab_server.specs.Messages.{Asked, request, notification, answered, bad}
use Rattle.lab_server.specs.Edits.{Edited, opens, changes, closes, nothing, faulty}
use Rattle.lab_server.specs.Documents.{Document}
use Rattle.lab_server.specs.Settings.{Settings, Options}
use Rattle.lab_server.specs.Sessions.{Session}
use Rattle.lab_server.specs.declared.documents.Open.{Open}
use Rattle.lab_server.specs.declared.documents.Documents.{Documents}
use Rattle.lab_server.specs.declared.edits.Edit.{Edit}
use Rattle.lab_server.specs.declared.edits.Edit.TheVariants as edit
use Rattle.lab_server.specs.declared.edits.Missing.{Missing}
use Rattle.lab_server.specs.declared.message.Message.{Message}
use Rattle.lab_server.specs.declared.message.Message.TheVariants.{Request, Notification, Answer, Bad}
use Rattle.lab_server.specs.declared.session.Session.{Session as Held}
use Rattle.lab_server.specs.declared.settings.Options.{Options as ReadOptions}
use Rattle.lab_server.specs.declared.settings.Settings.{Settings as ReadSettings}

-- a message as what it asks for
abbrev pub message_seen : Message → Asked
message_seen (Request id call) = request (view id.now) call.method.now (option_map (λ v. view v.now) call.params)
message_seen (Notification call) = notification call.method.now (option_map (λ v. view v.now) call.params)
message_seen Answer = answered
message_seen (Bad id) = bad (option_map (λ v. view v.now) id)

-- an edit as what it does
abbrev pub edit_seen : Result Edit Missing → Edited
edit_seen (Err missing) = faulty
edit_seen (Ok (edit.Open uri version text)) = opens uri.now version text.now
edit_seen (Ok (edit.Change uri version text)) = changes uri.now version (option_map (λ s. s.now) text)
edit_seen (Ok (edit.Close uri)) = closes uri.now
edit_seen (Ok edit.Nothing) = nothing

abbrev pub document_seen : Open → Document
document_seen d = (string_bytes d.uri, string_bytes d.text)

abbrev pub documents_of : Documents → List Document
documents_of ds = map document_seen ds.open.items

abbrev pub settings_seen : ReadSettings → Settings
settings_seen s = record { profile = s.profile; allowed = map (λ name. name.now) s.allowed.items; addresses = s.addresses; shows = s.shows }

abbrev pub options_seen : ReadOptions → Options
options_seen o = record { profile = o.profile; left_out = map view o.left_out.now; addresses = o.addresses }

abbrev pub session_of : Held → Session
session_of s = record { stage = s.stage; names = map (λ name. name.now) s.names.now; settings = settings_seen s.settings; documents = documents_of s.documents }
