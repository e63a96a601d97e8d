-- What a body leads to.
use Rattle.std.proofs.Common.{◌≡◌, ℕ, List, Some, None, refl, inl, inr, subst, sym}
use Rattle.std.specs.Prelude.{IsUtf8}
use Rattle.serde_json.specs.Data.{Data, null}
use Rattle.serde_json.specs.Read.{read}
use Rattle.serde_json.specs.View.{view}
use Rattle.serde_json.specs.declared.value.Value.{Value}
use Rattle.lab_frames.specs.Frames.{body}
use Rattle.lab_server.specs.Replies.{IsError}
use Rattle.lab_server.specs.Sessions.{Session, no_json}
use Rattle.lab_server.specs.Turns.{IsExit}
use Rattle.lab_server.specs.Private.Replies.{RepliesTo, RepliesToValue}
use Rattle.lab_server.specs.declared.serving.Reply.{Reply}
use Rattle.lab_server.specs.declared.serving.Reply.TheVariants.{Nothing, Message, End}

pub of_json : (r : Reply) (b rest : List ℕ) (d : Data) (s after : Session) → IsUtf8 b → read b ≡ Some d → RepliesToValue r d s after → RepliesTo r (body b rest) rest s after
of_json End b rest d s after utf8 is told = ((utf8, subst IsExit (sym is) told.0), told.1)
of_json Nothing b rest d s after utf8 is told = (inr (d, utf8, is, told), refl)
of_json (Message v) b rest d s after utf8 is told = (inr (d, utf8, is, told), refl)

pub of_no_json : (v : Value) (b rest : List ℕ) (s : Session) → (IsUtf8 b → read b ≡ None) → IsError null no_json (view v) → RepliesTo (Message v) (body b rest) rest s s
of_no_json v b rest s none error = (inl (none, error, refl), refl)
