-- How far a session has come.
use Rattle.std.proofs.Common.{◌≡◌, ℕ, ◌+◌, List, [], ◌∷◌, ◌++◌, length, Option, Some, None, Bool, true, false, Result, Ok, Err, refl, sym, ap, subst, ◌∙◌, append_assoc, append-nil, IfSome}
use Rattle.std.specs.Prelude.{⊤}
use Rattle.std.specs.Io.KnownBytes.{Appends}
use Rattle.std.proofs.KnownBytes.{Appends-nil, Appends-trans}
use Rattle.std.proofs.lemmas.List.{length-append}
use Rattle.serde_json.specs.View.{view}
use Rattle.lab_frames.specs.Frames.{frame}
use Rattle.lab_frames.specs.Taking.{TakesFrame, Stops, begun_with}
use Rattle.lab_frames.specs.declared.reading.Frame.{Frame}
use Rattle.lab_frames.specs.declared.reading.FrameFault.{FrameFault}
use Rattle.lab_frames.specs.declared.reading.FrameFault.TheVariants as stop
use Rattle.lab_server.specs.Sessions.{Session}
use Rattle.lab_server.specs.Turns.{Turn, Takes, Reaches, EndsWith, IsFrameOf, AreFramesOf, Breaks, Finishes, is_over, is_written, Serves}
use Rattle.lab_server.specs.Private.Replies.{RepliesTo, sent_of, goes_on, fault_at}
use Rattle.lab_server.specs.Private.Turned.{TakesKnown, TurnsTo, BreaksOff}
use Rattle.lab_server.specs.declared.serving.Reply.{Reply}
use Rattle.lab_server.specs.declared.serving.Reply.TheVariants.{Nothing, Message, End}
use Rattle.lab_server.specs.declared.serving.ServerFault.{ServerFault}
use Rattle.lab_server.specs.declared.serving.ServerFault.TheVariants.{Read, Write, NoMemory, BadHeader, CutShort, TooManyMessages}

-- the frames of one turn more
pub AreFramesOf-more : (ts : List Turn) (t : Turn) (bytes front : List ℕ) → AreFramesOf ts bytes → IsFrameOf t.sent front → AreFramesOf (ts ++ t ∷ []) (bytes ++ front)
AreFramesOf-more [] t bytes front none sent = (front, [], sent, refl, ap (λ b. b ++ front) none ∙ sym (append-nil front))
AreFramesOf-more (x ∷ ts) t bytes front all sent =
    (all.0, all.1 ++ front, all.2, AreFramesOf-more ts t all.1 front all.3 sent, ap (λ b. b ++ front) all.4 ∙ append_assoc all.0 all.1 front)

-- a turn more
pub Reaches-more : (s : Session) (bytes : List ℕ) (ts : List Turn) (now : Session) (rest : List ℕ) (t : Turn) (more : List ℕ)
    → Reaches s bytes ts now rest → Takes (frame rest) now t more → Reaches s bytes (ts ++ t ∷ []) t.after more
Reaches-more s bytes [] now rest t more here next = (more, subst (λ b. Takes (frame b) s t more) here.1 (subst (λ x. Takes (frame rest) x t more) here.0 next), (refl, refl))
Reaches-more s bytes (x ∷ ts) now rest t more reached next =
    (reached.0, reached.1, Reaches-more x.after reached.0 ts now rest t more reached.2 next)

-- the turns so far, by the bytes that came and those that still come
abbrev pub IsReached : Session → Option (List ℕ) → Option (List ℕ) → List Turn → Session → Type 0
IsReached s None now ts after = ⊤
IsReached s (Some bytes) None ts after = ⊥
IsReached s (Some bytes) (Some rest) ts after = Reaches s bytes ts after rest

pub IsReached-start : (s : Session) (known : Option (List ℕ)) → IsReached s known known [] s
IsReached-start s None = tt
IsReached-start s (Some bytes) = (refl, refl)

pub IsReached-more : (s : Session) (start now next : Option (List ℕ)) (ts : List Turn) (at : Session) (t : Turn)
    → IsReached s start now ts at → TakesKnown now at t next → IsReached s start next (ts ++ t ∷ []) t.after
IsReached-more s None now next ts at t reached took = tt
IsReached-more s (Some bytes) None next ts at t reached took = absurd reached
IsReached-more s (Some bytes) (Some rest) None ts at t reached took = absurd took
IsReached-more s (Some bytes) (Some rest) (Some more) ts at t reached took = Reaches-more s bytes ts at rest t more reached took

-- what is taken off the bytes by a frame that leads to this
pub TakesKnown-by : (known next : Option (List ℕ)) (found : Frame) (s : Session) (t : Turn)
    → TakesFrame known next found → ((rest : List ℕ) → Takes (begun_with found rest) s t rest) → TakesKnown known s t next
TakesKnown-by None next found s t took leads = tt
TakesKnown-by (Some bytes) None found s t took leads = absurd took
TakesKnown-by (Some bytes) (Some rest) found s t took leads = subst (λ b. Takes b s t rest) (sym took) (leads rest)

-- what the bytes begin with that end a session
ends_by : (known next : Option (List ℕ)) (found : Frame) → TakesFrame known next found → ((rest : List ℕ) → EndsWith (begun_with found rest)) → IfSome known (λ bytes. EndsWith (frame bytes))
ends_by None next found took ends = tt
ends_by (Some bytes) None found took ends = absurd took
ends_by (Some bytes) (Some rest) found took ends = subst EndsWith (sym took) (ends rest)

-- a turn by what its frame leads to, which is written
pub turns_to : (r : Reply) (known next : Option (List ℕ)) (found : Frame) (s after : Session) (front : List ℕ) (old new : Option (List ℕ))
    → TakesFrame known next found → ((rest : List ℕ) → RepliesTo r (begun_with found rest) rest s after) → IsFrameOf (sent_of r) front → Appends old new front
    → TurnsTo (goes_on r) s known next old new after
turns_to Nothing known next found s after front old new took leads sent added = (None, front, sent, added, TakesKnown-by known next found s _ took leads)
turns_to (Message v) known next found s after front old new took leads sent added = (Some (view v), front, sent, added, TakesKnown-by known next found s _ took leads)
turns_to End known next found s after front old new took leads sent added =
    (subst (Appends old new) sent added, (leads []).1, ends_by known next found took (λ rest. (leads rest).0))

-- no frame was taken
pub breaks_unread : (n : ℕ) (fault : FrameFault) (known out : Option (List ℕ)) (failed : Bool) → Stops fault known failed → BreaksOff (fault_at n fault) n known out out
breaks_unread n stop.Read None out failed stops = (tt, λ _. Appends-nil out)
breaks_unread n stop.Read (Some bytes) out failed stops = (tt, λ _. Appends-nil out)
breaks_unread n stop.BadHeader None out failed stops = (tt, λ _. Appends-nil out)
breaks_unread n stop.BadHeader (Some bytes) out failed stops = ((stops, refl), λ _. Appends-nil out)
breaks_unread n stop.CutShort None out failed stops = (tt, λ _. Appends-nil out)
breaks_unread n stop.CutShort (Some bytes) out failed stops = ((stops, refl), λ _. Appends-nil out)
breaks_unread n stop.NoMemory None out failed stops = (tt, λ _. Appends-nil out)
breaks_unread n stop.NoMemory (Some bytes) out failed stops = (tt, λ _. Appends-nil out)

-- what is sent isn't written
pub breaks_unwritten : (e : ServerFault) (n : ℕ) (known old new : Option (List ℕ)) → is_written (Err e) ≡ false → BreaksOff e n known old new
breaks_unwritten Read n known old new lost = absurd (cc)
breaks_unwritten (BadHeader m) n known old new lost = absurd (cc)
breaks_unwritten (CutShort m) n known old new lost = absurd (cc)
breaks_unwritten TooManyMessages n known old new lost = absurd (cc)
breaks_unwritten Write n None old new lost = (tt, λ is. absurd (cc))
breaks_unwritten Write n (Some bytes) old new lost = (tt, λ is. absurd (cc))
breaks_unwritten NoMemory n None old new lost = (tt, λ is. absurd (cc))
breaks_unwritten NoMemory n (Some bytes) old new lost = (tt, λ is. absurd (cc))

-- a session that ends here
pub Serves-so : (s : Session) (start now : Option (List ℕ)) (ts : List Turn) (at : Session) (text : List ℕ) (old new : Option (List ℕ)) (result : Result Bool ServerFault)
    → IsReached s start now ts at → AreFramesOf ts text → (is_written result ≡ true → Appends old new text)
    → ((rest : List ℕ) → now ≡ Some rest → Finishes result at (length ts) rest)
    → IfSome start (λ bytes. Serves s bytes old new result)
Serves-so s None now ts at text old new result reached sent written ends = tt
Serves-so s (Some bytes) None ts at text old new result reached sent written ends = absurd reached
Serves-so s (Some bytes) (Some rest) ts at text old new result reached sent written ends =
    record { turns = ts; last = at; rest = rest; reached = reached; text = text; sent = sent; written = written; end = ends rest refl }

-- a session that has come so far from these bytes: so many turns, and what was written for them
pub record SoFar (s : Session) (start now old new : Option (List ℕ)) (at : Session) (count : ℕ) : Type 0 where
  pub turns : List Turn
  pub text : List ℕ
  pub sent : AreFramesOf turns text
  pub written : Appends old new text
  pub reached : IsReached s start now turns at
  pub many : length turns ≡ count

pub so_far_start : (s : Session) (known out : Option (List ℕ)) → SoFar s known known out out s 0
so_far_start s known out = record { turns = []; text = []; sent = refl; written = Appends-nil out; reached = IsReached-start s known; many = refl }

pub so_far_more : (s : Session) (start now next old mid new : Option (List ℕ)) (at after : Session) (n : ℕ)
    → SoFar s start now old mid at n → TurnsTo true at now next mid new after → SoFar s start next old new after (n + 1)
so_far_more s start now next old mid new at after n so turn =
    let t : Turn = record { sent = turn.0; after = after } in
    record {
      turns = so.turns ++ t ∷ [];
      text = so.text ++ turn.1;
      sent = AreFramesOf-more so.turns t so.text turn.1 so.sent turn.2;
      written = Appends-trans old mid new so.text turn.1 so.written turn.3;
      reached = IsReached-more s start now next so.turns at t so.reached turn.4;
      many = length-append so.turns (t ∷ []) ∙ ap (λ m. m + 1) so.many;
    }

-- nothing more is written
written_still : (old mid new : Option (List ℕ)) (text : List ℕ) → Appends old mid text → Appends mid new [] → Appends old new text
written_still old mid new text first then = subst (Appends old new) (append-nil text) (Appends-trans old mid new text [] first then)

pub so_far_ends : (s : Session) (start now next old mid new : Option (List ℕ)) (at after : Session) (n : ℕ)
    → SoFar s start now old mid at n → TurnsTo false at now next mid new after → IfSome start (λ bytes. Serves s bytes old new (Ok (is_over after.stage)))
so_far_ends s start now next old mid new at after n so turn =
    Serves-so s start now so.turns at so.text old new _ so.reached so.sent (λ _. written_still old mid new so.text so.written turn.0)
    (λ rest is. (subst (λ known. IfSome known (λ bytes. EndsWith (frame bytes))) is turn.2, ap (λ x. is_over x.stage) turn.1))

pub so_far_breaks : (s : Session) (start now old mid new : Option (List ℕ)) (at : Session) (n : ℕ) (e : ServerFault)
    → SoFar s start now old mid at n → BreaksOff e (n + 1) now mid new → IfSome start (λ bytes. Serves s bytes old new (Err e))
so_far_breaks s start now old mid new at n e so breaks =
    Serves-so s start now so.turns at so.text old new _ so.reached so.sent (λ is. written_still old mid new so.text so.written (breaks.1 is))
    (λ rest is. subst (λ m. Breaks e (m + 1) rest) (sym so.many) (subst (λ known. IfSome known (Breaks e (n + 1))) is breaks.0))

pub so_far_all : (s : Session) (start now old new : Option (List ℕ)) (at : Session)
    → SoFar s start now old new at 1_000_000_000 → IfSome start (λ bytes. Serves s bytes old new (Err TooManyMessages))
so_far_all s start now old new at so =
    Serves-so s start now so.turns at so.text old new _ so.reached so.sent (λ _. so.written) (λ rest is. ap (λ m. m + 1) so.many)
