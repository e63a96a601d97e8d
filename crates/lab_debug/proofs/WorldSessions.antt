-- The session of a world.
use Rattle.std.proofs.Common.{◌≡◌, ℕ, List, [], Option, Some, None, Bool, Ok, refl, sym, ap, subst, ◌∙◌, IfSome, codes}
use Rattle.std.specs.Option.{option_map}
use Rattle.std.specs.Io.KnownBytes.{Appends}
use Rattle.std.proofs.KnownBytes.{Appends-nil}
use Rattle.lab_io.specs.Device.{AppendsPrefix}
use Rattle.lab_sched.specs.Worlds.{WorldState}
use Rattle.lab_session.specs.Sessions.{SessionState, session_from}
use Rattle.lab_debug.specs.declared.script.SessionFault.{SessionFault}
use Rattle.lab_debug.specs.declared.script.SessionFault.TheVariants.{Read, Write, TooManyLines, LineTooLong, NoMemory}
use Rattle.lab_debug.specs.Script.{Explains, seen_end}
use Rattle.lab_debug.specs.Effects.{session, world_session}

-- what broke off the session broke off that of its world
explained : (w : WorldState) (e : SessionFault) (known : Option (List ℕ)) (read write : Bool)
    → Explains e (option_map (session (session_from [] (codes "") w)) known) read write → Explains e (option_map (world_session w) known) read write
explained w Read known read write h = h
explained w Write known read write h = h
explained w NoMemory known read write h = tt
explained w TooManyLines None read write h = tt
explained w TooManyLines (Some bytes) read write h = ap (seen_end (λ (s : SessionState). s.world)) h
explained w LineTooLong None read write h = tt
explained w LineTooLong (Some bytes) read write h = ap (seen_end (λ (s : SessionState). s.world)) h

pub explains_world : (w : WorldState) (s : SessionState) (e : SessionFault) (known : Option (List ℕ)) (read write : Bool) → s ≡ session_from [] (codes "") w
    → Explains e (option_map (session s) known) read write → Explains e (option_map (world_session w) known) read write
explains_world w s e known read write is h = explained w e known read write (subst (λ t. Explains e (option_map (session t) known) read write) is h)

-- the last world is that of the last session
pub ends_in_world : (w : WorldState) (s : SessionState) (known : Option (List ℕ)) (last : SessionState) (given : WorldState) → s ≡ session_from [] (codes "") w
    → given ≡ last.world → IfSome known (λ bytes. (session s bytes).end ≡ Ok last) → IfSome known (λ bytes. (world_session w bytes).end ≡ Ok given)
ends_in_world w s None last given is shown h = tt
ends_in_world w s (Some bytes) last given is shown h =
    ap (seen_end (λ (t : SessionState). t.world)) (subst (λ t. (session t bytes).end ≡ Ok last) is h) ∙ ap Ok (sym shown)

-- where nothing was sent
pub nothing_sent : (known old : Option (List ℕ)) (text : List ℕ → List ℕ) → IfSome known (λ bytes. AppendsPrefix old old (text bytes))
nothing_sent None old text = tt
nothing_sent (Some bytes) old text = record { sent = []; unsent = text bytes; whole = refl; appended = Appends-nil old }

-- what was written is the text of the world's session
pub written_of_world : (w : WorldState) (s : SessionState) (known old new : Option (List ℕ)) → s ≡ session_from [] (codes "") w
    → IfSome known (λ bytes. Appends old new (session s bytes).text) → IfSome known (λ bytes. Appends old new (world_session w bytes).text)
written_of_world w s known old new is h = subst (λ t. IfSome known (λ bytes. Appends old new (session t bytes).text)) is h

-- or a beginning of it
pub begun_of_world : (w : WorldState) (s : SessionState) (known old new : Option (List ℕ)) → s ≡ session_from [] (codes "") w
    → IfSome known (λ bytes. AppendsPrefix old new (session s bytes).text) → IfSome known (λ bytes. AppendsPrefix old new (world_session w bytes).text)
begun_of_world w s known old new is h = subst (λ t. IfSome known (λ bytes. AppendsPrefix old new (session t bytes).text)) is h
