-- The names by which the processes of a run open objects.
use Rattle.std.specs.Bool.{beq}
use Rattle.std.specs.Prelude.{ℕ, ◌+◌, Bool, false, not, ◌==◌, ◌&&◌, ◌||◌, bytes_eq, Option, Some, None, List, [], ◌∷◌, ◌++◌, drop, position, slice_get, slice_set}
use Rattle.std.specs.List.{find}
use Rattle.std.specs.Option.{option_and_then}
use Rattle.std.specs.Str.{str_eq_ignore_ascii_case}
use Rattle.ipc_traps.specs.Services.{is_on_queues}
use Rattle.lab_told.specs.declared.told.Called.{Called}
use Rattle.lab_notes.specs.declared.openers.Opened.{Opened}

-- whether this is the name that a call names
abbrev pub is_named : Called → Opened → Bool
is_named c o = beq o.is_queue (is_on_queues c.service) && bytes_eq o.name c.object

-- a name that process p is the first to open
abbrev pub opened_first : ℕ → Called → Opened
opened_first p c = record { is_queue = is_on_queues c.service; name = c.object; pid = p; is_shared = false }

-- a name that process p opens, too
abbrev pub shared_with : ℕ → Opened → Opened
shared_with p o = record o { is_shared = o.is_shared || not (o.pid == p) }

abbrev pub opened_in : ℕ → List Opened → ℕ → Option Opened → List Opened
opened_in p os i None = os
opened_in p os i (Some o) = slice_set os i (shared_with p o)

abbrev pub opened_at : ℕ → Called → List Opened → Option ℕ → List Opened
opened_at p c os None = os ++ (opened_first p c ∷ [])
opened_at p c os (Some i) = opened_in p os i (slice_get os i)

-- process p opened what a call names
abbrev pub opened_with : ℕ → Called → List Opened → List Opened
opened_with p c os = opened_at p c os (position (is_named c) os)

-- whether two names, each opened by one process alone, and not by the same, differ by the case of letters alone
abbrev pub are_twins : Opened → Opened → Bool
are_twins a b =
    beq a.is_queue b.is_queue && not (a.pid == b.pid) && not a.is_shared && not b.is_shared
    && str_eq_ignore_ascii_case a.name b.name

-- the first behind the one at an index that is its twin
abbrev pub twin_after : List Opened → ℕ → Option Opened
twin_after os i = option_and_then (λ o. find (are_twins o) (drop (i + 1) os)) (slice_get os i)
