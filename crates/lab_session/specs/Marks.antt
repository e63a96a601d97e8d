-- Marks: addresses of processes that steps stop at, or whose words they watch.
use Rattle.std.specs.Prelude.{ℕ, ◌==◌, ◌&&◌, ◌||◌, not, nat_lt, Bool, false, Option, Some, None, List, ◌∷◌, ◌++◌, filter, slice_get}
use Rattle.std.specs.List.{list_any}
use Rattle.lab_sched.specs.Worlds.{Process, WorldState, machine_of}
use Rattle.lab_session.specs.declared.marks.MarkKind.{MarkKind}
use Rattle.lab_session.specs.declared.marks.MarkKind.TheVariants.{Break, Watch}
use Rattle.lab_session.specs.declared.marks.Mark.{Mark}

-- breaks come before watches
abbrev pub rank : MarkKind → ℕ
rank Break = 0
rank Watch = 1

-- whether a mark is of this kind
abbrev pub is_of : MarkKind → Mark → Bool
is_of kind m = rank m.kind == rank kind

-- the same address of the same process, of the same kind
abbrev pub is_same : Mark → Mark → Bool
is_same m n = is_of n.kind m && m.pid == n.pid && m.address == n.address

-- in the order of process and address
abbrev pub is_lower : Mark → Mark → Bool
is_lower m n = nat_lt m.pid n.pid || (m.pid == n.pid && nat_lt m.address n.address)

-- in the order of kind, process and address
abbrev pub is_before : Mark → Mark → Bool
is_before m n = nat_lt (rank m.kind) (rank n.kind) || (is_of n.kind m && is_lower m n)

-- whether a mark is one of these
abbrev pub has_mark : List Mark → Mark → Bool
has_mark ms m = list_any (λ n. is_same n m) ms

-- those before a mark, the mark, and those behind it
abbrev pub with_mark : List Mark → Mark → List Mark
with_mark ms m = filter (λ n. is_before n m) ms ++ m ∷ filter (λ n. is_before m n) ms

-- the other marks
abbrev pub without_mark : List Mark → Mark → List Mark
without_mark ms m = filter (λ n. not (is_same n m)) ms

-- the marks of a kind
abbrev pub of_kind : MarkKind → List Mark → List Mark
of_kind kind ms = filter (is_of kind) ms

-- a break at an address of a process
abbrev pub break_at : ℕ → ℕ → Mark
break_at pid a = record { kind = Break; pid = pid; address = a }

-- whether the program counter of process pid is at one of its breaks
abbrev pub stands_at_break : List Mark → ℕ → Option Process → Bool
stands_at_break ms pid None = false
stands_at_break ms pid (Some s) = has_mark ms (break_at pid (machine_of s).pc)

-- whether process pid is at a break in a world
abbrev pub is_at_break : List Mark → ℕ → WorldState → Bool
is_at_break ms pid w = stands_at_break ms pid (slice_get w.processes pid)
