-- Branches that read the condition codes from before a trap.
use Rattle.std.specs.Prelude.{ℕ, ◌+◌, Bool, true, false, ◌&&◌, nat_le, Option, Some, None, List, [], ◌∷◌, length, if◌then◌else◌}
use Rattle.lc3_table.specs.declared.operation.Operation.{Operation}
use Rattle.lc3_table.specs.declared.operation.Operation.TheVariants as op
use Rattle.lc3_table.specs.Statements.{Line, Operates, Operand, Register, Number}
use Rattle.lc3_warnings.specs.Flows.{is_call, trap_flow_of, first_with_words}
use Rattle.lc3_warnings.specs.Labels.{defines_one}
use Rattle.lc3_warnings.specs.declared.flow.Flow.{Flow}
use Rattle.lc3_warnings.specs.declared.flow.Flow.TheVariants.{GoesOn}
use Rattle.lc3_warnings.specs.declared.texts.Kind.{Kind}
use Rattle.lc3_warnings.specs.declared.texts.Kind.TheVariants as kind

-- whether a line branches by the codes: BR and BRnzp don't
abbrev pub reads_codes : Line Operand → Bool
reads_codes (Operates l (op.Branch true true true) xs) = false
reads_codes (Operates l (op.Branch n z p) xs) = true
reads_codes _ = false

-- whether a line leaves the codes as they are and isn't a trap: a store, NOP, or a line without words
abbrev pub keeps_codes : Line Operand → Bool
keeps_codes (Operates l op.Store xs) = true
keeps_codes (Operates l op.StoreIndirect xs) = true
keeps_codes (Operates l op.StoreBaseOffset xs) = true
keeps_codes (Operates l op.NoOperation xs) = true
keeps_codes (Operates l o xs) = false
keeps_codes _ = true

-- the lines above a line, nearest first, without those that keep the codes; none where a line names the label of the
-- line itself or of one that is left out, since codes may come there from elsewhere
abbrev pub where_codes_come_from : (List ℕ → Bool) → Line Operand → List (Line Operand) → List (Line Operand)
where_codes_come_from labels l [] = []
where_codes_come_from labels l (m ∷ above) =
    if defines_one labels l then []
    else if keeps_codes m then where_codes_come_from labels m above else m ∷ above

-- how many registers a TRAP takes that goes on, from R0 on: a call of the kernel four, a console trap one
abbrev pub taken_by : Flow → List Operand → Option ℕ
taken_by GoesOn (Number z ∷ xs) = if is_call z then Some 4 else Some 1
taken_by f xs = None

-- how many registers a line takes that is a trap behind which execution goes on; no trap sets the codes
abbrev pub trap_takes : Line Operand → Option ℕ
trap_takes (Operates l op.Trap xs) = taken_by (trap_flow_of xs) xs
trap_takes (Operates l op.Getc xs) = Some 1
trap_takes (Operates l op.Out xs) = Some 1
trap_takes (Operates l op.Puts xs) = Some 1
trap_takes (Operates l op.In xs) = Some 1
trap_takes (Operates l op.Putsp xs) = Some 1
trap_takes _ = None

-- whether an operation sets the codes by what it computes or loads
abbrev pub sets_codes : Operation → Bool
sets_codes op.Add = true
sets_codes op.And = true
sets_codes op.Not = true
sets_codes op.Load = true
sets_codes op.LoadIndirect = true
sets_codes op.LoadBaseOffset = true
sets_codes o = false

-- whether the first operand is a register beyond the first n
abbrev pub is_beyond : ℕ → List Operand → Bool
is_beyond n (Register r ∷ xs) = nat_le n r
is_beyond n xs = false

-- whether a line sets the codes by a register beyond the first n
abbrev pub sets_codes_beyond : ℕ → Option (Line Operand) → Bool
sets_codes_beyond n (Some (Operates l o xs)) = sets_codes o && is_beyond n xs
sets_codes_beyond n l = false

-- the warning of the trap below these lines, which takes n registers; the codes may be meant to stay over it where the
-- line above it sets them by a register that it doesn't take
abbrev pub stale_below : Option ℕ → List (Line Operand) → Option Kind
stale_below None above = None
stale_below (Some n) above =
    if sets_codes_beyond n (first_with_words above) then None else Some (kind.StaleCodes (length above + 1))

-- the same of the first of these lines, the nearest first
abbrev pub stale_from : List (Line Operand) → Option Kind
stale_from [] = None
stale_from (m ∷ above) = stale_below (trap_takes m) above

-- A branch reads the codes, a trap stands above it, and no line between sets them.
abbrev pub stale_codes : (List ℕ → Bool) → Line Operand → List (Line Operand) → Option Kind
stale_codes labels l above = if reads_codes l then stale_from (where_codes_come_from labels l above) else None
