-- The warnings that rest on where execution goes.
use Rattle.std.specs.Prelude.{ℕ, ◌+◌, Bool, ◌&&◌, Option, Some, None, List, length, if◌then◌else◌}
use Rattle.lc3_table.specs.Statements.{Line, Operand}
use Rattle.lc3_warnings.specs.Flows.{flow_of, last_flow, next_from}
use Rattle.lc3_warnings.specs.Labels.{defines_one, goes_on_to, flow_from}
use Rattle.lc3_warnings.specs.declared.flow.Flow.{Flow}
use Rattle.lc3_warnings.specs.declared.flow.Flow.TheVariants.{Data, GoesOn}
use Rattle.lc3_warnings.specs.declared.flow.Next.{Next}
use Rattle.lc3_warnings.specs.declared.walk.Around.{Around}
use Rattle.lc3_warnings.specs.declared.texts.Kind.{Kind}
use Rattle.lc3_warnings.specs.declared.texts.Kind.TheVariants as kind

-- a line between the lines before it and those behind it
abbrev pub around : List (Line Operand) → Line Operand → List (Line Operand) → Around
around before l after = record { previous = last_flow before; here = flow_of l; next = next_from (length before + 1) after }

-- whether execution begins at data: nothing with words stands before it
abbrev pub begins_at : Option Flow → Option Flow → Option Kind
begins_at None (Some Data) = Some kind.StartsInData
begins_at previous here = None

-- The first line with words is data.
abbrev pub starts_in_data : Around → Option Kind
starts_in_data a = begins_at a.previous a.here

-- whether the line of this number is data
abbrev pub into : ℕ → Flow → Option Kind
into n Data = Some (kind.RunsIntoData n)
into n f = None

-- from an instruction that goes on into the next line with words
abbrev pub goes_into : Option Flow → Option Next → Option Kind
goes_into (Some GoesOn) (Some n) = into n.line n.flow
goes_into here next = None

-- An instruction goes on, and the next line with words is data.
abbrev pub runs_into_data : Around → Option Kind
runs_into_data a = goes_into a.here a.next

-- from an instruction that goes on, where no line with words stands behind it
abbrev pub goes_past : Option Flow → Option Next → Option Kind
goes_past (Some GoesOn) None = Some kind.RunsPastEnd
goes_past here next = None

-- The last line with words is an instruction that goes on.
abbrev pub runs_past_end : Around → Option Kind
runs_past_end a = goes_past a.here a.next

-- A line defines one of these labels, where subroutines begin, and execution goes on there from an instruction above.
abbrev pub falls_into : (List ℕ → Bool) → Line Operand → Around → Option Kind
falls_into entries l a =
    if defines_one entries l && goes_on_to a.previous (flow_from a) then Some kind.FallsInto else None
