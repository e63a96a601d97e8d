-- The operation of a line.
use Rattle.std.specs.Prelude.{Option, Some, None, List}
use Rattle.lc3_table.specs.declared.operation.Operation.{Operation}
use Rattle.lc3_table.specs.Statements.{Line, Operates, Operand}

-- the operation of a line with its operands, if it has one
abbrev pub statement_of : Line Operand → Option (Operation × List Operand)
statement_of (Operates l o xs) = Some (o, xs)
statement_of _ = None
