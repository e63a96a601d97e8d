-- A message about a line as what was found there.
use Rattle.lc3_messages.specs.declared.source.Finding.{Finding}
use Rattle.lc3_messages.specs.declared.telling.Told.{Told}

-- what was found, of which a message tells
abbrev pub finding_told : Told → Finding
finding_told t = record { line = t.line; what = t.what }
