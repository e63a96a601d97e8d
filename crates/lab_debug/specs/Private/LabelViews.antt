-- Labels without where they lie in memory.
use Rattle.lab_debug.specs.declared.accepting.Label.{Label}
use Rattle.lab_debug.specs.Labels.{LabelSeen}

-- a label as the definitions see it
abbrev pub label_seen : Label → LabelSeen
label_seen l = record { name = l.name.now; before = l.is_before; count = l.count }
