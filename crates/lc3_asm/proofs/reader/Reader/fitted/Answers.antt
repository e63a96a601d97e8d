use Rattle.std.proofs.Common.{map, ap}
use Rattle.lc3_asm.specs.Texts.{label_of}
use Rattle.lc3_asm.specs.Views.{seen_line}
use Rattle.lc3_asm.proofs.ReaderLemmas.{bare-room}
use Rattle.lc3_asm.proofs.reader.Reader.fitted.Goals as goal

pub returns-else-has_room-clause-room : goal.returns-else-has_room-clause-room
returns-else-has_room-clause-room c =
    bare-room c.self.inside.placed.symbols c.self.inside.placed.places.items c.self.inside.started c.self.inside.first c.self.inside.count
    (map seen_line c.self.inside.placed.lines.items) c.args.self.now.read (seen_line c.label_alone.result) (label_of (seen_line c.args.line))
    c.self.invariant (ap (λ r. r.read) c.self.view_is) c.label_alone.ensures.value
