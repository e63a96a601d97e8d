-- Places in a text, as values.
use Rattle.serde_json.specs.Data.{Data, number, unsigned, object, member, no_members}
use Rattle.std.specs.Prelude.{codes}
use Rattle.lab_documents.specs.declared.positions.Position.{Position}
use Rattle.lab_documents.specs.declared.positions.Range.{Range}

abbrev pub position_data : Position → Data
position_data p = object (member (codes "character") (number (unsigned p.character)) (member (codes "line") (number (unsigned p.line)) no_members))

abbrev pub range_data : Range → Data
range_data r = object (member (codes "end") (position_data r.end) (member (codes "start") (position_data r.start) no_members))
