use Rattle.std.proofs.Common.{◌∙◌, sym, ap}
use Rattle.std.specs.List.{position}
use Rattle.lab_server.specs.Documents.{is_of}
use Rattle.lab_server.specs.Private.Seen.{document_seen}
use Rattle.lab_server.proofs.DocumentLemmas.{position_seen}
use Rattle.lab_server.proofs.documents.Documents.place_of.Goals as goal

pub returns-clause-place : goal.returns-clause-place
returns-clause-place c =
    let uri = c.args.uri.now in
    c.place_in.ensures.place ∙ ap (position (λ d. is_of uri (document_seen d))) c.deref.ensures.value
    ∙ sym (position_seen (is_of uri) c.args.self.now.open.items)
