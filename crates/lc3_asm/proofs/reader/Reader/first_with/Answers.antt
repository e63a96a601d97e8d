use Rattle.std.proofs.Common.{◌∙◌, ap}
use Rattle.std.specs.Prelude.{unwrap_or}
use Rattle.lc3_asm.specs.Views.{seen_line}
use Rattle.lc3_asm.proofs.ReaderLemmas.{first-more}
use Rattle.lc3_asm.proofs.reader.Reader.first_with.Goals as goal

pub returns-then-self : goal.returns-then-self
returns-then-self c =
    let read = ap (λ r. r.read) c.self.view_is in
    record { value = rw c.if-self.true at (first-more c.self.inside.started c.self.inside.first _ c.args.self.now.read (seen_line c.args.line.now) read c.self.invariant.started_is c.self.invariant.first_is) }

pub returns-else-self : goal.returns-else-self
returns-else-self c =
    let read = ap (λ r. r.read) c.self.view_is in
    let more = rw c.if-self.false at (first-more c.self.inside.started c.self.inside.first _ c.args.self.now.read (seen_line c.args.line.now) read c.self.invariant.started_is c.self.invariant.first_is) in
    record { value = c.unwrap_or.ensures ∙ ap (λ o. unwrap_or o 0) c.origin.ensures.value ∙ more }
