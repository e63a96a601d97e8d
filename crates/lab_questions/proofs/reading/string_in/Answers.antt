use Rattle.std.proofs.Common.{◌∙◌, sym, ap, arith}
use Rattle.std.specs.Prelude.{option_map}
use Rattle.lab_questions.specs.Written.{string_in}
use Rattle.lab_questions.specs.Private.Readings.{behind_these}
use Rattle.lab_questions.proofs.ReadingLemmas.{before-append}
use Rattle.lab_questions.proofs.reading.string_in.Goals as goal

pub loop-rest-preserved : goal.loop-rest-preserved
loop-rest-preserved c = (
  before-append c.loop-rest.bytes.items c.push.new.self.items c.in-Some.byte (string_in c.in-Some.after.now) c.in_ok-push.ensures.items
      ∙ ap (option_map (behind_these c.loop-rest.bytes.items)) (sym c.in-Some.ensures.first)
      ∙ c.loop-rest.invariant.0,
  omega (arith, c.in-Some.ensures.shorter, c.loop-rest.invariant.1),
)
