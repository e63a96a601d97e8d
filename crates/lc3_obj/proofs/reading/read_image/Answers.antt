use Rattle.lc3_obj.proofs.NoObjects.{IsNoObject-odd, IsNoObject-long}
use Rattle.lc3_obj.proofs.reading.read_image.Goals as goal

pub returns-then-bytes-eq1-clause-refused : goal.returns-then-bytes-eq1-clause-refused
returns-then-bytes-eq1-clause-refused c _ = IsNoObject-odd c.args.bytes.now c.if-bytes-eq1.true

pub returns-then-origin-count-gt-IMAGE_END-clause-refused :
    goal.returns-then-origin-count-gt-IMAGE_END-clause-refused
returns-then-origin-count-gt-IMAGE_END-clause-refused c _ =
    IsNoObject-long c.args.bytes.now (rw c.word_at-origin.ensures.value at c.if-origin-count-gt-IMAGE_END.true)
