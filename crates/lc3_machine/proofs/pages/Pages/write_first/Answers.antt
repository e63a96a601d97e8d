use Rattle.std.proofs.Common.{arith, rules}
use Rattle.lc3_machine.proofs.PlacedPages.{made-then-written, made-is}
use Rattle.lc3_machine.proofs.pages.Pages.write_first.Goals as goal

pub write-requires-clause-made : goal.write-requires-clause-made
write-requires-clause-made c = made-is c.args.self.now c.make.new.self c.args.page (omega (arith, c.requires.page, c.make.ensures.count)) c.in_ok-make.ensures.ok

pub returns-clause-ok : goal.returns-clause-ok
returns-clause-ok c = search (rules, made-then-written)
