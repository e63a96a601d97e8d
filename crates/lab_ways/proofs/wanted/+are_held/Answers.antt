use Rattle.std.proofs.Common.{arith, sym, ◌∙◌}
use Rattle.lab_ways.proofs.HeldUnits.{none_held, first_held, first_unheld}
use Rattle.lab_ways.proofs.wanted.+are_held.Goals as goal

pub returns-in_default : goal.returns-in_default
returns-in_default g c = record { value = sym (none_held c.args.names.now c.args.held c.in_default.ensures.cases) }

pub returns-then-held-eq1 : goal.returns-then-held-eq1
returns-then-held-eq1 g c = record {
  value = c.are_held.ensures.value ∙ sym (first_held c.args.names.now c.in-Some.rest.now c.args.held c.in-Some.ensures.cases.0 c.if-held-eq1.true);
}

pub returns : goal.returns
returns g c = record { value = sym (first_unheld c.args.names.now c.in-Some.rest.now c.args.held c.in-Some.ensures.cases.0 (omega (arith, c.if-held-eq1.false))) }
