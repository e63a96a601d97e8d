use Rattle.std.proofs.Common.{sym}
use Rattle.lab_ways.proofs.HeldUnits.{no_units, first_units}
use Rattle.lab_ways.proofs.wanted.+next_units.Goals as goal

pub returns-in_default : goal.returns-in_default
returns-in_default g c = record { value = sym (no_units c.args.names.now c.args.held c.args.kernel.now c.args.pid c.args.call.now c.in_default.ensures.cases) }

pub returns : goal.returns
returns g c = record {
  value = first_units c.args.names.now c.in-Some.rest.now c.args.held c.args.kernel.now c.args.pid c.args.call.now c.next_held-digit.result c.in_ok-others.others c.in_ok-number.number c.in-Some.ensures.cases.0
      c.in_ok-number.ensures.value c.next_held-digit.ensures.value c.in_ok-others.ensures.value;
}
