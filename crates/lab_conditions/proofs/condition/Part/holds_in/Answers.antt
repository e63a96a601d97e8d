use Rattle.lab_conditions.proofs.condition.Part.holds_in.Goals as goal

pub returns-in-Of : goal.returns-in-Of
returns-in-Of c = record { holds = rw c.in-Of.is c.is_one_so.ensures.so }
