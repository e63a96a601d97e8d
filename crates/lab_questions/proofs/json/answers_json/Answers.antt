use Rattle.lab_questions.proofs.json.answers_json.Goals as goal

pub returns : goal.returns
returns c = record { line = rw (c.extent_of.ensures.text, c.limits_json-limits.ensures.text) at c.format.ensures.ok }
