use Rattle.std.proofs.Common.{◌≡◌, inr, ◌++◌, ◌∷◌, [], map, Result, OnErr, rules, arith}
use Rattle.std.proofs.lemmas.List.{length-map}
use Rattle.ipc_store.specs.Private.KeptRows.{row, row_of}
use Rattle.ipc_store.proofs.RowLemmas.{grown_last, rows_more, within_more}
use Rattle.ipc_store.proofs.kept.rows.Rows.add.Goals as goal
use Rattle.std.proofs.lemmas.Grind.{common_steps}

on_err : {T E P : Type 0} (r : Result T E) → P → OnErr r P
on_err x p = search rules

-- where the second part of the row was not added
same_rows : (c : goal.After-from_residual-in_err-extend_from_slice-2) → map (row_of c.extend_from_slice-2.new.self.items) c.reserve-2.new.self.items ≡ c.args.self.now
same_rows c = search rules

pub returns-in_err-extend_from_slice-2-clause-err : goal.returns-in_err-extend_from_slice-2-clause-err
returns-in_err-extend_from_slice-2-clause-err c = on_err c.from_residual-in_err-extend_from_slice-2.result (same_rows c)

pub invariant_of-self-2 : goal.invariant_of-self-2
invariant_of-self-2 c = grind (arith, common_steps, within_more)

new_rows : (c : goal.After-push_reserved-2) → map (row_of c.extend_from_slice-2.new.self.items) c.push_reserved-2.new.self.items ≡ c.args.self.now ++ row c.args.objects.now c.args.tables.now ∷ []
new_rows c = grind (arith, common_steps, rows_more)

pub returns-clause-kept : goal.returns-clause-kept
returns-clause-kept c = grind (arith, common_steps, length-map, new_rows, grown_last)

pub returns-clause-adds : goal.returns-clause-adds
returns-clause-adds c = inr (new_rows c)
