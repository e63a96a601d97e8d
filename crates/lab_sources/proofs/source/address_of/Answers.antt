use Rattle.std.proofs.Common.{sym, ap, ◌∙◌, option_map, rules}
use Rattle.lc3_table.specs.Words.{same_name}
use Rattle.lab_sources.proofs.LabelLemmas.{find_here, find_behind}
use Rattle.lab_sources.proofs.source.address_of.Goals as goal

pub returns-then-eq_ignore_ascii_case : goal.returns-then-eq_ignore_ascii_case
unfolding same_name
returns-then-eq_ignore_ascii_case c =
    let here = find_here (λ e. same_name e.0 c.args.word.now) c.args.symbols.now c.loop-i.i (c.in_ok-name.name.now, c.in_ok-name.address) (search rules) (search rules) in
    record { value = ap (option_map (λ e. e.1)) (sym here ∙ c.loop-i.invariant) }

pub loop-i-preserved : goal.loop-i-preserved
unfolding same_name
loop-i-preserved c =
    sym (find_behind (λ e. same_name e.0 c.args.word.now) c.args.symbols.now c.loop-i.i (c.in_ok-name.name.now, c.in_ok-name.address) (search rules) (search rules)) ∙ c.loop-i.invariant
