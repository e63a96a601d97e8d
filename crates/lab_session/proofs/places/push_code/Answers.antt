use Rattle.std.proofs.Common.{ℕ, List, ◌++◌, ap, ◌∙◌, string_bytes}
use Rattle.std.proofs.Common.{◌+◌}
use Rattle.std.specs.Prelude.{slice_index}
use Rattle.lab_sched.specs.Held.{process_view}
use Rattle.std.specs.Option.{option_map}
use Rattle.lab_session.specs.Places.{code_line}
use Rattle.lab_sched.specs.Worlds.{machine_of}
use Rattle.lab_texts.proofs.RowLemmas.{texts_below_more}
use Rattle.lab_session.proofs.places.push_code.Goals as goal

pub loop-i-preserved : goal.loop-i-preserved
loop-i-preserved c =
    let text : ℕ → List ℕ = λ k. code_line (option_map (λ x. x.now) c.args.listing) (c.args.address + k) (slice_index (machine_of (process_view c.args.process.now)).memory (c.args.address + k)) in
    let wrote = rw (c.word.ensures.word, c.machine.ensures.process) at c.in_ok-push_code_line.ensures.text in
    wrote ∙ ap (λ bytes. bytes ++ text c.loop-i.i) c.loop-i.invariant ∙ texts_below_more (string_bytes c.args.text.now) text c.loop-i.i
