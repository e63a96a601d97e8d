use Rattle.std.proofs.Common.{[], ◌∷◌, ◌++◌, ◌∙◌, ap, sym, take, flat_map, rules, arith}
use Rattle.std.proofs.Output.{has_written_append, has_written_of_eq}
use Rattle.std.proofs.lemmas.Bool.Decides.{nat_tests}
use Rattle.std.proofs.lemmas.List.{flat_map_more}
use Rattle.ipc_traps.proofs.Ranges.{words-more}
use Rattle.lab_sched.specs.Held.{process_view}
use Rattle.lab_sched.specs.Worlds.{machine_of}
use Rattle.lab_told.specs.Words.{character_text}
use Rattle.lc3_machine.specs.Console.{words_from}
use Rattle.lab_told.proofs.message.BareNameDisplay.fmt.Goals as goal

pub loop-i-preserved : goal.loop-i-preserved
loop-i-preserved g c = λ plain.
    let at = c.args.self.now.1 in
    let memory = (machine_of (process_view c.args.self.now.0.now)).memory in
    let done = take c.loop-i.i (words_from memory at) in
    let word = rw c.machine.ensures.process at c.word.ensures.word in
    let whole = rw c.machine.ensures.process at c.word.ensures.whole in
    let more = sym (words-more memory at c.loop-i.i whole (grind (arith, nat_tests))) in
    let next = flat_map_more character_text [] done c.word.result ∙ ap (λ w. flat_map character_text (done ++ w ∷ [])) word ∙ ap (flat_map character_text) more in
    has_written_of_eq _ _ _ _ _ next (has_written_append _ _ _ _ _ _ (c.loop-i.invariant plain) (search rules))
