use Rattle.std.proofs.Common.{◌≡◌, ◌++◌, string_bytes}
use Rattle.lab_texts.specs.Objects.{semaphore_text}
use Rattle.lab_texts.specs.Rows.{texts_below}
use Rattle.lab_texts.proofs.objects.sems_text.Given as goal

-- the texts so far are added
abbrev pub invariant-loop-place : goal.invariant-loop-place
invariant-loop-place l = string_bytes l.text ≡ string_bytes l.initial.text ++ texts_below l.place (λ place. semaphore_text place l.world)
