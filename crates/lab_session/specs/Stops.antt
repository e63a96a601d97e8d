-- Steps up to a break, or to a change of a watched word.
use Rattle.std.specs.Prelude.{ℕ, Bool, not, ◌&&◌, ◌||◌, if◌then◌else◌, Option, Some, None, List, [], ◌∷◌, replicate}
use Rattle.lab_sched.specs.Worlds.{WorldState, step_effect_in, step}
use Rattle.lab_sched.specs.Verdicts.{is_nothing}
use Rattle.lab_session.specs.Marks.{break_at, is_at_break}
use Rattle.lab_session.specs.Watches.{changes_watched}
use Rattle.lab_session.specs.declared.marks.Mark.{Mark}

-- whether a step of process pid leads it to a break or changes a watched word
abbrev pub is_stop : List Mark → ℕ → WorldState → Bool
is_stop ms pid w = is_at_break ms pid (step w pid) || changes_watched ms pid w

-- whether a step of process pid has an effect and is a stop
abbrev pub comes_to_stop : List Mark → ℕ → WorldState → Bool
comes_to_stop ms pid w = not (is_nothing (step_effect_in w pid)) && is_stop ms pid w

-- steps up to the first stop; all where there is none
unfoldable pub steps_to_stop : List Mark → WorldState → List ℕ → List ℕ
steps_to_stop ms w [] = []
steps_to_stop ms w (p ∷ ps) = p ∷ (if comes_to_stop ms p w then [] else steps_to_stop ms (step w p) ps)

-- the process whose step is the first stop
unfoldable pub stopped_process : List Mark → WorldState → List ℕ → Option ℕ
stopped_process ms w [] = None
stopped_process ms w (p ∷ ps) = if comes_to_stop ms p w then Some p else stopped_process ms (step w p) ps

-- at most n steps of process pid, up to an address; none where it is there already
abbrev pub steps_until : ℕ → ℕ → WorldState → ℕ → List ℕ
steps_until pid a w n =
    if is_at_break (break_at pid a ∷ []) pid w then [] else steps_to_stop (break_at pid a ∷ []) w (replicate n pid)
