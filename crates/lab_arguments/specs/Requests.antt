-- Where notes on a request are told.
use Rattle.lab_arguments.specs.declared.request.Notes.{Notes}
use Rattle.lab_arguments.specs.declared.request.Notes.TheVariants.{AtTerminal}
use Rattle.lab_arguments.specs.declared.request.Request.{Request}
use Rattle.lab_arguments.specs.declared.request.Request.TheVariants.{Step, Trace, Run, Explore, Debug}

-- as the words of a command that runs programs say, and else at a terminal
abbrev pub notes_of : Request → Notes
notes_of (Step setup) = setup.notes
notes_of (Trace setup page) = setup.notes
notes_of (Run setup manner) = setup.notes
notes_of (Explore setup question) = setup.notes
notes_of (Debug setup) = setup.notes
notes_of other = AtTerminal
