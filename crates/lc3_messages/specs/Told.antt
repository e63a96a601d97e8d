-- What is found in a text, and what of it is told: which of its faults, and how they stand among the warnings.
use Rattle.std.specs.Prelude.{ℕ, ◌≡◌, ◌⊎◌, Bool, true, false, List, [], ◌∷◌, ◌++◌, map, length, take}
use Rattle.std.specs.List.Sorted.{IsPermutation}
use Rattle.lc3_table.specs.declared.operation.Fault.{Fault as Kind}
use Rattle.lc3_table.specs.declared.operation.Fault.TheVariants as fault
use Rattle.lc3_table.specs.declared.profile.Profile.{Profile}
use Rattle.lc3_asm.specs.Texts.{lines}
use Rattle.lc3_asm.specs.Faults.{reading, faults_of}
use Rattle.lc3_asm.specs.declared.passes.LineFault.{LineFault}
use Rattle.lc3_warnings.specs.declared.texts.Warning.{Warning as Told}
use Rattle.lc3_messages.specs.Counts.{told_warnings}
use Rattle.lc3_messages.specs.declared.source.Finding.{Finding}
use Rattle.lc3_messages.specs.declared.source.What.TheVariants.{Fault, Warning}

-- whether a fault is about a label that a line names, or defines again: it may be one only because an earlier line is faulty
abbrev pub names_a_label : Kind → Bool
names_a_label fault.Undefined = true
names_a_label fault.DuplicateLabel = true
names_a_label _ = false

-- a fault as what is found
abbrev pub finding_of : LineFault → Finding
finding_of f = record { line = f.line; what = Fault f.kind }

-- some of these faults, each once and in their order; only those about a label may be left out
abbrev pub AreFrom : List LineFault → List Finding → Type 0
AreFrom [] told = told ≡ []
AreFrom (f ∷ fs) told =
    ((names_a_label f.kind ≡ true) × AreFrom fs told)
    ⊎ ((rest : List Finding) × (told ≡ finding_of f ∷ rest) × AreFrom fs rest)

-- a warning as what is found
abbrev pub finding_of_warning : Told → Finding
finding_of_warning w = record { line = w.line; what = Warning w.kind }

-- what is found is in some order faults of these, at least one where there are some, and these warnings
pub record Tells (faults : List LineFault) (warnings : List Told) (found : List Finding) : Type 0 where
  pub told : List Finding
  pub from : AreFrom faults told
  pub some : told ≡ [] → faults ≡ []
  pub all : IsPermutation (told ++ map finding_of_warning warnings) found

-- the most findings that are told
abbrev pub most_told : ℕ
most_told = 100

-- the first findings of a text on this machine, where warnings of these names are left out
pub record AreTold (profile : Profile) (names : List (List ℕ)) (text : List ℕ) (told : List Finding) : Type 0 where
  pub found : List Finding
  pub all : Tells (faults_of (length (lines text)) (reading text)) (told_warnings profile names text) found
  pub first : told ≡ take most_told found
