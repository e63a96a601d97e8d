-- What can be required of what processes have written.
use Rattle.std.specs.Prelude.{ℕ, ◌≡◌, ◌++◌, List, Some, All, Any, slice_get}
use Rattle.lab_sched.specs.Worlds.{WorldState}
use Rattle.lab_questions.specs.declared.output.OutputNeed.{OutputNeed}
use Rattle.lab_questions.specs.declared.output.OutputPart.{OutputPart}
use Rattle.lab_questions.specs.declared.output.OutputRelation.{OutputRelation}
use Rattle.lab_questions.specs.declared.output.OutputRelation.TheVariants.{Equals, Contains}
use Rattle.lab_questions.specs.Requirements.{outputs}

-- the bytes stand in the output, one behind the other
abbrev pub IsWithin : List ℕ → List ℕ → Type 0
IsWithin bytes output = (front back : List ℕ) × (output ≡ front ++ (bytes ++ back))

-- the output is these bytes, or has them
abbrev pub Fits : OutputRelation → List ℕ → List ℕ → Type 0
Fits Equals bytes output = output ≡ bytes
Fits Contains bytes output = IsWithin bytes output

-- of what processes have written, what this one has is there, and as it is needed
abbrev pub HasOutput : OutputPart → List (List ℕ) → Type 0
HasOutput part written =
    (output : List ℕ) × (slice_get written part.process ≡ Some output) × Fits part.relation part.bytes.items output

-- the processes have written what each part of one of the alternatives needs
abbrev pub HasWritten : OutputNeed → WorldState → Type 0
HasWritten need w = Any (λ a. All (λ part. HasOutput part (outputs w)) a.parts.items) need.alternatives.items
