-- When the JSON of moments has too many bytes.
use Rattle.std.proofs.Common.{◌≡◌, ℕ, List, ◌++◌, sym, ap, ◌∙◌, append_assoc, arith, length-append}
use Rattle.serde_json.specs.Data.{Data}
use Rattle.lab_sched.specs.Worlds.{WorldState}
use Rattle.lab_sched.specs.declared.schedule.Block.{Block}
use Rattle.lab_page.specs.Private.Json.{more_json}
use Rattle.lab_page.specs.Faults.{Explains, IsFault}
use Rattle.lab_page.specs.declared.paging.PageFault.{PageFault}
use Rattle.lab_page.specs.declared.paging.PageFault.TheVariants.{NoProcess, TooLarge, NoMemory}
use Rattle.lab_page.proofs.JsonLemmas.{more-append}

-- JSON that is too long is so with more behind it
pub fault-longer : (e : PageFault) (xs ys : List ℕ) → IsFault e xs → IsFault e (xs ++ ys)
fault-longer (NoProcess done) xs ys h = h
fault-longer TooLarge xs ys h = omega (arith, h, length-append xs ys)
fault-longer NoMemory xs ys h = tt

-- the JSON before, that of the steps so far, that of the next steps, and that of those behind them
pub regrouped : (old was : List ℕ) (first more rest all : List Data) → was ≡ old ++ more_json first → all ≡ first ++ (more ++ rest)
    → (was ++ more_json more) ++ more_json rest ≡ old ++ more_json all
regrouped old was first more rest all was-is all-is =
    append_assoc was (more_json more) (more_json rest) ∙ ap (λ (l : List ℕ). l ++ (more_json more ++ more_json rest)) was-is
    ∙ append_assoc old (more_json first) (more_json more ++ more_json rest)
    ∙ ap (λ (l : List ℕ). old ++ (more_json first ++ l)) (sym (more-append more rest))
    ∙ ap (λ (l : List ℕ). old ++ l) (sym (more-append first (more ++ rest)) ∙ ap more_json (sym all-is))

-- why there is no page is why there is none of the run
pub fault_explains : (e : PageFault) (w : WorldState) (s : List Block) (json : List ℕ) → IsFault e json → Explains e w s json
fault_explains (NoProcess done) w s json h = absurd h
fault_explains TooLarge w s json h = h
fault_explains NoMemory w s json h = tt
