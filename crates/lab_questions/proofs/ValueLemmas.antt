-- Values of JSON, one after the other.
use Rattle.std.proofs.Common.{ℕ, zero, suc, ◌≡◌, ◌<◌, ◌+◌, true, false, cond, nat_lt, List, [], ◌∷◌, ◌++◌, flat_map, get_or, length, map, slice_get, take, unwrap_or, refl, sym, ap, ap₂, ◌∙◌, append_assoc, append-nil, codes, arith}
use Rattle.std.specs.List.{enumerate_from}
use Rattle.std.specs.Prelude.{option_map}
use Rattle.std.proofs.lemmas.Bool.Decides.{nat_tests}
use Rattle.std.proofs.lemmas.List.{get_or-map, length-map}
use Rattle.std.proofs.lemmas.List.FromFn.{length-enumerate_from}
use Rattle.std.proofs.lemmas.Option.{slice_get-map, slice_get-get_or, unwrap_or-slice_get}
use Rattle.lc3_word.specs.Words.{hexadecimal_text}
use Rattle.lab_sched.specs.Worlds.{machine_of, Process}
use Rattle.lab_worlds.specs.declared.ends.End.{End}
use Rattle.lab_questions.specs.declared.asked.Show.{Show}
use Rattle.std.specs.Fmt.{decimal}
use Rattle.ipc_kernel.specs.Kernel.{KernelState}
use Rattle.lab_sched.specs.declared.schedule.Block.{Block}
use Rattle.lab_sched.specs.Verdicts.{verdict_word}
use Rattle.lab_questions.specs.Findings.{end_json, end_or_null, ends_told}
use Rattle.lab_questions.specs.LeftMembers.{left_member}
use Rattle.lab_questions.specs.Private.Rows.{comma_before}
use Rattle.lab_questions.specs.ProcessMembers.{process_json, processes_json, status_word, stop_member}
use Rattle.lab_questions.specs.Values.{array_json, character_json, further_json, schedule_json, text_json, values_json}
use Rattle.lab_questions.proofs.ListLemmas.{flat_map-next}

-- the value in a place
pub value_at : {X : Type 0} (f : X → List ℕ) (xs : List X) (k : ℕ) (x : X) → k < length (map f xs) → x ≡ get_or xs k x → get_or (map f xs) k [] ≡ f x
value_at f xs k x within is = get_or-map f xs k x [] (omega (arith, within, length-map xs f)) ∙ ap f (sym is)

-- the same by what is found there
pub value_found : {X : Type 0} (f : X → List ℕ) (xs : List X) (k : ℕ) → get_or (map f xs) k [] ≡ unwrap_or (option_map f (slice_get xs k)) []
value_found f xs k = sym (unwrap_or-slice_get (map f xs) k []) ∙ ap (λ o. unwrap_or o []) (slice_get-map f xs k)

-- one value more
pub values_next : (vs : List (List ℕ)) (i : ℕ) → i < length vs → values_json (take i vs) ++ (comma_before i ++ get_or vs i []) ≡ values_json (take (i + 1) vs)
values_next [] i within = absurd (omega (arith, within))
values_next (v ∷ vs) zero within = sym (append-nil v)
values_next (v ∷ vs) (suc i) within =
    let later : nat_lt 0 (suc i) ≡ true = grind (arith, nat_tests) in
    let next : suc (i + 1) ≡ suc i + 1 = omega arith in
    ap (λ b. values_json (take (suc i) (v ∷ vs)) ++ (cond b (codes ",") [] ++ get_or vs i [])) later
    ∙ append_assoc v (further_json (take i vs)) (codes "," ++ get_or vs i [])
    ∙ ap (λ l. v ++ l) (flat_map-next (λ value. codes "," ++ value) [] vs i (get_or vs i []) (slice_get-get_or vs i [] (omega (arith, within))))
    ∙ ap (λ n. values_json (take n (v ∷ vs))) next

-- as many as there are numbers
pub ends_count : (show : Show) (ends : List End) (numbers : List ℕ) → length (ends_told show ends numbers) ≡ length numbers
unfolding ends_told
ends_count show ends numbers = length-map (enumerate_from 0 numbers) (λ (told : ℕ × ℕ). end_or_null show (told.0 + 1) (slice_get ends told.1)) ∙ length-enumerate_from 0 numbers

numbered : (show : Show) (ends : List End) (m : ℕ) (numbers : List ℕ) (k n : ℕ) → k < length numbers → n ≡ get_or numbers k n
    → get_or (map (λ told. end_or_null show (told.0 + 1) (slice_get ends told.1)) (enumerate_from m numbers)) k [] ≡ end_or_null show (m + k + 1) (slice_get ends n)
numbered show ends m [] k n within is = absurd (omega (arith, within))
numbered show ends m (x ∷ xs) zero n within is = let same : m ≡ m + 0 = omega arith in ap₂ (λ a b. end_or_null show (a + 1) (slice_get ends b)) same (sym is)
numbered show ends m (x ∷ xs) (suc k) n within is =
    let same : (m + 1) + k ≡ m + suc k = omega arith in
    numbered show ends (m + 1) xs k n (omega (arith, within)) is ∙ ap (λ j. end_or_null show (j + 1) (slice_get ends n)) same

-- the end in a place
pub end_at : (show : Show) (ends : List End) (numbers : List ℕ) (k n : ℕ) → k < length (ends_told show ends numbers) → n ≡ get_or numbers k n
    → get_or (ends_told show ends numbers) k [] ≡ end_or_null show (k + 1) (slice_get ends n)
unfolding ends_told
end_at show ends numbers k n within is =
    let same : 0 + k ≡ k = omega arith in
    numbered show ends 0 numbers k n (omega (arith, within, ends_count show ends numbers)) is ∙ ap (λ j. end_or_null show (j + 1) (slice_get ends n)) same

-- the members of an end
pub end_written : (show : Show) (n : ℕ) (e : End) (word : List ℕ) (kernel : KernelState) (blocks : List Block) → word ≡ verdict_word e.verdict → kernel ≡ e.world.kernel → blocks ≡ e.schedule
    → codes "{\"end\":" ++ (decimal n ++ (codes ",\"processes\":" ++ (processes_json show.out e.world ++ (codes ",\"verdict\":\"" ++ (word ++ (codes "\"" ++ (left_member show.left kernel
    ++ (codes ",\"schedule\":" ++ (schedule_json blocks ++ codes "}"))))))))) ≡ end_json show n e
unfolding end_json
end_written show n e word kernel blocks verdict held steps =
    let rest = left_member show.left e.world.kernel ++ (codes ",\"schedule\":" ++ (schedule_json e.schedule ++ codes "}")) in
    rw (verdict, held, steps)
    (ap (λ t. codes "{\"end\":" ++ (decimal n ++ (codes ",\"processes\":" ++ (processes_json show.out e.world ++ (codes ",\"verdict\":\"" ++ t)))))
    (sym (append_assoc (verdict_word e.verdict) (codes "\"") rest)))

-- arrays of one value and of two
pub one_listed : (a : List ℕ) → array_json (a ∷ []) ≡ codes "[" ++ (a ++ codes "]")
one_listed a = simp append-nil

pub two_listed : (a b : List ℕ) → array_json (a ∷ b ∷ []) ≡ codes "[" ++ (a ++ (codes "," ++ (b ++ codes "]")))
two_listed a b = simp (append_assoc, append-nil)

-- a process, and what it has written alone
pub process_told : (s : Process) → process_json false s
    ≡ codes "{\"status\":\"" ++ (status_word s ++ (codes "\",\"pc\":\"" ++ (hexadecimal_text (machine_of s).pc ++ (codes "\"," ++ (stop_member s
    ++ (codes ",\"out\":" ++ (text_json (machine_of s).output ++ codes "}")))))))
unfolding process_json
process_told s =
    let word = status_word s in
    let pc = hexadecimal_text (machine_of s).pc in
    let rest = codes "," ++ (stop_member s ++ (codes ",\"out\":" ++ (text_json (machine_of s).output ++ codes "}"))) in
    ap (λ t. codes "{\"status\":\"" ++ t) (append_assoc word (codes "\"") (codes ",\"pc\":\"" ++ ((pc ++ codes "\"") ++ rest)))
    ∙ ap (λ t. codes "{\"status\":\"" ++ (word ++ (codes "\",\"pc\":\"" ++ t))) (append_assoc pc (codes "\"") rest)

pub output_told : (s : Process) → process_json true s ≡ codes "{\"out\":" ++ (text_json (machine_of s).output ++ codes "}")
unfolding process_json
output_told s = refl

-- the texts of objects
pub semaphore_told : (name : List ℕ) → text_json (codes "sem " ++ name) ≡ codes "\"sem " ++ (flat_map character_json name ++ codes "\"")
unfolding text_json character_json
semaphore_told name = refl

pub queue_told : (name : List ℕ) → text_json (codes "mq " ++ name) ≡ codes "\"mq " ++ (flat_map character_json name ++ codes "\"")
unfolding text_json character_json
queue_told name = refl
