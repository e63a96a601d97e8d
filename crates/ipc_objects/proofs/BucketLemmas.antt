-- Messages in buckets by priority.
use Rattle.std.proofs.Common.{IfSome, IfNone, ◌≡◌, ℕ, ◌-◌, ◌≤◌, ◌<◌, cond, List, [], ◌∷◌, ◌++◌, length, Option, Some, None, unwrap_or, IsSome, Result, Ok, Err, OnOk, OnErr, refl, sym, ap, subst, ◌∙◌, arith, All, append_assoc, append-nil, length-append, Ordering, Less, Equal, Greater, nat_cmp, is_eq, rules}
use Rattle.std.specs.Cmp.{nat_cmp_total}
use Rattle.std.specs.Ordering.{match_ordering}
use Rattle.std.specs.List.{slice_get, AllByRecursion}
use Rattle.std.specs.List.Sorted.{IsStrictlySortedBy}
use Rattle.std.specs.Map.{keys_of, lookup, set_value}
use Rattle.std.specs.BTreeMap.{is_at, insert_entry}
use Rattle.std.proofs.lemmas.Bool.Decides.{nat_tests}
use Rattle.std.proofs.lemmas.List.Elements.{All-nil, All-cons, All-head, All-tail, All-append, All-weaker, All-push}
use Rattle.std.proofs.lemmas.Map.{lookup-none}
use Rattle.std.proofs.lemmas.Map.Entries.{none_below_head}
use Rattle.std.proofs.lemmas.Map.Keys.{sorted_head, sorted_tail}
use Rattle.std.proofs.lemmas.Map.Steps.{set_value_same}
use Rattle.ipc_objects.specs.declared.queue.Message.{Message}
use Rattle.ipc_objects.specs.Queue.{after_send}
use Rattle.ipc_objects.specs.Private.Buckets.{messages_of_buckets, bucket_at, buckets_with_message, after_greatest, AreBelow, IsBucket, AreBuckets}
use Rattle.ipc_objects.proofs.SentLemmas.{All-sent, sent-all, sent-append-less, sent-append-greater, slice_get-append_here, slice_get-append_later}
use Rattle.std.proofs.lemmas.Grind.{common_steps}

abbrev Entries : Type 0
Entries = List (ℕ × List Message)

-- how two priorities compare
less_is : (a b : ℕ) → nat_cmp a b ≡ Less → a < b
less_is a b e = grind (arith, nat_tests)

equal_is : (a b : ℕ) → nat_cmp a b ≡ Equal → a ≡ b
equal_is a b e = grind (arith, nat_tests)

greater_is : (a b : ℕ) → nat_cmp a b ≡ Greater → b < a
greater_is a b e = grind (arith, nat_tests)

-- the messages of buckets above a priority are above it
above : (p : ℕ) (es : Entries) → AllByRecursion (λ q. nat_cmp p q ≡ Less) (keys_of es) → All IsBucket es → All (λ m. p < m.priority) (messages_of_buckets es)
above p [] less each = All-nil (λ m. p < m.priority)
above p (e ∷ es) less each =
    let here : p < e.0 = less_is p e.0 less.0 in
    All-append (λ m. p < m.priority) (messages_of_buckets es) e.1 (above p es less.1 (All-tail IsBucket e es each))
    (All-weaker (λ m. m.priority ≡ e.0) (λ m. p < m.priority) (λ m is. omega arith) e.1 (All-head IsBucket e es each).1)

-- a message goes to the end of the bucket of its priority
pub joined_put : (m : Message) (es : Entries) → IsStrictlySortedBy nat_cmp (keys_of es) → All IsBucket es
    → messages_of_buckets (buckets_with_message es m) ≡ after_send m (messages_of_buckets es)
joined_put m [] sorted each = refl
joined_put m (e ∷ es) sorted each = by (nat_cmp m.priority e.0) refl (joined_put m es (sorted_tail nat_cmp e.0 (keys_of es) sorted) rest)
  where
    p : ℕ
    p = m.priority

    rest : All IsBucket es
    rest = All-tail IsBucket e es each

    here : All (λ x. x.priority ≡ e.0) e.1
    here = (All-head IsBucket e es each).1

    higher : All (λ x. e.0 < x.priority) (messages_of_buckets es)
    higher = above e.0 es (sorted_head nat_cmp e.0 (keys_of es) sorted) rest

    most : p ≤ e.0 → All (λ x. p ≤ x.priority) (messages_of_buckets es ++ e.1)
    most le =
        All-append (λ x. p ≤ x.priority) (messages_of_buckets es) e.1 (All-weaker (λ x. e.0 < x.priority) (λ x. p ≤ x.priority) (λ x lt. omega arith) (messages_of_buckets es) higher)
        (All-weaker (λ x. x.priority ≡ e.0) (λ x. p ≤ x.priority) (λ x is. omega arith) e.1 here)

    by : (r : Ordering) → nat_cmp p e.0 ≡ r → messages_of_buckets (insert_entry nat_cmp es p (bucket_at es p ++ m ∷ [])) ≡ after_send m (messages_of_buckets es)
        → messages_of_buckets (match_ordering r ((p, unwrap_or (cond (is_eq r) (Some e.1) (lookup (is_at (nat_cmp p)) es)) [] ++ m ∷ []) ∷ e ∷ es)
        ((e.0, unwrap_or (cond (is_eq r) (Some e.1) (lookup (is_at (nat_cmp p)) es)) [] ++ m ∷ []) ∷ es)
        (e ∷ insert_entry nat_cmp es p (unwrap_or (cond (is_eq r) (Some e.1) (lookup (is_at (nat_cmp p)) es)) [] ++ m ∷ []))) ≡ after_send m (messages_of_buckets es ++ e.1)
    by Less is later =
        let none = lookup-none (is_at (nat_cmp p)) es (none_below_head nat_cmp_total p e es sorted is).1 in
        rw none (sym (sent-all m (messages_of_buckets es ++ e.1) (most (let lt = less_is p e.0 is in omega arith))))
    by Equal is later =
        sym (sent-all m (messages_of_buckets es ++ e.1) (most (let same = equal_is p e.0 is in omega arith)) ∙ append_assoc (messages_of_buckets es) e.1 (m ∷ []))
    by Greater is later =
        ap (λ ms. ms ++ e.1) later
        ∙ sym (sent-append-less m (messages_of_buckets es) e.1 (All-weaker (λ x. x.priority ≡ e.0) (λ x. x.priority < p) (λ x same. let lt = greater_is p e.0 is in omega arith) e.1 here))

-- what is put into a bucket is of its priority
bucket_is : (p : ℕ) (es : Entries) → All IsBucket es → All (λ m. m.priority ≡ p) (bucket_at es p)
bucket_is p [] each = All-nil (λ m. m.priority ≡ p)
bucket_is p (e ∷ es) each = search (rules, All-weaker, All-head, (bucket_is p es (All-tail IsBucket e es each)))

each_put : (p : ℕ) (b : List Message) (es : Entries) → All IsBucket es → IsBucket (p, b) → All IsBucket (insert_entry nat_cmp es p b)
each_put p b [] each new = All-cons IsBucket (p, b) [] new (All-nil IsBucket)
each_put p b (e ∷ es) each new = by (nat_cmp p e.0) refl (each_put p b es (All-tail IsBucket e es each) new)
  where
    by : (r : Ordering) → nat_cmp p e.0 ≡ r → All IsBucket (insert_entry nat_cmp es p b) → All IsBucket (match_ordering r ((p, b) ∷ e ∷ es) ((e.0, b) ∷ es) (e ∷ insert_entry nat_cmp es p b))
    by Less is later = All-cons IsBucket (p, b) (e ∷ es) new each
    by Equal is later = All-cons IsBucket (e.0, b) es (rw (← equal_is p e.0 is) new) (All-tail IsBucket e es each)
    by Greater is later = All-cons IsBucket e (insert_entry nat_cmp es p b) (All-head IsBucket e es each) later

-- buckets stay buckets when a message is put in
pub buckets_put : (m : Message) (es new : Entries) → AreBuckets es → new ≡ buckets_with_message es m → IsStrictlySortedBy nat_cmp (keys_of new) → AreBuckets new
buckets_put m es new inv is sorted = record {
  ordered = sorted;
  each = rw is (each_put m.priority (bucket_at es m.priority ++ m ∷ []) es inv.each (
    rw length-append (omega arith),
    All-push (λ x. x.priority ≡ m.priority) (bucket_at es m.priority) m (bucket_is m.priority es inv.each) refl,
  ));
}

-- the last bucket has the first messages
pub joined_last : (es : Entries) (e : ℕ × List Message) → messages_of_buckets (es ++ e ∷ []) ≡ e.1 ++ messages_of_buckets es
joined_last [] e = sym (append-nil e.1)
joined_last (f ∷ es) e = ap (λ ms. ms ++ f.1) (joined_last es e) ∙ append_assoc e.1 (messages_of_buckets es) f.1

-- a key above those of all entries goes to the end
put_behind : (p : ℕ) (b : List Message) (es : Entries) → All (λ e. e.0 < p) es → insert_entry nat_cmp es p b ≡ es ++ (p, b) ∷ []
put_behind p b [] below = refl
put_behind p b (e ∷ es) below = search (rules, below, All-tail, All-head, less_is, equal_is, (put_behind p b es (All-tail (λ f. f.0 < p) e es below)))

-- the keys before another one are below it
keys_before : (xs ys : Entries) (e : ℕ × List Message) → IsStrictlySortedBy nat_cmp (keys_of (xs ++ e ∷ ys)) → All (λ f. f.0 < e.0) xs
keys_before [] ys e sorted = All-nil (λ f. f.0 < e.0)
keys_before (x ∷ xs) ys e sorted =
    All-cons (λ f. f.0 < e.0) x xs (before xs (sorted_head nat_cmp x.0 (keys_of (xs ++ e ∷ ys)) sorted)) (keys_before xs ys e (sorted_tail nat_cmp x.0 (keys_of (xs ++ e ∷ ys)) sorted))
  where
    before : (zs : Entries) → AllByRecursion (λ q. nat_cmp x.0 q ≡ Less) (keys_of (zs ++ e ∷ ys)) → x.0 < e.0
    before [] all = less_is x.0 e.0 all.0
    before (z ∷ zs) all = before zs all.1

-- what is written to a bucket that is there is put at its priority
set_is_put : (p : ℕ) (b w : List Message) (es : Entries) → IsStrictlySortedBy nat_cmp (keys_of es) → lookup (is_at (nat_cmp p)) es ≡ Some b → set_value (is_at (nat_cmp p)) es w ≡ insert_entry nat_cmp es p w
set_is_put p b w [] sorted here = absurd cc
set_is_put p b w (e ∷ es) sorted here = by (nat_cmp p e.0) refl here (set_is_put p b w es (sorted_tail nat_cmp e.0 (keys_of es) sorted))
  where
    by : (r : Ordering) → nat_cmp p e.0 ≡ r → cond (is_eq r) (Some e.1) (lookup (is_at (nat_cmp p)) es) ≡ Some b
        → (lookup (is_at (nat_cmp p)) es ≡ Some b → set_value (is_at (nat_cmp p)) es w ≡ insert_entry nat_cmp es p w)
        → cond (is_eq r) ((e.0, w) ∷ es) (e ∷ set_value (is_at (nat_cmp p)) es w) ≡ match_ordering r ((p, w) ∷ e ∷ es) ((e.0, w) ∷ es) (e ∷ insert_entry nat_cmp es p w)
    by Less is some later =
        let none = lookup-none (is_at (nat_cmp p)) es (none_below_head nat_cmp_total p e es sorted is).1 in
        let never : ⊥ = cc in
        absurd never
    by Equal is some later = refl
    by Greater is some later = ap (λ fs. e ∷ fs) (later some)

pub put_in : (m : Message) (b w : List Message) (es new : Entries) → IsStrictlySortedBy nat_cmp (keys_of es) → Some b ≡ lookup (is_at (nat_cmp m.priority)) es → new ≡ set_value (is_at (nat_cmp m.priority)) es w → w ≡ b ++ m ∷ []
    → new ≡ buckets_with_message es m
put_in m b w es new sorted here is w_is = search (rules, set_is_put)

pub put_back : (p : ℕ) (b w : List Message) (es new : Entries) → Some b ≡ lookup (is_at (nat_cmp p)) es → new ≡ set_value (is_at (nat_cmp p)) es w → w ≡ b → new ≡ es
put_back p b w es new here is w_is = is ∙ set_value_same (is_at (nat_cmp p)) es w (sym here ∙ ap (λ ms. Some ms) (sym w_is))

-- buckets stay buckets whether a message is put in or not
pub buckets_pushed : {T E : Type 0} (r : Result T E) (m : Message) (es new : Entries) → AreBuckets es
    → OnOk r (new ≡ buckets_with_message es m) → OnErr r (new ≡ es) → OnOk r (IsStrictlySortedBy nat_cmp (keys_of new)) → AreBuckets new
buckets_pushed x m es new inv is same sorted = search (rules, buckets_put)

-- the message after `left` others of the buckets s is in the last of them, e, or among the others, t
pub entry_here : (s t : Entries) (e : ℕ × List Message) (left : ℕ) → s ≡ t ++ e ∷ [] → left < length e.1 → slice_get (messages_of_buckets s) left ≡ slice_get e.1 left
entry_here s t e left is h = ap (λ ms. slice_get ms left) (ap messages_of_buckets is ∙ joined_last t e) ∙ slice_get-append_here e.1 (messages_of_buckets t) left h

pub entry_past : (s t : Entries) (e : ℕ × List Message) (left n : ℕ) → s ≡ t ++ e ∷ [] → n ≡ length e.1 → n ≤ left → slice_get (messages_of_buckets s) left ≡ slice_get (messages_of_buckets t) (left - n)
entry_past s t e left n is counted h = search (rules, joined_last, slice_get-append_later)

-- one more entry is copied
pub copied_more : (es xs s t new : Entries) (e : ℕ × List Message) (b : List Message) → IsStrictlySortedBy nat_cmp (keys_of es) → xs ++ s ≡ es → s ≡ e ∷ t → b ≡ e.1 → new ≡ insert_entry nat_cmp xs e.0 b → new ++ t ≡ es
copied_more es xs s t new e b sorted so_far s_is b_is is = grind (arith, common_steps, put_behind, keys_before)

-- where all messages are of lesser priorities, a message is the first
sent_first : (m : Message) (ms : List Message) → All (λ x. x.priority < m.priority) ms → after_send m ms ≡ m ∷ ms
sent_first m ms less = sent-append-less m [] ms less

-- a message of a priority above all others goes before them
pub sent_above : (m : Message) (o : Option (ℕ × List Message)) (ms : List Message) → AreBelow o ms → IfSome o (λ e. e.0 < m.priority)
    → m ∷ after_greatest o ms ≡ after_send m (after_greatest o ms)
sent_above m None ms below less = rw below refl
sent_above m (Some e) ms below less = grind (arith, common_steps, below, sent_first)

-- so it does where it is put there
pub sent_put : {T E : Type 0} (r : Result T E) (m : Message) (o new : Option (ℕ × List Message)) (ms others whole : List Message) → AreBelow o ms → IfSome o (λ e. e.0 < m.priority)
    → OnOk r (new ≡ Some (m.priority, m ∷ [])) → OnOk r (others ≡ after_greatest o ms) → after_greatest o ms ≡ whole → OnOk r (after_greatest new others ≡ after_send m whole)
sent_put x m o new ms others whole below less is others_is whole_is = search (rules, below, sent_above)

-- a message of the greatest priority goes to the end of its bucket
pub sent_beside : (m : Message) (p : ℕ) (b ms : List Message) → AreBelow (Some (p, b)) ms → m.priority ≡ p → (b ++ m ∷ []) ++ ms ≡ after_send m (b ++ ms)
sent_beside m p b ms below same = search (rules, below, sent-all, All-weaker, sent-append-less)

-- a message of a lesser priority goes among those after the bucket
pub sent_below : (m : Message) (p : ℕ) (b ms : List Message) → AreBelow (Some (p, b)) ms → m.priority < p → b ++ after_send m ms ≡ after_send m (b ++ ms)
sent_below m p b ms below less = sym (sent-append-greater m b ms (All-weaker (λ x. x.priority ≡ p) (λ x. m.priority < x.priority) (λ x is. omega (arith, less)) b below.0.1))

all_left : (P : Message → Type 0) (xs ys : List Message) → All P (xs ++ ys) → All P xs
all_left P [] ys all = All-nil P
all_left P (x ∷ xs) ys all = All-cons P x xs (All-head P x (xs ++ ys) all) (all_left P xs ys (All-tail P x (xs ++ ys) all))

all_right : (P : Message → Type 0) (xs ys : List Message) → All P (xs ++ ys) → All P ys
all_right P [] ys all = all
all_right P (x ∷ xs) ys all = all_right P xs ys (All-tail P x (xs ++ ys) all)

-- where the messages of a bucket are below a priority, its own is
key_below : (p : ℕ) (e : ℕ × List Message) → IsBucket e → All (λ m. m.priority < p) e.1 → e.0 < p
key_below p e is less = of e.1 is.0 is.1 less
  where
    of : (ms : List Message) → 0 < length ms → All (λ m. m.priority ≡ e.0) ms → All (λ m. m.priority < p) ms → e.0 < p
    of [] some each less = absurd (omega arith)
    of (m ∷ ms) some each less = let same = All-head (λ m. m.priority ≡ e.0) m ms each in let lt = All-head (λ m. m.priority < p) m ms less in omega (arith, same, lt)

-- and so is the priority of each bucket
keys_below : (p : ℕ) (es : Entries) → All IsBucket es → All (λ m. m.priority < p) (messages_of_buckets es) → All (λ e. e.0 < p) es
keys_below p [] each less = All-nil (λ e. e.0 < p)
keys_below p (e ∷ es) each less = search (rules, All-cons, key_below, All-head, all_right, All-tail, all_left, (keys_below p es (All-tail IsBucket e es each) (all_left (λ m. m.priority < p) (messages_of_buckets es) e.1 less)))

-- buckets stay buckets whether one of another priority is put in or not
pub buckets_with : {T E : Type 0} (r : Result T E) (p : ℕ) (b : List Message) (es new : Entries) → AreBuckets es → IsBucket (p, b)
    → OnOk r (new ≡ insert_entry nat_cmp es p b) → OnErr r (new ≡ es) → IsStrictlySortedBy nat_cmp (keys_of new) → AreBuckets new
buckets_with x p b es new inv bucket is same sorted = search (rules, each_put)

-- a bucket of a priority above all others has the first messages
pub joined_with : (p : ℕ) (b : List Message) (es new : Entries) → AreBuckets es → All (λ m. m.priority < p) (messages_of_buckets es) → new ≡ insert_entry nat_cmp es p b → messages_of_buckets new ≡ b ++ messages_of_buckets es
joined_with p b es new inv less is = ap messages_of_buckets (is ∙ put_behind p b es (keys_below p es inv.each less)) ∙ joined_last es (p, b)

-- the last bucket, and those before it
each_before : (es : Entries) (e : ℕ × List Message) → All IsBucket (es ++ e ∷ []) → All IsBucket es × IsBucket e
each_before [] e all = (All-nil IsBucket, All-head IsBucket e [] all)
each_before (f ∷ es) e all =
    let later = each_before es e (All-tail IsBucket f (es ++ e ∷ []) all) in
    (All-cons IsBucket f es (All-head IsBucket f (es ++ e ∷ []) all) later.0, later.1)

-- the messages of buckets below a priority are below it
below : (p : ℕ) (es : Entries) → All (λ q. nat_cmp q p ≡ Less) (keys_of es) → All IsBucket es → All (λ m. m.priority < p) (messages_of_buckets es)
below p [] less each = All-nil (λ m. m.priority < p)
below p (e ∷ es) less each =
    let here : e.0 < p = less_is e.0 p (All-head (λ q. nat_cmp q p ≡ Less) e.0 (keys_of es) less) in
    All-append (λ m. m.priority < p) (messages_of_buckets es) e.1 (below p es (All-tail (λ q. nat_cmp q p ≡ Less) e.0 (keys_of es) less) (All-tail IsBucket e es each))
    (All-weaker (λ m. m.priority ≡ e.0) (λ m. m.priority < p) (λ m is. omega (arith, here)) e.1 (All-head IsBucket e es each).1)

-- what is left when the last bucket is taken out, if there is one
pub record IsWithoutLast (r : Option (ℕ × List Message)) (es new : Entries) : Type 0 where
  pub buckets : AreBuckets new
  pub rest : messages_of_buckets es ≡ after_greatest r (messages_of_buckets new)
  pub below : AreBelow r (messages_of_buckets new)

pub without_last : (r : Option (ℕ × List Message)) (es new : Entries) → AreBuckets es → (0 < length es → IsSome r) → IfSome r (λ e. es ≡ new ++ e ∷ [])
    → IfSome r (λ e. All (λ q. nat_cmp q e.0 ≡ Less) (keys_of new)) → IfNone r (new ≡ es) → IsStrictlySortedBy nat_cmp (keys_of new) → IsWithoutLast r es new
without_last None [] new inv some is less same sorted = record { buckets = rw same inv; rest = rw same refl; below = rw same refl }
without_last None (e ∷ es) new inv some is less same sorted = let never : IsSome {T = ℕ × List Message} None = some (omega arith) in absurd cc
without_last (Some e) es new inv some is less same sorted =
    let each = each_before new e (subst (All IsBucket) is inv.each) in
    record {
      buckets = record { ordered = sorted; each = each.0 };
      rest = ap messages_of_buckets is ∙ joined_last new e;
      below = (each.1, below e.0 new less each.0);
    }

-- a bucket stays one when its oldest message goes and others stay
pub bucket_rest : (p : ℕ) (x : Message) (b new : List Message) → IsBucket (p, b) → b ≡ x ∷ new → 0 < length new → IsBucket (p, new)
bucket_rest p x b new is parts some = (some, All-tail (λ m. m.priority ≡ p) x new (subst (All (λ m. m.priority ≡ p)) parts is.1))

-- messages below a priority stay so when one below it is added or refused
pub below_sent : {T E : Type 0} (r : Result T E) (m : Message) (p : ℕ) (ms new : List Message) → All (λ x. x.priority < p) ms → m.priority < p → OnOk r (new ≡ after_send m ms) → OnErr r (new ≡ ms) → All (λ x. x.priority < p) new
below_sent (Ok x) m p ms new each less ok err = rw ok (All-sent (λ x. x.priority < p) m ms less each)
below_sent (Err x) m p ms new each less ok err = rw err each
