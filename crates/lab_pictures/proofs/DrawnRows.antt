-- Pictures: nodes of rows, and arrows of edges.
use Rattle.std.proofs.Common.{ℕ, zero, suc, ◌≡◌, ◌<◌, ◌≤◌, ◌+◌, ◌++◌, All, IfSome, List, [], ◌∷◌, Option, Some, None, refl, sym, ap, subst, ◌∙◌, slice_get, get_or, length, set, arith}
use Rattle.std.proofs.lemmas.List.{length-append}
use Rattle.std.proofs.lemmas.Option.{slice_get-get_or}
use Rattle.ipc_kernel.specs.Alike.{IsConsistent}
use Rattle.ipc_store.proofs.Alikes.{alike_then}
use Rattle.lab_sched.specs.Worlds.{Process, Running, WorldState, step_effect, step_effect_in, process_after, kernel_after, after, step, run, entries}
use Rattle.lab_sched.specs.Held.{step_of}
use Rattle.lab_sched.specs.LocalRun.{IsLocalStep, AreLocal}
use Rattle.lab_sched.specs.Execution.{AreEffective}
use Rattle.lab_sched.proofs.Runs.{run-append}
use Rattle.lab_sched.proofs.Executions.{effective-append, entries-append}
use Rattle.lab_sched.proofs.WorldLemmas.{after_effect}
use Rattle.lab_sched.proofs.ListPlaces.{get-set_same, get_past}
use Rattle.lab_worlds.specs.declared.ends.End.{End}
use Rattle.lab_pictures.specs.declared.picture.Node.{Node}
use Rattle.lab_pictures.specs.declared.picture.Arrow.{Arrow}
use Rattle.lab_pictures.specs.declared.picture.Picture.{Picture}
use Rattle.lab_states.specs.declared.edges.Edge.{Edge}
use Rattle.lab_states.specs.Rows.{Row}
use Rattle.lab_search.specs.declared.store.Store.{Store}
use Rattle.lab_worlds.specs.declared.walking.Walk.{Walk}
use Rattle.lab_sched.specs.Schedules.{steps_of}
use Rattle.lab_worlds.specs.Calls.{IsAtCall, IsAhead, Both, Alongside, AreAlike, IsAdvance}
use Rattle.lab_worlds.specs.Closed.{HasAdvance}
use Rattle.lab_worlds.specs.Ends.{IsEnd}
use Rattle.lab_worlds.specs.Unwaiting.{GoesOn, NoneGoesOn, unwaiting}
use Rattle.lab_pictures.specs.Pictures.{AreAtCalls, IsReachable, IsNode, TakesSteps, IsStep, HaveAllSteps, BeginsAt, IsNearer, HaveFewestNodeCalls}
use Rattle.lab_states.specs.Depths.{depth_of, IsNear, AreDepths}
use Rattle.lab_pictures.specs.Private.Drawn.{IsNodeOfRow, AreNodesOfRows, IsArrowOf, IsPictureOf}
use Rattle.lab_search.specs.Stored.{IsState, IsRow, IsAt, IsLike, LeadsTo, IsStore, AreErrorsAt, AreExpanded, IsSearched}
use Rattle.lab_worlds.specs.Stepped.{IsReady, IsReached, AreReached}
use Rattle.lab_worlds.specs.declared.errors.Errors.{Errors}
use Rattle.lab_worlds.specs.Errors.{IsLocalStepAmong, IsAnsweredToCall}
use Rattle.lab_worlds.proofs.AfterLocalSteps.{none_local}
use Rattle.lc3_machine.proofs.Runs.{steps_map}
use Rattle.lab_worlds.specs.Walked.{IsWalk, KeepsStart}
use Rattle.lab_worlds.proofs.AlikeWorlds.{world_then, world_back, same_effect, step_alike, consistent_run}
use Rattle.lab_search.proofs.FirstWorlds.{at_unique, reached_advance}
use Rattle.lab_search.proofs.Growths.{state_kept}
use Rattle.lab_worlds.proofs.Pushes.{all_at}
use Rattle.lab_explore.proofs.MetWorlds.{edge_from}
use Rattle.lab_search.proofs.StepsOfRows.{both_left, both_right}

some_at : {A : Type 0} (xs : List A) (i : ℕ) → i < length xs → (x : A) × (slice_get xs i ≡ Some x)
some_at [] i within = absurd (omega (arith, within))
some_at (x ∷ xs) zero within = (x, refl)
some_at (x ∷ xs) (suc i) within = some_at xs i (omega (arith, within))

-- what holds of each element by its place holds of one more
pub each_more : {A : Type 0} (P : ℕ → A → Type 0) (xs : List A) (x : A) → ((i : ℕ) (y : A) → slice_get xs i ≡ Some y → P i y) → P (length xs) x
    → (i : ℕ) (y : A) → slice_get (xs ++ x ∷ []) i ≡ Some y → P i y
each_more P [] x h last zero y e = let is : Some x ≡ Some y = e in let same : x ≡ y = cc in subst (P 0) same last
each_more P [] x h last (suc i) y e = absurd (cc)
each_more P (z ∷ zs) x h last zero y e = h zero y e
each_more P (z ∷ zs) x h last (suc i) y e = each_more (λ n. P (suc n)) zs x (λ n. h (suc n)) last i y e

-- the processes of the world of a row are at calls
row_at_calls : (t : Store) (r : Row) (w : WorldState) → IsStore t → IsRow t r w → AreAtCalls w
row_at_calls t r w is row p s at = by (slice_get r.states p) (subst (λ o. Both (IsState t) (slice_get r.states p) o) at (row.states p))
  where
    by : (o : Option ℕ) → Both (IsState t) o (Some s) → IsAtCall s
    by None h = absurd h
    by (Some i) h = let k = state_kept t i s h in subst IsAtCall k.2 (all_at IsReady t.states.processes i k.0 is.states k.1).1

like_at_calls : (t : Store) (i : ℕ) (w : WorldState) → IsStore t → IsLike t i w → AreAtCalls w
like_at_calls t i w is like p s at = row_at_calls t like.1.0 like.0 is like.1.2 p s (subst (λ ps. slice_get ps p ≡ Some s) like.2.processes at)

-- worlds that a row stands for, but for the numbers of places
both_like : (t : Store) (i : ℕ) (w v : WorldState) → IsLike t i w → IsLike t i v → AreAlike w v
both_like t i w v a b =
    let same : b.0 ≡ a.0 = at_unique t i b.0 a.0 b.1 a.1 in
    world_then w a.0 v (world_back a.0 w a.2) (subst (λ x. AreAlike x v) same b.2)

end_of_node : (start : WorldState) (t : Store) (i : ℕ) (w : WorldState) (o : Option End) → IsLike t i w → IfSome o (λ e. IsEnd start e) → IfSome o (λ e. IsLike t i (unwaiting e.world))
    → IfSome o (λ e. IsEnd start e × AreAlike w (unwaiting e.world))
end_of_node start t i w None like end row = tt
end_of_node start t i w (Some e) like end row = (end, both_like t i w (unwaiting e.world) like row)

-- a world to which a walk leads
pub walk_reaches : (start : WorldState) (walk : Walk) → IsWalk start walk → IsReachable start walk.world walk.calls
walk_reaches start walk h = record { steps = steps_of walk.schedule; effective = h.effective; leads = h.leads; calls = h.calls }

-- or one that goes on from there
pub walk_from : (start w : WorldState) (count : ℕ) (walk : Walk) → IsReachable start w count → IsWalk w walk → IsReachable start walk.world (count + walk.calls)
walk_from start w count walk h more =
    let ps = h.steps in
    let qs = steps_of walk.schedule in
    record {
      steps = ps ++ qs;
      effective = effective-append start ps qs h.effective (subst (λ x. AreEffective x qs) (sym h.leads) more.effective);
      leads = run-append start ps qs ∙ ap (λ x. run x qs) h.leads ∙ more.leads;
      calls = ap length (entries-append start ps qs) ∙ length-append (entries start ps) (entries (run start ps) qs)
          ∙ ap (λ n. n + length (entries (run start ps) qs)) h.calls ∙ ap (λ n. count + n) (ap (λ x. length (entries x qs)) h.leads ∙ more.calls);
    }

-- a call and its local steps from the world of a node, which was copied
pub reach_on : (start w : WorldState) (node : Node) (a b c : Walk) → IsNode start node → w ≡ node.world → IsWalk w a → KeepsStart a b → KeepsStart b c → IsReachable start c.world (node.calls + c.calls)
reach_on start w node a b c is same at first then = walk_from start w node.calls c (subst (λ x. IsReachable start x node.calls) (sym same) is.reachable) (then w (first w at))

reached_consistent : (start w : WorldState) (count : ℕ) → IsConsistent start.kernel → IsReachable start w count → IsConsistent w.kernel
reached_consistent start w count consistent h = subst (λ (v : WorldState). IsConsistent v.kernel) h.leads (consistent_run h.steps start consistent)

-- the node of a world to which steps led
pub node_made : (start : WorldState) (t : Store) (depth i : ℕ) (world : WorldState) (count : ℕ) (end : Option End) → IsConsistent start.kernel → IsStore t → IsReachable start world count → IsLike t i world → count ≡ depth
    → IfSome end (λ e. IsEnd start e) → IfSome end (λ e. IsLike t i (unwaiting e.world)) → (end ≡ None → (w : WorldState) → IsAt t i w → NoneGoesOn w → ⊥)
    → IsNodeOfRow start t depth i (record { world = world; calls = count; end = end })
node_made start t depth i world count end consistent is h here deep ends row none =
    let held = reached_consistent start world count consistent h in
    record {
      node = record { reachable = h; at_calls = like_at_calls t i world is here };
      row = here;
      calls = deep;
      end = end_of_node start t i world end here ends row;
      at_rest = λ empty rests. none empty here.0 here.1 (λ p goes. rests p (subst GoesOn (same_effect world here.0 p held (world_back here.0 world here.2)) goes));
    }

node_consistent : (start : WorldState) (n : Node) → IsConsistent start.kernel → IsNode start n → IsConsistent n.world.kernel
node_consistent start n consistent node = reached_consistent start n.world n.calls consistent node.reachable

-- nodes of rows are nodes
pub are_nodes : (start : WorldState) (t : Store) (depths : List ℕ) (ns : List Node) → ((i : ℕ) (n : Node) → slice_get ns i ≡ Some n → IsNodeOfRow start t (depth_of depths i) i n) → All (IsNode start) ns
are_nodes start t depths ns each k d below = (each k (get_or ns k d) (slice_get-get_or ns k d below)).node

-- one node more
pub nodes_more : (start : WorldState) (t : Store) (depths : List ℕ) (at depth : ℕ) (old new : List Node) (n : Node) → length old ≡ at
    → ((i : ℕ) (m : Node) → slice_get old i ≡ Some m → IsNodeOfRow start t (depth_of depths i) i m) → IsNodeOfRow start t depth at n → depth ≡ depth_of depths at → new ≡ old ++ n ∷ []
    → (length new ≡ at + 1) × ((i : ℕ) (m : Node) → slice_get new i ≡ Some m → IsNodeOfRow start t (depth_of depths i) i m)
nodes_more start t depths at depth old new n count each is deep pushed = (
  ap length pushed ∙ length-append old (n ∷ []) ∙ ap (λ k. k + 1) count,
  λ i m there.
      each_more (λ k x. IsNodeOfRow start t (depth_of depths k) k x) old n each
      (subst (λ k. IsNodeOfRow start t (depth_of depths k) k n) (sym count) (subst (λ d. IsNodeOfRow start t d at n) deep is)) i m
      (subst (λ xs. slice_get xs i ≡ Some m) pushed there),
)

-- the node of the world of a row
node_at : (start : WorldState) (t : Store) (depths : List ℕ) (ns : List Node) (i : ℕ) (w : WorldState) → AreNodesOfRows start t depths ns → IsAt t i w
    → (n : Node) × (slice_get ns i ≡ Some n) × IsNodeOfRow start t (depth_of depths i) i n × AreAlike w n.world
node_at start t depths ns i w nodes here =
    let below = get_past t.rows i here.0 here.1 in
    let count = nodes.count in
    let found = some_at ns i (omega (arith, below, count)) in
    let is = nodes.each i found.0 found.1 in
    (found.0, found.1, is, subst (λ v. AreAlike v found.0.world) (at_unique t i is.row.0 w is.row.1 here) is.row.2)

advance_then : (w v x : WorldState) → IsAdvance w v → AreAlike v x → IsAdvance w x
advance_then w v x h a = record {
  kernel = alike_then w.kernel v.kernel x.kernel h.kernel a.kernel;
  processes = subst (λ ps. Alongside IsAhead w.processes ps) (sym a.processes) h.processes;
}

advance_from : (w v x : WorldState) → AreAlike w v → IsAdvance v x → IsAdvance w x
advance_from w v x a h = record {
  kernel = alike_then w.kernel v.kernel x.kernel a.kernel h.kernel;
  processes = subst (λ ps. Alongside IsAhead ps x.processes) a.processes h.processes;
}

-- there is one next local step
one_local : (s u v : Process) → IsLocalStep s u → IsLocalStep s v → u ≡ v
one_local (Running m) u v h i =
    let first = h.1 in
    let second = i.1 in
    let same : h.0 ≡ i.0 = cc in
    h.2 ∙ ap Running same ∙ sym i.2
one_local _ u v h i = absurd h

-- where all local steps lead there is one world
one_ahead : (n m : ℕ) (s u v : Process) → AreLocal n s u → IsAtCall u → AreLocal m s v → IsAtCall v → u ≡ v
one_ahead zero m s u v h at i there = sym h ∙ sym (none_local m s v (subst IsAtCall (sym h) at) i)
one_ahead (suc n) zero s u v h at i there = none_local (suc n) s u (subst IsAtCall (sym i) there) h ∙ i
one_ahead (suc n) (suc m) s u v (x, first, rest) at (y, second, more) there = one_ahead n m x u v rest at (subst (λ z. AreLocal m z v) (one_local s y x second first) more) there

-- the process of a step
called_by : (w : WorldState) (p : ℕ) (s : Process) → slice_get w.processes p ≡ Some s → slice_get (step w p).processes p ≡ Some (step_of w.kernel p s).process
called_by w p s at =
    let e = step_effect w.kernel p (Some s) in
    let is : step w p ≡ record { processes = set w.processes p (process_after s e); kernel = kernel_after w.kernel p e } = ap (λ o. after w p (step_effect w.kernel p o)) at ∙ after_effect w p s e at in
    ap (λ (v : WorldState). slice_get v.processes p) is ∙ get-set_same w.processes p (process_after s e) (get_past w.processes p s at)

-- the steps of a process from the world of a row to that of another
steps_between : (w v : WorldState) (p n : ℕ) (es : Errors) → AreReached (step w p) v → (s : Process) × (slice_get w.processes p ≡ Some s) × IsAnsweredToCall w.kernel p s n es → TakesSteps w v p (n + 1)
steps_between w v p n es reached (s, at, call) =
    let u = call.0 in
    let x = (step_of w.kernel p s).process in
    let first = called_by w p s at in
    let y = both_left IsReached x (slice_get v.processes p) (subst (λ o. Both IsReached o (slice_get v.processes p)) first (reached.processes p)) in
    let local = steps_map (IsLocalStepAmong es) IsLocalStep (λ z. z) (λ a b h. h.0) n x u call.1.after in
    let same : y.0 ≡ u = one_ahead y.2.ahead.taken n x y.0 u y.2.ahead.local y.2.ahead.at_call local call.2 in
    record { taken = n; called = x; after = u; first = first; local = local; there = y.1 ∙ ap (λ z. Some z) same; count = refl }

-- the same where the worlds are alike these
steps_alike : (w v x y : WorldState) (p n m : ℕ) → (step x p).processes ≡ (step w p).processes → y.processes ≡ v.processes → m ≡ n → TakesSteps w v p n → TakesSteps x y p m
steps_alike w v x y p n m called after same h = record {
  taken = h.taken;
  called = h.called;
  after = h.after;
  first = subst (λ ps. slice_get ps p ≡ Some h.called) (sym called) h.first;
  local = h.local;
  there = subst (λ ps. slice_get ps p ≡ Some h.after) (sym after) h.there;
  count = same ∙ h.count;
}

-- a step between the worlds of rows is one between nodes
step_of_row : (start : WorldState) (t : Store) (depths : List ℕ) (ns : List Node) (a : Arrow) (n : ℕ) (es : Errors) → IsConsistent start.kernel → AreNodesOfRows start t depths ns → LeadsTo t a.from a.process a.to
    → AreErrorsAt t a.from a.process n es → a.steps ≡ n + 1 → IsStep ns a
step_of_row start t depths ns a taken es consistent nodes h known count =
    let m = node_at start t depths ns a.from h.0 nodes h.2 in
    let n = node_at start t depths ns a.to h.1 nodes h.3 in
    let held = node_consistent start m.0 consistent m.2.node in
    let back = world_back h.0 m.0.world m.3 in
    record {
      before = m.0.world;
      after = n.0.world;
      from = (m.0, m.1, refl);
      to = (n.0, n.1, refl);
      goes_on = subst GoesOn (same_effect m.0.world h.0 a.process held back) h.5;
      leads =
          advance_from (step m.0.world a.process) (step h.0 a.process) n.0.world (step_alike m.0.world h.0 a.process held back)
          (advance_then (step h.0 a.process) h.1 n.0.world (reached_advance (step h.0 a.process) h.1 h.4) n.3);
      steps =
          steps_alike h.0 h.1 m.0.world n.0.world a.process (taken + 1) a.steps (sym (step_alike m.0.world h.0 a.process held back).processes) n.3.processes count
          (steps_between h.0 h.1 a.process taken es h.4 (known h.0 h.2));
    }

-- the edge of an arrow
edge_of : (t : Store) (arrows : List Arrow) (k : ℕ) (a : Arrow) → Alongside (IsArrowOf t) t.edges arrows → slice_get arrows k ≡ Some a → (e : Edge) × (slice_get t.edges k ≡ Some e) × IsArrowOf t e a
edge_of t arrows k a same at = both_right (IsArrowOf t) a (slice_get t.edges k) (subst (λ o. Both (IsArrowOf t) (slice_get t.edges k) o) at (same k))

-- an arrow is a step
arrow_steps : (start : WorldState) (t : Store) (depths : List ℕ) (ns : List Node) (e : Edge) (a : Arrow) → IsConsistent start.kernel → AreNodesOfRows start t depths ns → LeadsTo t e.from e.pid e.to → IsArrowOf t e a → IsStep ns a
arrow_steps start t depths ns e a consistent nodes h is =
    let leads : LeadsTo t a.from a.process a.to =
    subst (λ i. LeadsTo t i a.process a.to) (sym is.from) (subst (λ p. LeadsTo t e.from p a.to) (sym is.process) (subst (λ j. LeadsTo t e.from e.pid j) (sym is.to) h)) in
    let known : AreErrorsAt t a.from a.process is.taken is.errors = subst (λ i. AreErrorsAt t i a.process is.taken is.errors) (sym is.from) (subst (λ p. AreErrorsAt t e.from p is.taken is.errors) (sym is.process) is.known) in
    step_of_row start t depths ns a is.taken is.errors consistent nodes leads known is.steps

all_steps : (start : WorldState) (t : Store) (depths : List ℕ) (ns : List Node) (arrows : List Arrow) → IsConsistent start.kernel → AreNodesOfRows start t depths ns → Alongside (IsArrowOf t) t.edges arrows
    → AreExpanded t → HaveAllSteps ns arrows
all_steps start t depths ns arrows consistent nodes same expanded i p w here goes =
    let n = here.0 in
    let is = nodes.each i n here.1 in
    let v = is.row.0 in
    let held = node_consistent start n consistent is.node in
    let first : GoesOn (step_effect_in n.world p) = subst (λ x. GoesOn (step_effect_in x p)) (sym here.2) goes in
    let edge = edge_from t i p v expanded is.row.1 (subst GoesOn (sym (same_effect n.world v p held (world_back v n.world is.row.2))) first) in
    let a = both_left (IsArrowOf t) edge.1 (slice_get arrows edge.0) (subst (λ o. Both (IsArrowOf t) o (slice_get arrows edge.0)) edge.3 (same edge.0)) in
    (edge.0, a.0, a.1, a.2.from ∙ edge.4, a.2.process ∙ edge.7)

begins_at : (start : WorldState) (t : Store) (depths : List ℕ) (ns : List Node) → AreNodesOfRows start t depths ns → HasAdvance (IsAt t 0) start → BeginsAt start ns
begins_at start t depths ns nodes h =
    let n = node_at start t depths ns 0 h.0 nodes h.1 in
    (n.0.world, (n.0, n.1, refl), advance_then start h.0 n.0.world h.2 n.3)

nearer : (start : WorldState) (t : Store) (depths : List ℕ) (ns : List Node) (e : Edge) (a : Arrow) → AreNodesOfRows start t depths ns → IsArrowOf t e a → IsNear depths e → IsNearer ns a
nearer start t depths ns e a nodes is near m n from to =
    let first = (nodes.each e.from m (subst (λ i. slice_get ns i ≡ Some m) is.from from)).calls in
    let second = (nodes.each e.to n (subst (λ i. slice_get ns i ≡ Some n) is.to to)).calls in
    omega (arith, near, first, second)

fewest : (start : WorldState) (t : Store) (depths : List ℕ) (ns : List Node) (arrows : List Arrow) → AreNodesOfRows start t depths ns → Alongside (IsArrowOf t) t.edges arrows → AreDepths depths t.edges
    → HaveFewestNodeCalls ns arrows
fewest start t depths ns arrows nodes same deep = record {
  first = λ n at. (nodes.each 0 n at).calls ∙ deep.first;
  nearer = λ k d below.
      let edge = edge_of t arrows k (get_or arrows k d) same (slice_get-get_or arrows k d below) in
      nearer start t depths ns edge.0 (get_or arrows k d) nodes edge.2 (all_at (IsNear depths) t.edges k edge.0 deep.near edge.1);
}

-- the picture of a search in which each step was tried
pub drawn : (start : WorldState) (t : Store) (depths : List ℕ) (x : Picture) → IsConsistent start.kernel → IsStore t → AreNodesOfRows start t depths x.nodes.items → Alongside (IsArrowOf t) t.edges x.arrows.items
    → AreDepths depths t.edges → IsSearched start t → length t.rows ≤ 2000 → IsPictureOf start x
drawn start t depths x consistent is nodes same deep searched few =
    let ns = x.nodes.items in
    let count = nodes.count in
    let each : (k : ℕ) (d : Node) → k < length ns → IsNodeOfRow start t (depth_of depths k) k (get_or ns k d) = λ k d below. nodes.each k (get_or ns k d) (slice_get-get_or ns k d below) in
    record {
      nodes = λ k d below. (each k d below).node;
      arrows = λ k d below.
          let a = get_or x.arrows.items k d in
          let edge = edge_of t x.arrows.items k a same (slice_get-get_or x.arrows.items k d below) in
          arrow_steps start t depths ns edge.0 a consistent nodes (all_at (λ (e : Edge). LeadsTo t e.from e.pid e.to) t.edges k edge.0 is.edges edge.1) edge.2;
      begins = begins_at start t depths ns nodes searched.begins;
      steps = all_steps start t depths ns x.arrows.items consistent nodes same searched.expanded;
      fewest = fewest start t depths ns x.arrows.items nodes same deep;
      ends = λ k d below. (each k d below).end;
      at_rest = λ k d below. (each k d below).at_rest;
      few = omega (arith, count, few);
    }
