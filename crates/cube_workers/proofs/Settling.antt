-- What the workers came to together, over the log with the steps of their history.
use Rattle.std.proofs.Common.{◌≡◌, ℕ, zero, suc, ◌+◌, ◌-◌, ◌<◌, ◌≤◌, ◌^◌, Bool, false, List, [], ◌∷◌, ◌++◌, length, take, drop, Option, Some, None, refl, sym, ap, ◌∙◌, subst, ⊎_elim, arith, length-append}
use Rattle.std.specs.Prelude.{◌≢◌, min, slice_get, slice_index_or}
use Rattle.std.specs.List.{AllByRecursion}
use Rattle.std.proofs.Math.Nat.{le-min}
use Rattle.std.proofs.lemmas.Nat.{pow_pos}
use Rattle.std.proofs.lemmas.List.{take-append-drop}
use Rattle.std.proofs.lemmas.List.Elements.{recursion_from_All}
use Rattle.std.proofs.lemmas.Option.{slice_get_within}
use Rattle.cnf_base.specs.Literals.{Literal}
use Rattle.cnf_base.specs.Assignments.{AreBelow}
use Rattle.cnf_base.proofs.Lists.{each_front, slice_get-take, slice_get-there}
use Rattle.shared_history.specs.Events.{of_pass, StartsWith}
use Rattle.smt_terms.specs.declared.node.Node.{Node}
use Rattle.smt_terms.specs.Terms.{IsTermList}
use Rattle.proof_log.specs.declared.diary.Diary.{Diary}
use Rattle.proof_log.specs.declared.entry.Entry.{Entry}
use Rattle.proof_log.specs.Logs.{state_of}
use Rattle.proof_log.specs.Boards.{Grows}
use Rattle.proof_log.specs.Stored.{LogValue, Stands}
use Rattle.proof_log.proofs.Standing.{stands_over}
use Rattle.cube_tree.specs.Cubes.{cube_of}
use Rattle.cube_search.specs.declared.search.Search.{Search}
use Rattle.cube_search.specs.Running.{IsResting, valuation_of}
use Rattle.hub_core.specs.declared.events.Event.{Event}
use Rattle.hub_core.specs.Hubs.{HubValue, view_of, by_of, IsOpening}
use Rattle.hub_board.specs.Chains.{AddsChains, AddChains}
use Rattle.hub_board.specs.Boards.{BoardValue, view_in}
use Rattle.hub_board.proofs.Seen.{seen_grows}
use Rattle.cube_workers.specs.declared.check.Check.{Check}
use Rattle.cube_workers.specs.declared.kept.KeptSearch.{KeptSearch}
use Rattle.cube_workers.specs.declared.worker.Reached.{Reached}
use Rattle.cube_workers.specs.declared.worker.Reached.TheVariants as reached
use Rattle.cube_workers.specs.declared.outcome.Outcome.{Outcome}
use Rattle.cube_workers.specs.Searched.{Problem, IsProblem, IsModelOf, AreTried, IsFound, RestsBeside}
use Rattle.cube_workers.specs.Workers.{problem_over, problem_in, IsOpenFor, IsReached, RestsOn, RestsAfter}
use Rattle.cube_workers.specs.Histories.{IsMadeBy, ArePlaces}
use Rattle.cube_workers.specs.Crews.{Left, IsLeft, IsModelAmong, RestsAnywhere, AreAtRest, values_of, values_in}
use Rattle.cube_workers.specs.Closed.{IsClosedHub, IsSumOf}
use Rattle.cube_workers.proofs.Cubes.{cube_below}
use Rattle.cube_workers.proofs.OnHub.{problem_now}
use Rattle.cube_workers.proofs.Adding.{each_pushed}
use Rattle.cube_workers.proofs.Resting.{rests_grown, rests_stored, rests_prolonged}
use Rattle.cube_workers.proofs.Telling.{model_stays}
use Rattle.cube_workers.proofs.Concluding.{grown_whole, tried}

-- ---- the hub that is opened

pub opening_of : (nodes : List Node) (log : LogValue) (k : Check) (cubes : List (List Literal)) → IsTermList nodes → Stands nodes log → IsProblem (problem_over nodes log.entries k) log.entries → length cubes ≡ 2 ^ length k.tree.now → 2 ^ length k.tree.now ≤ 1024
    → ((n : ℕ) (d : List Literal) → n < length cubes → slice_index_or cubes n d ≡ cube_of k.tree.now n) → IsOpening (record { nodes = nodes; log = log; cubes = cubes; assumed = k.assumed.now })
opening_of nodes log k cubes listed stands valid count few each =
    let next : log.next ≡ (state_of nodes log.entries).next = (stands_over nodes log stands).next in
    record {
      listed = listed;
      stands = stands;
      count = omega (arith, count, few);
      cubes_below =
          recursion_from_All (AreBelow log.next) cubes
          (λ n d lt. subst (AreBelow log.next) (sym (each n d lt)) (cube_below log.next k.tree.now n (subst (λ m. AllByRecursion (λ x. x < m) k.tree.now) (sym next) (recursion_from_All (λ x. x < (state_of nodes log.entries).next) k.tree.now valid.variables))));
      assumed_below = subst (λ m. AreBelow m k.assumed.now) (sym next) valid.assumed;
    }

pub open_of : (nodes : List Node) (log : LogValue) (k : Check) (cubes : List (List Literal)) → IsProblem (problem_over nodes log.entries k) log.entries → length cubes ≡ 2 ^ length k.tree.now
    → ((n : ℕ) (d : List Literal) → n < length cubes → slice_index_or cubes n d ≡ cube_of k.tree.now n) → IsOpenFor (record { nodes = nodes; log = log; cubes = cubes; assumed = k.assumed.now }) k
open_of nodes log k cubes valid count each = record { count = count; each = each; assumed = refl; valid = valid }

-- ---- the log grew by chains

pub made_grows : (law : HubValue) (old new : List Entry) (events : List Event) → law.log.entries ≡ old → AddChains events → IsMadeBy events old new → Grows old new
made_grows law old new events is chains made =
    subst (λ l. Grows old l) (sym (made law is)) (subst (λ l. Grows l (view_of law events).log) is (seen_grows law [] events chains))

pub part_grows : (law : HubValue) (old new : List Entry) (events : List Event) (k : ℕ) → law.log.entries ≡ old → AddChains events → IsMadeBy (take k events) old new → Grows old new
part_grows law old new events k is chains made =
    made_grows law old new (take k events) is (each_front (λ (e : Event). AddsChains e.call) (take k events) (drop k events) (subst AddChains (sym (take-append-drop k events)) chains)) made

-- ---- workers and searches

-- where one worker is allowed, one works
pub some_workers : (allowed cubes : ℕ) → 0 < allowed → 0 < min allowed (2 ^ cubes)
some_workers allowed cubes some =
    let p = pow_pos cubes in
    let h : 1 ≤ min allowed (2 ^ cubes) = le-min (omega (arith, some)) (omega (arith, p)) in
    omega (arith, h)

rests_on : (b : BoardValue) (s : Search) (r : Reached) → RestsAfter b s r → r ≢ reached.NoMemory → RestsOn b s
rests_on b s reached.Done h memory = h
rests_on b s reached.Stopped h memory = h
rests_on b s reached.Model h memory = h
rests_on b s reached.NoMemory h memory = absurd (memory refl)

pub rest_longer : (nodes : List Node) (old new : LogValue) (searches : List KeptSearch) → Stands nodes old → Stands nodes new → Grows old.entries new.entries → AreAtRest old searches → AreAtRest new searches
rest_longer nodes old new searches before after g h i s e = rests_prolonged nodes old new s.search before after g (h i s e)

pub values_at : (searches : List KeptSearch) (i : ℕ) (s : KeptSearch) → slice_get searches i ≡ Some s → values_in searches i ≡ valuation_of s.search
values_at searches i s e = ap values_of e

pub rest_taken : (log : LogValue) (n : ℕ) (xs new : List KeptSearch) → new ≡ take n xs → AreAtRest log xs → AreAtRest log new
rest_taken log n xs new is h i s e = h i s (slice_get-take n xs i s (ap (λ l. slice_get l i) (sym is) ∙ e)).1

pub rest_pushed : (log : LogValue) (old new : List KeptSearch) (k : KeptSearch) → new ≡ old ++ k ∷ [] → RestsBeside log k.search → AreAtRest log old → AreAtRest log new
rest_pushed log old new k is here h = each_pushed (λ i s. RestsBeside log s.search) old new k is h here

-- the only one left, and others came in its place
none_else : (xs : List KeptSearch) (x : KeptSearch) → length (xs ++ x ∷ []) ≡ 1 → xs ≡ []
none_else [] x e = refl
none_else (y ∷ ys) x e = let long = length-append ys (x ∷ []) in absurd (omega (arith, e, long))

pub only_one : (all left new : List KeptSearch) (x y : KeptSearch) → length all ≡ 1 → all ≡ left ++ x ∷ [] → new ≡ left ++ y ∷ [] → new ≡ y ∷ []
only_one all left new x y one was is = is ∙ ap (λ l. l ++ y ∷ []) (none_else left x (sym (ap length was) ∙ one))

pub rest_one : (log : LogValue) (new : List KeptSearch) (k : KeptSearch) → new ≡ k ∷ [] → RestsBeside log k.search → AreAtRest log new
rest_one log new k is here = rest_pushed log [] new k is here (λ i s e. let f : ⊥ = cc in absurd f)

-- others were put behind
pub values_front : (old new : List KeptSearch) (i : ℕ) → ((j : ℕ) (k : KeptSearch) → slice_get old j ≡ Some k → slice_get new j ≡ Some k) → i < length old → values_in new i ≡ values_in old i
values_front old new i front lt =
    let here = slice_get-there old i lt in
    ap values_of (front i here.0 here.1 ∙ sym here.1)

pub found_front : (p : Problem) (log : List Entry) (old new : List KeptSearch) (i : ℕ) (o : Outcome) → ((j : ℕ) (k : KeptSearch) → slice_get old j ≡ Some k → slice_get new j ≡ Some k) → i < length old → IsFound p log (values_in old i) o → IsFound p log (values_in new i) o
found_front p log old new i o front lt is = subst (λ v. IsFound p log v o) (sym (values_front old new i front lt)) is

slice_get-drop : (n : ℕ) (xs : List KeptSearch) (i : ℕ) → slice_get (drop n xs) i ≡ slice_get xs (n + i)
slice_get-drop zero xs i = let e : i ≡ 0 + i = omega arith in ap (slice_get xs) e
slice_get-drop (suc n) [] i = refl
slice_get-drop (suc n) (x ∷ xs) i = let e : suc (n + i) ≡ suc n + i = omega arith in slice_get-drop n xs i ∙ ap (slice_get (x ∷ xs)) e

pub rest_dropped : (log : LogValue) (n : ℕ) (xs new : List KeptSearch) → new ≡ drop n xs → AreAtRest log xs → AreAtRest log new
rest_dropped log n xs new is h i s e = h (n + i) s (sym (slice_get-drop n xs i) ∙ ap (λ l. slice_get l i) (sym is) ∙ e)

-- ---- what is found

module _ (law : HubValue) (k : Check) (nodes : List Node) (log : LogValue) (all : List Event) (searches : List KeptSearch) (model : Option ℕ) (wanting : Bool) (spent : Option Diary) (count : ℕ) (xs : List Left)
    (hub : IsClosedHub law k nodes log.entries all) (sum : IsSumOf law k all searches model wanting spent count xs) where
  left_at : (i : ℕ) (x : Left) → slice_get xs i ≡ Some x → (b : BoardValue) × IsLeft law (problem_in law k) (count - i) b x × StartsWith all b.pass.seen × (of_pass by_of (count - i) all ≡ b.pass.mine)
  left_at i x here = let lt = slice_get_within xs i x here in let long = sum.long in sum.left i x here (count - i) (omega (arith, lt, long))

  grown_from : (b : BoardValue) → b.hist.law ≡ law → StartsWith all b.pass.seen → Grows (view_in b).log log.entries
  grown_from b is seen = subst (Grows (view_in b).log) (sym hub.log_is) (grown_whole law all b is seen hub.chains)

  -- the searches that are kept rest beside the log
  left_rests : Stands nodes log → (s : KeptSearch) → (k : ℕ) × (x : Left) × (slice_get xs k ≡ Some x) × (x.reached ≢ reached.NoMemory) × (x.kept ≡ s) → RestsBeside log s.search
  left_rests stands s o =
      let q = left_at o.0 o.1 o.2 in
      let same : q.0.hist.law.nodes ≡ nodes = ap (λ (l : HubValue). l.nodes) q.1.law_is ∙ hub.nodes_are in
      let rests : RestsOn q.0 o.1.kept.search = rests_on q.0 o.1.kept.search o.1.reached q.1.resting o.3 in
      subst (λ (z : KeptSearch). RestsBeside log z.search) o.4
      (rests_stored nodes log o.1.kept.search stands
      (rests_grown nodes (view_in q.0).log log.entries o.1.kept.search (grown_from q.0 q.1.law_is q.2)
      (subst (λ n. IsResting o.1.kept.search (state_of n (view_in q.0).log).clauses (view_in q.0).log) same rests)))

  pub all_rest : Stands nodes log → AreAtRest log searches
  all_rest stands i s e = ⊎_elim (λ (new : RestsAnywhere s). new log.clauses log.entries) (λ own. left_rests stands s own) (sum.kept.own i s e)

  -- a model is that of its search
  pub model_found : (by : ℕ) → model ≡ Some by → IsModelOf (problem_in law k) log.entries (values_in searches by)
  model_found by is =
      let f : IsModelAmong (Some by) searches xs = subst (λ o. IsModelAmong o searches xs) is sum.kept.found in
      let q = left_at f.0 f.1 f.2 in
      let p = problem_in law k in
      let m : IsModelOf p (view_in q.0).log (valuation_of f.1.kept.search) = subst (IsReached p q.0 f.1.spent f.1.kept.search) f.3 q.1.reached in
      let valid : IsProblem p (view_in q.0).log =
      subst (λ l. IsProblem (problem_in l k) (view_in q.0).log) q.1.law_is
      (problem_now q.0 k q.1.valid (subst (λ l. IsOpenFor l k) (sym q.1.law_is) hub.open_for)) in
      subst (IsModelOf p log.entries) (sym (values_at searches by f.1.kept f.4))
      (model_stays p (view_in q.0).log log.entries (valuation_of f.1.kept.search) (grown_from q.0 q.1.law_is q.2) valid m)

  pub model_within : (by : ℕ) → model ≡ Some by → by < length searches
  model_within by is =
      let f : IsModelAmong (Some by) searches xs = subst (λ o. IsModelAmong o searches xs) is sum.kept.found in
      slice_get_within searches by f.1.kept f.4

  -- else what all cubes came to
  pub tried_all : model ≡ None → wanting ≡ false → (closed : List ℕ) → ArePlaces law all closed → length closed ≡ 2 ^ length k.tree.now → AreTried (problem_in law k) log.entries (2 ^ length k.tree.now) closed spent
  tried_all none calm closed places len =
      subst (λ l. AreTried (problem_in law k) l (2 ^ length k.tree.now) closed spent) (sym hub.log_is)
      (tried law k all count xs sum.some sum.long sum.below sum.first sum.left (subst (λ o. IsModelAmong o searches xs) none sum.kept.found) (sum.kept.memory calm) hub.opened hub.made hub.chains hub.open_for spent closed sum.lowest places (len ∙ sym hub.open_for.count))

  -- there is a search for each worker
  pub count_kept : length searches ≡ count
  count_kept = sum.kept.count ∙ sum.long

  pub some_kept : 0 < length searches
  some_kept = let whole = count_kept in let some = sum.some in omega (arith, whole, some)
