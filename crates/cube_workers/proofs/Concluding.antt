-- What a closed history tells, where all workers have ended, none of them found a model and none wanted memory.
use Rattle.std.proofs.Common.{◌≡◌, ℕ, zero, suc, ◌-◌, ◌<◌, ◌≤◌, ◌^◌, Bool, true, false, not, List, [], ◌∷◌, ◌++◌, length, Option, Some, None, refl, sym, ap, ◌∙◌, subst, inl, inr, ⊎_elim, arith, append-nil}
use Rattle.std.specs.Prelude.{◌⊎◌, ◌≢◌, ◌==◌, ◌&&◌, ◌||◌, ltb, if◌then◌else◌, Contains, slice_get}
use Rattle.std.specs.List.{AllByRecursion}
use Rattle.std.proofs.lemmas.Bool.{cases_lt, eq-eqb, eqb-true, ltb-false, ltb-true}
use Rattle.std.proofs.lemmas.List.{append_cancel_left}
use Rattle.std.proofs.lemmas.List.Elements.{filter-append, Contains-append_right}
use Rattle.std.proofs.lemmas.Option.{same_Some, slice_get_within}
use Rattle.cnf_base.specs.Literals.{Literal}
use Rattle.cnf_base.proofs.Lists.{slice_get-there, Contains-nil, Contains-first}
use Rattle.shared_history.specs.Events.{of_pass, StartsWith}
use Rattle.proof_log.specs.declared.diary.Diary.{Diary}
use Rattle.proof_log.specs.declared.entry.Entry.{Entry}
use Rattle.proof_log.specs.Logs.{clause_at, state_of}
use Rattle.proof_log.specs.Boards.{Grows}
use Rattle.cube_tree.specs.Cubes.{cube_of}
use Rattle.cube_tree.specs.Closing.{Closes}
use Rattle.cube_search.specs.declared.search.Search.{Search}
use Rattle.hub_core.specs.declared.events.Call.{Call}
use Rattle.hub_core.specs.declared.events.Call.TheVariants.{Define, PutLemma, PutChain, Claim, Close, Spend, Found}
use Rattle.hub_core.specs.declared.events.Event.{Event}
use Rattle.hub_core.specs.Hubs.{HubValue, HubView, opening, has_next, claim_after, call_after, run_from, view_of, by_of, IsClosedAt, IsOpening, IsHistory, IsTold}
use Rattle.hub_core.specs.Stays.{run_from-append, run_open}
use Rattle.hub_core.proofs.Sounds.{done_history_tells}
use Rattle.hub_board.specs.Chains.{AddChains}
use Rattle.hub_board.specs.Filing.{tells_found, any_found}
use Rattle.hub_board.specs.Boards.{BoardValue, view_in, told_by, told}
use Rattle.hub_board.proofs.Filing.{run_found, found-append}
use Rattle.hub_board.proofs.Seen.{found_is, seen_grows, later_chains}
use Rattle.cube_workers.specs.declared.check.Check.{Check}
use Rattle.cube_workers.specs.declared.worker.Reached.{Reached}
use Rattle.cube_workers.specs.declared.worker.Reached.TheVariants as reached
use Rattle.cube_workers.specs.Searched.{Problem, look_in, IsSpentCube, IsLowestSpent, AreTried}
use Rattle.cube_workers.specs.Workers.{problem_in, IsOpenFor, IsQuiet, HasSpent, IsSpentBy, IsReached}
use Rattle.cube_workers.specs.Histories.{ArePlaces}
use Rattle.cube_workers.specs.Crews.{Each, Left, IsLeft, AreLeft, IsLowest}
use Rattle.cube_workers.proofs.Cubes.{spent_stays}

-- ---- of what no pass tells, no event does

or_parts : (a b : Bool) → (a || b) ≡ false → (a ≡ false) × (b ≡ false)
or_parts false false e = (refl, refl)
or_parts true b e = let f : ⊥ = cc in absurd f
or_parts false true e = let f : ⊥ = cc in absurd f

or_false : (a b : Bool) → a ≡ false → b ≡ false → (a || b) ≡ false
or_false a b p q = ap (λ x. x || b) p ∙ q

-- the events of a pass, of one event more
pick : (n : ℕ) (e : Event) (es : List Event) (q : Bool) → (e.pass == n) ≡ q → of_pass by_of n (e ∷ es) ≡ (if q then e ∷ of_pass by_of n es else of_pass by_of n es)
pick n e es q h = ap (λ b. if b then e ∷ of_pass by_of n es else of_pass by_of n es) h

pick_own : (e : Event) (es : List Event) → of_pass by_of e.pass (e ∷ es) ≡ e ∷ of_pass by_of e.pass es
pick_own e es = pick e.pass e es true (eq-eqb e.pass e.pass refl)

rest_found : (n : ℕ) (e : Event) (es : List Event) → any_found (of_pass by_of n (e ∷ es)) ≡ false → any_found (of_pass by_of n es) ≡ false
rest_found n e es h = go (e.pass == n) refl
  where
    go : (q : Bool) → (e.pass == n) ≡ q → any_found (of_pass by_of n es) ≡ false
    go true k = (or_parts (tells_found e.call) (any_found (of_pass by_of n es)) (ap any_found (sym (pick n e es true k)) ∙ h)).1
    go false k = ap any_found (sym (pick n e es false k)) ∙ h

-- where no pass has told of a model, no event has
none_found : (all : List Event) (m : ℕ) → AllByRecursion (λ e. by_of e < m) all → ((n : ℕ) → n < m → any_found (of_pass by_of n all) ≡ false) → any_found all ≡ false
none_found [] m below each = refl
none_found (e ∷ es) m below each =
    or_false (tells_found e.call) (any_found es)
    (or_parts (tells_found e.call) (any_found (of_pass by_of e.pass es)) (ap any_found (sym (pick_own e es)) ∙ each e.pass below.0)).0
    (none_found es m below.1 (λ n lt. rest_found n e es (each n lt)))

-- whose number is none of these has no event
no_events : (all : List Event) (m n : ℕ) → AllByRecursion (λ e. by_of e < m) all → m ≤ n → of_pass by_of n all ≡ []
no_events [] m n below le = refl
no_events (e ∷ es) m n below le = pick n e es false ne ∙ no_events es m n below.1 le
  where
    ne : (e.pass == n) ≡ false
    ne = go (e.pass == n) refl
      where
        go : (q : Bool) → (e.pass == n) ≡ q → q ≡ false
        go true h = let same = eqb-true e.pass n h in let lt = below.0 in absurd (omega (arith, same, lt, le))
        go false h = refl

-- what was told is of calls
call_quiet : (call : Call) (rest : List Call) → IsQuiet (told_by call ++ rest) → tells_found call ≡ false
call_quiet (Define t u) rest h = refl
call_quiet (PutLemma lemma) rest h = refl
call_quiet (PutChain c hints) rest h = refl
call_quiet Claim rest h = refl
call_quiet (Close c p) rest h = refl
call_quiet (Spend c) rest h = refl
call_quiet (Found c) rest h = absurd (h c (Contains-first (Found c) rest))

quiet_none : (es : List Event) → IsQuiet (told es) → any_found es ≡ false
quiet_none [] h = refl
quiet_none (e ∷ es) h = or_false (tells_found e.call) (any_found es) (call_quiet e.call (told es) h) (quiet_none es (λ c k. h c (Contains-append_right (told_by e.call) (told es) (Found c) k)))

-- ---- spent cubes

claim_spent : (v : HubView) (n : ℕ) (b : Bool) → (claim_after v n b).spent ≡ v.spent
claim_spent v n true = refl
claim_spent v n false = refl

call_spent : (law : HubValue) (v : HubView) (n : ℕ) (call : Call) (c : ℕ) → (call_after law v n call).spent c ≡ true → (v.spent c ≡ true) ⊎ (call ≡ Spend c)
call_spent law v n (Define t u) c e = inl e
call_spent law v n (PutLemma lemma) c e = inl e
call_spent law v n (PutChain d hints) c e = inl e
call_spent law v n Claim c e = inl (ap (λ f. f c) (sym (claim_spent v n (has_next law v))) ∙ e)
call_spent law v n (Close d p) c e = inl e
call_spent law v n (Found d) c e = inl e
call_spent law v n (Spend d) c e = go (c == d) refl
  where
    go : (q : Bool) → (c == d) ≡ q → (v.spent c ≡ true) ⊎ (Spend d ≡ Spend c)
    go true h = inr (ap Spend (sym (eqb-true c d h)))
    go false h = inl (ap (λ b. if b then true else v.spent c) (sym h) ∙ e)

told_first : (e : Event) (es : List Event) (c : ℕ) → e.call ≡ Spend c → Contains (told (of_pass by_of e.pass (e ∷ es))) (Spend c)
told_first e es c is =
    subst (λ l. Contains (told l) (Spend c)) (sym (pick_own e es))
    (subst (λ x. Contains (told_by x ++ told (of_pass by_of e.pass es)) (Spend c)) (sym is) (Contains-first (Spend c) (told (of_pass by_of e.pass es))))

told_later : (n : ℕ) (e : Event) (es : List Event) (y : Call) → Contains (told (of_pass by_of n es)) y → Contains (told (of_pass by_of n (e ∷ es))) y
told_later n e es y h = go (e.pass == n) refl
  where
    go : (q : Bool) → (e.pass == n) ≡ q → Contains (told (of_pass by_of n (e ∷ es))) y
    go true k = subst (λ l. Contains (told l) y) (sym (pick n e es true k)) (Contains-append_right (told_by e.call) (told (of_pass by_of n es)) y h)
    go false k = subst (λ l. Contains (told l) y) (sym (pick n e es false k)) h

-- a cube is spent where some pass told it
spent_told : (law : HubValue) (v : HubView) (es : List Event) (c : ℕ) → (run_from law v es).spent c ≡ true → (v.spent c ≡ true) ⊎ ((n : ℕ) × Contains (told (of_pass by_of n es)) (Spend c))
spent_told law v [] c e = inl e
spent_told law v (x ∷ es) c e =
    ⊎_elim
    (λ (mid : (call_after law v x.pass x.call).spent c ≡ true).
    ⊎_elim
    (λ was. inl was)
    (λ (is : x.call ≡ Spend c). inr (x.pass, told_first x es c is))
    (call_spent law v x.pass x.call c mid))
    (λ (later : (n : ℕ) × Contains (told (of_pass by_of n es)) (Spend c)). inr (later.0, told_later later.0 x es (Spend c) later.1))
    (spent_told law (call_after law v x.pass x.call) es c e)

-- ---- claims

claim_more : (v : HubView) (n : ℕ) (b : Bool) → v.claimed ≤ (claim_after v n b).claimed
claim_more v n true = omega arith
claim_more v n false = omega arith

call_more : (law : HubValue) (v : HubView) (n : ℕ) (call : Call) → v.claimed ≤ (call_after law v n call).claimed
call_more law v n (Define t u) = omega arith
call_more law v n (PutLemma lemma) = omega arith
call_more law v n (PutChain c hints) = omega arith
call_more law v n Claim = claim_more v n (has_next law v)
call_more law v n (Close c p) = omega arith
call_more law v n (Spend c) = omega arith
call_more law v n (Found c) = omega arith

run_more : (law : HubValue) (v : HubView) (es : List Event) → v.claimed ≤ (run_from law v es).claimed
run_more law v [] = omega arith
run_more law v (e ∷ es) = let a = call_more law v e.pass e.call in let b = run_more law (call_after law v e.pass e.call) es in omega (arith, a, b)

not_below : (a b : ℕ) → b ≤ a → ltb a b ≡ false
not_below a b le = go (ltb a b) refl
  where
    go : (q : Bool) → ltb a b ≡ q → q ≡ false
    go true e = let lt = ltb-true a b e in absurd (omega (arith, lt, le))
    go false e = refl

-- ---- passes that have ended

-- the events of one pass, where it has ended: it saw a beginning of the history with all of them, after which it had no cube open
-- and none was left, and none of them tells of a model
record HasClosed (law : HubValue) (all : List Event) (n : ℕ) : Type 0 where
  pub seen : List Event
  pub rest : List Event
  pub starts : all ≡ seen ++ rest
  pub own : of_pass by_of n all ≡ of_pass by_of n seen
  pub idle : (c : ℕ) → (view_of law seen).open_for n c ≡ false
  pub none_left : has_next law (view_of law seen) ≡ false

-- the worker of this number, and what is left of it
record IsWorker (law : HubValue) (p : Problem) (all : List Event) (xs : List Left) (n : ℕ) : Type 0 where
  pub place : ℕ
  pub x : Left
  pub here : slice_get xs place ≡ Some x
  pub board : BoardValue
  pub is : IsLeft law p n board x
  pub seen : StartsWith all board.pass.seen
  pub mine : of_pass by_of n all ≡ board.pass.mine

-- of a spent cube: some worker has the diary of one that is no higher
record IsSpentLow (p : Problem) (log : List Entry) (xs : List Left) (c : ℕ) : Type 0 where
  pub place : ℕ
  pub x : Left
  pub here : slice_get xs place ≡ Some x
  pub d : Diary
  pub is : x.spent ≡ Some d
  pub low : d.cube ≤ c
  pub has : HasSpent p log c

-- how a worker ended that found no model and had memory
calm_quiet : (p : Problem) (b : BoardValue) (spent : Option Diary) (s : Search) (r : Reached) → IsReached p b spent s r → r ≢ reached.Model → r ≢ reached.NoMemory → IsQuiet (told b.pass.mine)
calm_quiet p b spent s reached.Done h m w = h.1
calm_quiet p b spent s reached.Stopped h m w = h.0
calm_quiet p b spent s reached.Model h m w = absurd (m refl)
calm_quiet p b spent s reached.NoMemory h m w = absurd (w refl)

calm_done : (p : Problem) (b : BoardValue) (spent : Option Diary) (s : Search) (r : Reached) → IsReached p b spent s r → r ≢ reached.Model → r ≢ reached.NoMemory → (view_in b).found ≡ false → IsReached p b spent s reached.Done
calm_done p b spent s reached.Done h m w none = h
calm_done p b spent s reached.Stopped h m w none = let e : true ≡ false = sym h.1 ∙ none in let f : ⊥ = cc in absurd f
calm_done p b spent s reached.Model h m w none = absurd (m refl)
calm_done p b spent s reached.NoMemory h m w none = absurd (w refl)

-- the log of a beginning of the history grew to that of the whole
pub grown_whole : (law : HubValue) (all : List Event) (b : BoardValue) → b.hist.law ≡ law → StartsWith all b.pass.seen → AddChains all → Grows (view_in b).log (view_of law all).log
grown_whole law all b is seen chains =
    subst (λ l. Grows (view_in b).log (view_of law l).log) (sym seen.1)
    (subst (λ (h : HubValue). Grows (view_of h b.pass.seen).log (view_of law (b.pass.seen ++ seen.0)).log) (sym is)
    (seen_grows law b.pass.seen seen.0 (later_chains b.pass.seen seen.0 all seen.1 chains)))

-- of a spent cube that the pass told, it has the diary of one that is no higher
spent_low : (p : Problem) (b : BoardValue) (o : Option Diary) (c : ℕ) → IsSpentBy p b o → Contains (told b.pass.mine) (Spend c) → (d : Diary) × (o ≡ Some d) × (d.cube ≤ c) × HasSpent p (view_in b).log c
spent_low p b None c h k = absurd (h c k)
spent_low p b (Some d) c h k = let low = h.1 c k in (d, refl, low.0, low.1)

spent_own : (p : Problem) (b : BoardValue) (o : Option Diary) (d : Diary) → IsSpentBy p b o → o ≡ Some d → IsSpentCube p (view_in b).log d
spent_own p b o d h is = (subst (IsSpentBy p b) is h).0

module _ (law : HubValue) (k : Check) (all : List Event) (count : ℕ) (xs : List Left) (some : 0 < count) (long : length xs ≡ count) (below : AllByRecursion (λ e. by_of e < suc count) all)
    (first : of_pass by_of 0 all ≡ []) (left : AreLeft law (problem_in law k) count all xs) (no_model : Each (λ i x. x.reached ≢ reached.Model) xs) (memory : Each (λ i x. x.reached ≢ reached.NoMemory) xs) where
  abbrev Worked : ℕ → Type 0
  Worked n = IsWorker law (problem_in law k) all xs n

  worker_of : (n : ℕ) → 0 < n → n < suc count → Worked n
  worker_of n pos lt =
      let at = slice_get-there xs (count - n) (omega (arith, pos, lt, long)) in
      let h = left (count - n) at.0 at.1 n (omega (arith, lt)) in
      record { place = count - n; x = at.0; here = at.1; board = h.0; is = h.1; seen = h.2; mine = h.3 }

  quiet_of : (n : ℕ) (w : Worked n) → any_found (of_pass by_of n all) ≡ false
  quiet_of n w =
      ap any_found w.mine
      ∙ quiet_none w.board.pass.mine (calm_quiet (problem_in law k) w.board w.x.spent w.x.kept.search w.x.reached w.is.reached (no_model w.place w.x w.here) (memory w.place w.x w.here))

  not_found : any_found all ≡ false
  not_found = none_found all (suc count) below go
    where
      go : (n : ℕ) → n < suc count → any_found (of_pass by_of n all) ≡ false
      go zero lt = ap any_found first
      go (suc n) lt = quiet_of (suc n) (worker_of (suc n) (omega arith) lt)

  found_none : (n : ℕ) (w : Worked n) → (view_in w.board).found ≡ false
  found_none n w =
      let parts : (any_found w.board.pass.seen || any_found w.seen.0) ≡ false = sym (found-append w.board.pass.seen w.seen.0) ∙ ap any_found (sym w.seen.1) ∙ not_found in
      found_is w.board ∙ (or_parts (any_found w.board.pass.seen) (any_found w.seen.0) parts).0

  done_of : (n : ℕ) (w : Worked n) → IsReached (problem_in law k) w.board w.x.spent w.x.kept.search reached.Done
  done_of n w = calm_done (problem_in law k) w.board w.x.spent w.x.kept.search w.x.reached w.is.reached (no_model w.place w.x w.here) (memory w.place w.x w.here) (found_none n w)

  closed_of : (n : ℕ) (w : Worked n) → HasClosed law all n
  closed_of n w =
      let done = done_of n w in
      record {
        seen = w.board.pass.seen;
        rest = w.seen.0;
        starts = w.seen.1;
        own = w.mine ∙ sym w.is.valid.mine ∙ ap (λ m. of_pass by_of m w.board.pass.seen) w.is.number;
        idle = λ c. sym (λ i. (view_of (w.is.law_is i) w.board.pass.seen).open_for (w.is.number i) c) ∙ done.0 c;
        none_left = sym (λ i. has_next (w.is.law_is i) (view_of (w.is.law_is i) w.board.pass.seen)) ∙ done.3;
      }

  each_closed : (n : ℕ) → 0 < n → n < suc count → HasClosed law all n
  each_closed n pos lt = closed_of n (worker_of n pos lt)

  -- what others do leaves what an ended pass has open
  idle_at_end : (n : ℕ) (h : HasClosed law all n) (c : ℕ) → (view_of law all).open_for n c ≡ false
  idle_at_end n h c =
      let split : of_pass by_of n h.seen ++ of_pass by_of n h.rest ≡ of_pass by_of n h.seen ++ [] =
      sym (filter-append (λ (e : Event). e.pass == n) h.seen h.rest) ∙ ap (of_pass by_of n) (sym h.starts) ∙ h.own ∙ sym (append-nil (of_pass by_of n h.seen)) in
      let none = append_cancel_left (of_pass by_of n h.seen) (of_pass by_of n h.rest) [] split in
      ap (λ l. (view_of law l).open_for n c) h.starts
      ∙ ap (λ (v : HubView). v.open_for n c) (run_from-append law (opening law) h.seen h.rest)
      ∙ run_open law (view_of law h.seen) h.rest n c none
      ∙ h.idle c

  idle_other : (n : ℕ) → of_pass by_of n all ≡ [] → (c : ℕ) → (view_of law all).open_for n c ≡ false
  idle_other n none c = run_open law (opening law) all n c none

  none_open : (n c : ℕ) → (view_of law all).open_for n c ≡ false
  none_open zero c = idle_other zero first c
  none_open (suc n) c =
      ⊎_elim
      (λ (lt : suc n < suc count). idle_at_end (suc n) (each_closed (suc n) (omega arith) lt) c)
      (λ (ge : suc count ≤ suc n). idle_other (suc n) (no_events all (suc count) (suc n) below ge) c)
      (cases_lt (suc n) (suc count))

  hub_found : (view_of law all).found ≡ false
  hub_found = run_found law (opening law) all ∙ not_found

  none_left : has_next law (view_of law all) ≡ false
  none_left =
      let h = each_closed 1 (omega arith) (omega (arith, some)) in
      let v = view_of law h.seen in
      let parts : (any_found h.seen || any_found h.rest) ≡ false = sym (found-append h.seen h.rest) ∙ ap any_found (sym h.starts) ∙ not_found in
      let was : v.found ≡ false = run_found law (opening law) h.seen ∙ (or_parts (any_found h.seen) (any_found h.rest) parts).0 in
      let full : ltb v.claimed (length law.cubes) ≡ false = sym (ap (λ b. not b && ltb v.claimed (length law.cubes)) was) ∙ h.none_left in
      let le = ltb-false v.claimed (length law.cubes) full in
      let more : v.claimed ≤ (view_of law all).claimed = subst (λ (w : HubView). v.claimed ≤ w.claimed) (sym (ap (view_of law) h.starts ∙ run_from-append law (opening law) h.seen h.rest)) (run_more law v h.rest) in
      ap (λ b. not b && ltb (view_of law all).claimed (length law.cubes)) hub_found ∙ not_below (view_of law all).claimed (length law.cubes) (omega (arith, le, more))

  module _ (opened : IsOpening law) (made : IsHistory law all) (chains : AddChains all) (open_for : IsOpenFor law k) where
    -- each cube is closed by the clause at its position, or spent
    all_told : (c : ℕ) → c < length law.cubes → IsTold law (view_of law all) c
    all_told =
        ⊎_elim
        (λ found. let e : true ≡ false = sym found ∙ hub_found in let f : ⊥ = cc in absurd f)
        (λ told. told)
        (done_history_tells law all opened made (record { none_open = none_open; none_left = none_left }))

    grown : (n : ℕ) (w : Worked n) → Grows (view_in w.board).log (view_of law all).log
    grown n w = grown_whole law all w.board w.is.law_is w.seen chains

    abbrev HasLow : ℕ → Type 0
    HasLow c = IsSpentLow (problem_in law k) (view_of law all).log xs c

    low_of : (n : ℕ) (w : Worked n) (c : ℕ) → Contains (told (of_pass by_of n all)) (Spend c) → HasLow c
    low_of n w c h =
        let q = spent_low (problem_in law k) w.board w.x.spent c (done_of n w).2 (subst (λ l. Contains (told l) (Spend c)) w.mine h) in
        record {
          place = w.place;
          x = w.x;
          here = w.here;
          d = q.0;
          is = q.1;
          low = q.2;
          has = (q.3.0, q.3.1, spent_stays (problem_in law k) (view_in w.board).log (view_of law all).log (grown n w) q.3.0 q.3.2);
        }

    told_low : (n c : ℕ) → Contains (told (of_pass by_of n all)) (Spend c) → HasLow c
    told_low zero c h = absurd (Contains-nil (Spend c) (subst (λ l. Contains (told l) (Spend c)) first h))
    told_low (suc n) c h =
        ⊎_elim
        (λ (lt : suc n < suc count). low_of (suc n) (worker_of (suc n) (omega arith) lt) c h)
        (λ (ge : suc count ≤ suc n). absurd (Contains-nil (Spend c) (subst (λ l. Contains (told l) (Spend c)) (no_events all (suc count) (suc n) below ge) h)))
        (cases_lt (suc n) (suc count))

    spent_is_low : (c : ℕ) → (view_of law all).spent c ≡ true → HasLow c
    spent_is_low c e =
        ⊎_elim
        (λ (was : false ≡ true). let f : ⊥ = cc in absurd f)
        (λ (told_so : (n : ℕ) × Contains (told (of_pass by_of n all)) (Spend c)). told_low told_so.0 c told_so.1)
        (spent_told law (opening law) all c e)

    -- a cube of the hub that is closed is one of the problem
    closed_cube : (c at : ℕ) → c < length law.cubes → IsClosedAt law (view_of law all).log c at → Closes (look_in (problem_in law k) (view_of law all).log) k.assumed.now (cube_of k.tree.now c) at
    closed_cube c at lt h =
        subst (λ (ls : List Literal). Closes (clause_at (state_of law.nodes (view_of law all).log).clauses) ls (cube_of k.tree.now c) at) open_for.assumed
        (subst (λ cs. Closes (clause_at (state_of law.nodes (view_of law all).log).clauses) law.assumed cs at) (open_for.each c [] lt) h)

    -- what all cubes came to together
    pub tried : (o : Option Diary) (closed : List ℕ) → IsLowest o xs → ArePlaces law all closed → length closed ≡ length law.cubes → AreTried (problem_in law k) (view_of law all).log (2 ^ length k.tree.now) closed o
    tried None closed lowest places same = (
      same ∙ open_for.count,
      λ c at e.
          let lt : c < length law.cubes = subst (λ n. c < n) same (slice_get_within closed c at e) in
          ⊎_elim
          (λ (h : (p : ℕ) × ((view_of law all).closed c ≡ Some p) × IsClosedAt law (view_of law all).log c p).
          let is : h.0 ≡ at = same_Some h.0 at (sym (places c h.0 (slice_get_within closed c at e) h.1) ∙ e) in
          subst (Closes (look_in (problem_in law k) (view_of law all).log) k.assumed.now (cube_of k.tree.now c)) is (closed_cube c h.0 lt h.2))
          (λ (h : (view_of law all).spent c ≡ true).
          let q = spent_is_low c h in let no : None ≡ Some q.d = sym (lowest q.place q.x q.here) ∙ q.is in let f : ⊥ = cc in absurd f)
          (all_told c lt),
    )
    tried (Some d) closed lowest places same = lowest_of d lowest
      where
        own_of : (n : ℕ) (w : Worked n) (e : Diary) → w.x.spent ≡ Some e → IsSpentCube (problem_in law k) (view_of law all).log e
        own_of n w e is = spent_stays (problem_in law k) (view_in w.board).log (view_of law all).log (grown n w) e (spent_own (problem_in law k) w.board w.x.spent e (done_of n w).2 is)

        at_place : (i : ℕ) (x : Left) (e : Diary) → slice_get xs i ≡ Some x → x.spent ≡ Some e → IsSpentCube (problem_in law k) (view_of law all).log e
        at_place i x e here is =
            let lt = slice_get_within xs i x here in
            let h = left i x here (count - i) (omega (arith, lt, long)) in
            own_of (count - i) (record { place = i; x = x; here = here; board = h.0; is = h.1; seen = h.2; mine = h.3 }) e is

        lowest_of : (e : Diary) → IsLowest (Some e) xs → IsLowestSpent (problem_in law k) (view_of law all).log (2 ^ length k.tree.now) e
        lowest_of e h =
            let own = at_place h.0.0 h.0.1 e h.0.2 h.0.3 in
            let within = own.cube in
            let number = open_for.count in
            record {
              own = own;
              lower = λ n lt.
                  let inside : n < length law.cubes = omega (arith, lt, within, number) in
                  ⊎_elim
                  (λ (c : (p : ℕ) × ((view_of law all).closed n ≡ Some p) × IsClosedAt law (view_of law all).log n p). (c.0, closed_cube n c.0 inside c.2))
                  (λ (s : (view_of law all).spent n ≡ true).
                  let q = spent_is_low n s in let le = h.1 q.place q.x q.here q.d q.is in let l = q.low in absurd (omega (arith, lt, le, l)))
                  (all_told n inside);
              later = λ n gt lt.
                  let inside : n < length law.cubes = omega (arith, lt, number) in
                  ⊎_elim
                  (λ (c : (p : ℕ) × ((view_of law all).closed n ≡ Some p) × IsClosedAt law (view_of law all).log n p). inl (c.0, closed_cube n c.0 inside c.2))
                  (λ (s : (view_of law all).spent n ≡ true). inr (spent_is_low n s).has)
                  (all_told n inside);
            }
