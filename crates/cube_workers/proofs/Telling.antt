-- What a worker has told, and what it comes to.
use Rattle.std.proofs.Common.{◌≡◌, ℕ, zero, suc, ◌<◌, ◌≤◌, Bool, List, [], ◌∷◌, ◌++◌, length, get_or, Option, Some, None, refl, sym, ap, ◌∙◌, subst, inl, inr, ⊎_elim, arith, append_assoc, append-nil}
use Rattle.std.specs.Prelude.{◌⊎◌, Contains, MatchOption}
use Rattle.std.proofs.lemmas.List.Elements.{Contains-append_cases}
use Rattle.cnf_base.specs.Literals.{Literal}
use Rattle.proof_log.specs.declared.diary.Diary.{Diary}
use Rattle.proof_log.specs.declared.entry.Entry.{Entry}
use Rattle.proof_log.specs.Logs.{clause_at, state_of}
use Rattle.proof_log.specs.Boards.{Grows}
use Rattle.proof_log.proofs.Growth.{clause_stays}
use Rattle.cube_tree.specs.Cubes.{cube_of}
use Rattle.cube_tree.specs.Closing.{Closes}
use Rattle.cube_search.specs.declared.search.Search.{Search}
use Rattle.cube_search.specs.declared.ends.End.{End}
use Rattle.cube_search.specs.declared.ends.End.TheVariants as end
use Rattle.cube_search.specs.Running.{valuation_of}
use Rattle.cube_search.proofs.Resting.{search_rests}
use Rattle.hub_core.specs.declared.events.Call.{Call}
use Rattle.hub_core.specs.declared.events.Call.TheVariants.{Claim, Spend, Found}
use Rattle.hub_core.specs.Hubs.{view_of, IsClosedAt}
use Rattle.hub_board.specs.Boards.{BoardValue, IsBoard, view_in, told, footing_of, IsMoved}
use Rattle.hub_board.specs.Cubes.{IsOn, IsIdle, IsBusy, IsToldMore}
use Rattle.hub_board.proofs.Seen.{seen_grows, later_chains}
use Rattle.cube_workers.specs.declared.check.Check.{Check}
use Rattle.cube_workers.specs.declared.worker.Reached.{Reached}
use Rattle.cube_workers.specs.declared.worker.Reached.TheVariants as reached
use Rattle.cube_workers.specs.Searched.{Problem, IsProblem, IsSpentCube, IsModelOf, look_in}
use Rattle.cube_workers.specs.Workers.{problem_in, IsOpenFor, IsAbout, IsCubeEnd, IsQuiet, HasSpent, IsSpentBy, IsReached, RestsAfter}
use Rattle.cube_workers.proofs.Cubes.{spent_stays}
use Rattle.cube_workers.proofs.OnHub.{problem_now, about_on}

single : (x y : Call) → Contains (y ∷ []) x → x ≡ y
single x y h = go h.0 h.1 h.2
  where
    go : (k : ℕ) → k < 1 → get_or (y ∷ []) k x ≡ x → x ≡ y
    go zero lt e = sym e
    go (suc k) lt e = absurd (omega (arith, lt))

-- what was told was told before, or is the call
told_cases : (b b' : BoardValue) (call x : Call) → IsToldMore b b' call → Contains (told b'.pass.mine) x → Contains (told b.pass.mine) x ⊎ (x ≡ call)
told_cases b b' call x more h =
    ⊎_elim
    (λ same. inl (subst (λ l. Contains l x) same h))
    (λ longer. ⊎_elim (λ was. inl was) (λ new. inr (single x call new)) (Contains-append_cases (told b.pass.mine) (call ∷ []) x (subst (λ l. Contains l x) longer h)))
    more

pub more_quiet : (b b' : BoardValue) (call : Call) → ((c : ℕ) → Found c ≡ call → ⊥) → IsToldMore b b' call → IsQuiet (told b.pass.mine) → IsQuiet (told b'.pass.mine)
more_quiet b b' call other more quiet c h = ⊎_elim (λ was. quiet c was) (λ is. other c is) (told_cases b b' call (Found c) more h)

pub on_grows : (b b' : BoardValue) → IsBoard b' → IsOn b b' → Grows (view_in b).log (view_in b').log
on_grows b b' h' on =
    subst (λ l. Grows (view_in b).log l) (sym (λ i. (view_of (on.hist i).law (on.seen.1 i)).log))
    (seen_grows b.hist.law b.pass.seen on.seen.0 (later_chains b.pass.seen on.seen.0 b'.pass.seen on.seen.1 h'.chains))

-- ---- spent cubes

has_spent : (p : Problem) (log log' : List Entry) (c : ℕ) → Grows log log' → HasSpent p log c → HasSpent p log' c
has_spent p log log' c grows h = (h.0, h.1, spent_stays p log log' grows h.0 h.2)

-- no cube more is told to be spent
pub still_spent_by : (p : Problem) (b b' : BoardValue) (spent : Option Diary) → Grows (view_in b).log (view_in b').log → ((c : ℕ) → Contains (told b'.pass.mine) (Spend c) → Contains (told b.pass.mine) (Spend c)) → IsSpentBy p b spent → IsSpentBy p b' spent
still_spent_by p b b' None grows less h = λ c k. h c (less c k)
still_spent_by p b b' (Some d) grows less h = (
  spent_stays p (view_in b).log (view_in b').log grows d h.0,
  λ c k. let w = h.1 c (less c k) in (w.0, has_spent p (view_in b).log (view_in b').log c grows w.1),
)

pub other_spent : (b b' : BoardValue) (call : Call) → ((c : ℕ) → Spend c ≡ call → ⊥) → IsToldMore b b' call → (c : ℕ) → Contains (told b'.pass.mine) (Spend c) → Contains (told b.pass.mine) (Spend c)
other_spent b b' call other more c h = ⊎_elim (λ was. was) (λ is. absurd (other c is)) (told_cases b b' call (Spend c) more h)

same_cube : (c cube : ℕ) → Spend c ≡ Spend cube → c ≡ cube
same_cube c cube e = cc

-- the cube that was told last is spent
told_spent : (p : Problem) (b' : BoardValue) (cube c : ℕ) (diary : Diary) → diary.cube ≡ cube → IsSpentCube p (view_in b').log diary → Spend c ≡ Spend cube → (diary.cube ≡ c) × HasSpent p (view_in b').log c
told_spent p b' cube c diary same here e =
    let is : diary.cube ≡ c = same ∙ sym (same_cube c cube e) in
    let it : HasSpent p (view_in b').log c = (diary, is, here) in
    (is, it)

no_higher : (p : Problem) (log : List Entry) (diary d : Diary) (c : ℕ) → d.cube ≤ diary.cube → (diary.cube ≡ c) × HasSpent p log c → (d.cube ≤ c) × HasSpent p log c
no_higher p log diary d c le h = (omega (arith, h.0, le), h.1)

-- the cube of the diary is no higher than each that was told
lowest_told : (p : Problem) (b b' : BoardValue) (cube : ℕ) (diary d : Diary) → IsToldMore b b' (Spend cube) → diary.cube ≡ cube → IsSpentCube p (view_in b').log diary → d.cube ≤ diary.cube → IsSpentCube p (view_in b').log d
    → ((c : ℕ) → Contains (told b.pass.mine) (Spend c) → (d.cube ≤ c) × HasSpent p (view_in b').log c) → IsSpentBy p b' (Some d)
lowest_told p b b' cube diary d more same here le own each = (
  own,
  λ c k. ⊎_elim
      (λ (was : Contains (told b.pass.mine) (Spend c)). each c was)
      (λ (new : Spend c ≡ Spend cube). no_higher p (view_in b').log diary d c le (told_spent p b' cube c diary same here new))
      (told_cases b b' (Spend cube) (Spend c) more k),
)

-- one cube more is spent
pub more_spent : (p : Problem) (b b' : BoardValue) (cube : ℕ) (spent : Option Diary) (diary low : Diary) → Grows (view_in b).log (view_in b').log → IsToldMore b b' (Spend cube) → diary.cube ≡ cube → IsSpentCube p (view_in b).log diary
    → MatchOption spent (low ≡ diary) (λ d. ((low ≡ d) × (d.cube ≤ diary.cube)) ⊎ ((low ≡ diary) × (diary.cube ≤ d.cube))) → IsSpentBy p b spent → IsSpentBy p b' (Some low)
more_spent p b b' cube None diary low grows more same own is h =
    let here : IsSpentCube p (view_in b').log diary = spent_stays p (view_in b).log (view_in b').log grows diary own in
    subst (λ (x : Diary). IsSpentBy p b' (Some x)) (sym is) (lowest_told p b b' cube diary diary more same here (omega (arith, same)) here (λ c k. absurd (h c k)))
more_spent p b b' cube (Some d) diary low grows more same own is h =
    let here : IsSpentCube p (view_in b').log diary = spent_stays p (view_in b).log (view_in b').log grows diary own in
    let before : IsSpentCube p (view_in b').log d = spent_stays p (view_in b).log (view_in b').log grows d h.0 in
    ⊎_elim
    (λ (kept : (low ≡ d) × (d.cube ≤ diary.cube)).
    subst (λ (x : Diary). IsSpentBy p b' (Some x)) (sym kept.0)
    (lowest_told p b b' cube diary d more same here kept.1 before (λ c k. (fst_of c k, has_spent p (view_in b).log (view_in b').log c grows (snd_of c k)))))
    (λ (new_low : (low ≡ diary) × (diary.cube ≤ d.cube)).
    subst (λ (x : Diary). IsSpentBy p b' (Some x)) (sym new_low.0)
    (lowest_told p b b' cube diary diary more same here (omega (arith, same)) here (λ c k. (below c new_low.1 (fst_of c k), has_spent p (view_in b).log (view_in b').log c grows (snd_of c k)))))
    is
  where
    fst_of : (c : ℕ) → Contains (told b.pass.mine) (Spend c) → d.cube ≤ c
    fst_of c k = (h.1 c k).0

    snd_of : (c : ℕ) → Contains (told b.pass.mine) (Spend c) → HasSpent p (view_in b).log c
    snd_of c k = (h.1 c k).1

    below : (c : ℕ) → diary.cube ≤ d.cube → d.cube ≤ c → diary.cube ≤ c
    below c le l = omega (arith, le, l)

-- ---- models

-- a model of the opening clauses is one of the log that grew
pub model_stays : (p : Problem) (log log' : List Entry) (v : ℕ → Bool) → Grows log log' → IsProblem p log → IsModelOf p log v → IsModelOf p log' v
model_stays p log log' v grows h m = record {
  clauses = λ id c among e. m.clauses id c among (sym (clause_stays p.nodes log log' id grows (let lt = h.positions id.pos among in let from = h.from in omega (arith, lt, from))) ∙ e);
  literals = m.literals;
}

-- ---- one cube

-- the cube of the hub is closed
pub closed_at : (b : BoardValue) (k : Check) (cube at : ℕ) → IsOpenFor b.hist.law k → cube < length b.hist.law.cubes
    → Closes (look_in (problem_in b.hist.law k) (view_in b).log) k.assumed.now (cube_of k.tree.now cube) at → IsClosedAt b.hist.law (view_in b).log cube at
closed_at b k cube at open_for lt h =
    subst (λ cs. Closes (clause_at (state_of b.hist.law.nodes (view_in b).log).clauses) b.hist.law.assumed cs at) (sym (open_for.each cube [] lt))
    (subst (λ (xs : List Literal). Closes (clause_at (state_of b.hist.law.nodes (view_in b).log).clauses) xs (cube_of k.tree.now cube) at) (sym open_for.assumed) h)

pub on_moved : (b b' : BoardValue) → IsMoved (footing_of b) b' → IsOn b b'
on_moved b b' m = record { hist = m.hist; number = m.number; seen = m.seen }

claim_is_other : (c : ℕ) → Found c ≡ Claim → ⊥
claim_is_other c q = cc

claim_spends_none : (c : ℕ) → Spend c ≡ Claim → ⊥
claim_spends_none c q = cc

pub claim_quiet : (b b' : BoardValue) → IsToldMore b b' Claim → IsQuiet (told b.pass.mine) → IsQuiet (told b'.pass.mine)
claim_quiet b b' more quiet = more_quiet b b' Claim claim_is_other more quiet

pub claim_spent : (p : Problem) (b b' : BoardValue) (spent : Option Diary) → IsBoard b' → IsOn b b' → IsToldMore b b' Claim → IsSpentBy p b spent → IsSpentBy p b' spent
claim_spent p b b' spent h' on more h = still_spent_by p b b' spent (on_grows b b' h' on) (other_spent b b' Claim claim_spends_none more) h

-- a search that is about the board's log rests beside it
pub rests_after : (s : Search) (b : BoardValue) (p : Problem) (r : Reached) → IsAbout s b p → RestsAfter b s r
rests_after s b p reached.Done h = search_rests s b.hist.law.nodes (view_in b).log h.search
rests_after s b p reached.Stopped h = search_rests s b.hist.law.nodes (view_in b).log h.search
rests_after s b p reached.Model h = search_rests s b.hist.law.nodes (view_in b).log h.search
rests_after s b p reached.NoMemory h = tt

beside : {S : Type 0} (A : Type 0) (P Q : Reached → Type 0) (o : Option Reached) → S → ((r : Reached) → Q r) → MatchOption o A P → MatchOption o (S × A) (λ r. P r × Q r)
beside A P Q None s q h = (s, h)
beside A P Q (Some x) s q h = (h, q x)

-- a cube was claimed, searched and told of
pub cube_told : (b0 b1 b2 b3 : BoardValue) (k : Check) (cube : ℕ) (s : Search) (spent spent' : Option Diary) (e : End) (r : Option Reached) → IsBoard b1 → IsBoard b2 → IsBoard b3 → IsOpenFor b0.hist.law k
    → IsOn b0 b1 → IsToldMore b0 b1 Claim → IsMoved (footing_of b1) b2 → IsOn b2 b3 → IsQuiet (told b0.pass.mine) → IsSpentBy (problem_in b0.hist.law k) b0 spent
    → IsAbout s b2 (problem_in b1.hist.law k) → IsCubeEnd (problem_in b1.hist.law k) b2 (valuation_of s) cube e
    → ((p : Problem) (x : Search) → IsProblem p (view_in b2).log → IsCubeEnd p b2 (valuation_of x) cube e → IsQuiet (told b2.pass.mine) → IsSpentBy p b2 spent → MatchOption r (IsIdle b3 × IsQuiet (told b3.pass.mine) × IsSpentBy p b3 spent') (IsReached p b3 spent' x))
    → MatchOption r (IsAbout s b3 (problem_in b0.hist.law k) × (IsIdle b3 × IsQuiet (told b3.pass.mine) × IsSpentBy (problem_in b0.hist.law k) b3 spent')) (λ x. IsReached (problem_in b0.hist.law k) b3 spent' s x × RestsAfter b3 s x)
cube_told b0 b1 b2 b3 k cube s spent spent' e r h1 h2 h3 open_for on01 more moved on23 quiet own about end_is tells =
    let p = problem_in b0.hist.law k in
    let same : b2.hist ≡ b0.hist = moved.hist ∙ on01.hist in
    let valid : IsProblem p (view_in b2).log = subst (λ x. IsProblem (problem_in x.law k) (view_in b2).log) same (problem_now b2 k h2 (subst (λ x. IsOpenFor x.law k) (sym same) open_for)) in
    let ended : IsCubeEnd p b2 (valuation_of s) cube e = subst (λ x. IsCubeEnd (problem_in x.law k) b2 (valuation_of s) cube e) on01.hist end_is in
    let still : IsAbout s b3 p = about_on s b2 b3 p (on_grows b2 b3 h3 on23) h3 on23 (subst (λ x. IsAbout s b2 (problem_in x.law k)) on01.hist about) in
    let quiet2 : IsQuiet (told b2.pass.mine) = subst IsQuiet (sym moved.told) (claim_quiet b0 b1 more quiet) in
    let own2 : IsSpentBy p b2 spent = still_spent_by p b1 b2 spent (on_grows b1 b2 h2 (on_moved b1 b2 moved)) (λ c q. subst (λ l. Contains l (Spend c)) moved.told q) (claim_spent p b0 b1 spent h1 on01 more own) in
    beside (IsIdle b3 × IsQuiet (told b3.pass.mine) × IsSpentBy p b3 spent') (IsReached p b3 spent' s) (RestsAfter b3 s) r still (λ x. rests_after s b3 p x still) (tells p s valid ended quiet2 own2)

-- what telling asks: the cube is open, and closed by the clause
pub busy_on : (b b' : BoardValue) (c : ℕ) → IsMoved (footing_of b) b' → IsBusy b c → IsBusy b' c
busy_on b b' c m h = (m.opens c ∙ h.0, λ d ne. m.opens d ∙ h.1 d ne)

pub cube_closed : (b0 b1 b2 : BoardValue) (k : Check) (v : ℕ → Bool) (cube at : ℕ) (e : End) → IsOpenFor b0.hist.law k → IsOn b0 b1 → IsMoved (footing_of b1) b2 → cube < length b1.hist.law.cubes
    → IsCubeEnd (problem_in b1.hist.law k) b2 v cube e → e ≡ end.Closed at → IsClosedAt b2.hist.law (view_in b2).log cube at
cube_closed b0 b1 b2 k v cube at e open_for on01 moved lt h is =
    let p2 = problem_in b2.hist.law k in
    let q : IsCubeEnd p2 b2 v cube (end.Closed at) = subst (IsCubeEnd p2 b2 v cube) is (subst (λ x. IsCubeEnd (problem_in x.law k) b2 v cube e) (sym moved.hist) h) in
    closed_at b2 k cube at (subst (λ x. IsOpenFor x.law k) (sym (moved.hist ∙ on01.hist)) open_for) (subst (λ x. cube < length x.law.cubes) (sym moved.hist) lt) q

-- ---- one cube after the other

-- a search and a board between two cubes
abbrev pub AreResting : Check → BoardValue → Search → Option Diary → Type 0
AreResting k b s spent = IsAbout s b (problem_in b.hist.law k) × (IsIdle b × IsQuiet (told b.pass.mine) × IsSpentBy (problem_in b.hist.law k) b spent)

pub on_then : (a b d : BoardValue) → IsOn a b → IsOn b d → IsOn a d
on_then a b d h k = record {
  hist = k.hist ∙ h.hist;
  number = k.number ∙ h.number;
  seen = (h.seen.0 ++ k.seen.0, k.seen.1 ∙ ap (λ l. l ++ k.seen.0) h.seen.1 ∙ append_assoc a.pass.seen h.seen.0 k.seen.0);
}

pub on_same : (b : BoardValue) → IsOn b b
on_same b = record { hist = refl; number = refl; seen = ([], sym (append-nil b.pass.seen)) }

pub rest_again : (k : Check) (b b' : BoardValue) (s : Search) (spent : Option Diary) → IsOn b b'
    → IsAbout s b' (problem_in b.hist.law k) × (IsIdle b' × IsQuiet (told b'.pass.mine) × IsSpentBy (problem_in b.hist.law k) b' spent)
    → AreResting k b' s spent
rest_again k b b' s spent on h = subst (λ x. IsAbout s b' (problem_in x.law k) × (IsIdle b' × IsQuiet (told b'.pass.mine) × IsSpentBy (problem_in x.law k) b' spent)) (sym on.hist) h

pub open_again : (k : Check) (b b' : BoardValue) → IsOn b b' → IsOpenFor b.hist.law k → IsOpenFor b'.hist.law k
open_again k b b' on h = subst (λ x. IsOpenFor x.law k) (sym on.hist) h

pub reached_again : (k : Check) (b0 b b' : BoardValue) (spent : Option Diary) (s : Search) (r : Reached) → IsOn b0 b → IsReached (problem_in b.hist.law k) b' spent s r → IsReached (problem_in b0.hist.law k) b' spent s r
reached_again k b0 b b' spent s r on h = subst (λ x. IsReached (problem_in x.law k) b' spent s r) on.hist h
