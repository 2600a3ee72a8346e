-- What an engine holds of the clauses.
use Rattle.std.proofs.Common.{◌≡◌, ℕ, ◌+◌, ◌-◌, ◌<◌, List, [], ◌∷◌, ◌++◌, length, Option, Some, None, refl, sym, ap, ◌∙◌, subst, inl, inr, ⊎_elim, arith}
use Rattle.std.specs.Prelude.{◌⊎◌, ◌≢◌, Contains, slice_get}
use Rattle.std.proofs.lemmas.Bool.{cases_lt}
use Rattle.std.proofs.lemmas.List.Elements.{Contains-append_left}
use Rattle.cnf_base.specs.Literals.{Literal}
use Rattle.cnf_base.specs.declared.clause.ClauseId.{ClauseId}
use Rattle.cnf_base.proofs.Options.{same_found}
use Rattle.cnf_base.proofs.Lists.{Contains-slice_get, slice_get-push}
use Rattle.variable_list.specs.Variables.{IsListed}
use Rattle.cdcl_core.specs.declared.watches.Watches.{Watches}
use Rattle.cdcl_core.specs.Search.{clause_of, held_of}
use Rattle.cdcl_core.proofs.Held.{same_or_other, held_kept}
use Rattle.cdcl_loop.specs.declared.engine.Engine.{Engine}
use Rattle.cdcl_loop.specs.Engines.{IsEngine, IsOnCourse, IsSameTask, IsSameStore, IsSameBut}
use Rattle.dimacs_front.specs.Cnf.{CnfValue}
use Rattle.dimacs_search.specs.Searching.{at_number, AreHeld, AreOnly, AreListed, IsKeeping, IsSearching}
use Rattle.dimacs_search.proofs.Telling.{MoreBy}

-- ---- loading

pub held_none : (cnf : CnfValue) (w : Watches) → AreHeld cnf 0 w
held_none cnf w i c lt e = absurd (omega (arith, lt))

-- the clause of the next place came under its number
pub held_more : (cnf : CnfValue) (old new : Watches) (n : ℕ) (c : List Literal) → AreHeld cnf n old → slice_get cnf.clauses n ≡ Some c → held_of new (at_number (n + 1)) ≡ Some c → ((q : ClauseId) → q ≢ at_number (n + 1) → held_of new q ≡ held_of old q) → AreHeld cnf (n + 1) new
held_more cnf old new n c h stands here others i d lt e = ⊎_elim
    (λ a. others (at_number (i + 1)) (λ q. let p : i + 1 ≡ n + 1 = ap (λ (x : ClauseId). x.pos) q in omega (arith, a, p)) ∙ h i d a e)
    (λ a.
    let same : i ≡ n = omega (arith, a, lt) in
    let equal : c ≡ d = same_found (slice_get cnf.clauses n) c d stands (subst (λ k. slice_get cnf.clauses k ≡ Some d) same e) in
    subst (λ k. held_of new (at_number (k + 1)) ≡ Some d) (sym same) (subst (λ x. held_of new (at_number (n + 1)) ≡ Some x) equal here))
    (cases_lt i n)

pub only_more : (cnf : CnfValue) (old new : Watches) (n : ℕ) (c : List Literal) → AreOnly cnf n old → slice_get cnf.clauses n ≡ Some c → clause_of new (at_number (n + 1)) ≡ Some c → ((q : ClauseId) → q ≢ at_number (n + 1) → clause_of new q ≡ clause_of old q) → AreOnly cnf (n + 1) new
only_more cnf old new n c h stands here others id d e = ⊎_elim
    (λ a.
    let equal : c ≡ d = same_found (clause_of new (at_number (n + 1))) c d here (subst (λ q. clause_of new q ≡ Some d) a e) in
    (n, omega arith, a, subst (λ x. slice_get cnf.clauses n ≡ Some x) equal stands))
    (λ a. let o = h id d (sym (others id a) ∙ e) in (o.0, omega (arith, o.1), o.2, o.3))
    (same_or_other id (at_number (n + 1)))

pub only_fresh : (cnf : CnfValue) (w : Watches) (n : ℕ) → AreOnly cnf n w → clause_of w (at_number (n + 1)) ≡ None
only_fresh cnf w n h = go (clause_of w (at_number (n + 1))) refl
  where
    go : (o : Option (List Literal)) → clause_of w (at_number (n + 1)) ≡ o → clause_of w (at_number (n + 1)) ≡ None
    go None e = e
    go (Some c) e =
        let o = h (at_number (n + 1)) c e in
        let p : n + 1 ≡ o.0 + 1 = ap (λ (q : ClauseId). q.pos) o.2 in
        absurd (omega (arith, o.1, p))

pub only_none : (cnf : CnfValue) (w : Watches) → ((id : ClauseId) → clause_of w id ≡ None) → AreOnly cnf 0 w
only_none cnf w none id c e = let f : ⊥ = (let q : None ≡ Some c = sym (none id) ∙ e in cc) in absurd f

-- one variable more is listed
pub listed_more : (n : ℕ) (old new : List ℕ) → AreListed n old → IsListed old (n + 1) new → AreListed (n + 1) new
listed_more n old new h (inl p) x low le = ⊎_elim
    (λ a. subst (λ xs. Contains xs x) (sym p.1) (h x low (omega (arith, a))))
    (λ a. let same : x ≡ n + 1 = omega (arith, a, le) in subst (λ xs. Contains xs x) (sym p.1) (subst (Contains old) (sym same) p.0))
    (cases_lt x (n + 1))
listed_more n old new h (inr p) x low le = ⊎_elim
    (λ a. subst (λ xs. Contains xs x) (sym p.1) (contains_front x (h x low (omega (arith, a)))))
    (λ a. let same : x ≡ n + 1 = omega (arith, a, le) in subst (λ xs. Contains xs x) (sym p.1) (subst (Contains (old ++ (n + 1) ∷ [])) (sym same) contains_last))
    (cases_lt x (n + 1))
  where
    contains_front : (x : ℕ) → Contains old x → Contains (old ++ (n + 1) ∷ []) x
    contains_front x c = Contains-append_left old ((n + 1) ∷ []) x c

    contains_last : Contains (old ++ (n + 1) ∷ []) (n + 1)
    contains_last = Contains-slice_get (old ++ (n + 1) ∷ []) (length old) (n + 1) (slice_get-push old (n + 1))

-- ---- a clause comes

pub more_by : (old new : Watches) (n : ℕ) (c : List Literal) → clause_of new (at_number n) ≡ Some c → IsSameBut (at_number n) old new → MoreBy n c (clause_of old) (clause_of new)
more_by old new n c here others id d e = ⊎_elim
    (λ a. inr (a, same_found (clause_of new (at_number n)) d c (subst (λ q. clause_of new q ≡ Some d) a e) here))
    (λ a. inl (sym (others.kept id a) ∙ e))
    (same_or_other id (at_number n))

-- ---- clauses that are kept

pub keeping_same : (first : ℕ) (w : Watches) → IsKeeping first w w
keeping_same first w = record { kept = λ id. refl; held = λ id c lt e. e }

pub keeping_equal : (first : ℕ) (old new : Watches) → new ≡ old → IsKeeping first old new
keeping_equal first old new e = subst (IsKeeping first old) (sym e) (keeping_same first old)

pub keeping_then : (first : ℕ) (u v w : Watches) → IsKeeping first u v → IsKeeping first v w → IsKeeping first u w
keeping_then first u v w h k = record { kept = λ id. k.kept id ∙ h.kept id; held = λ id c lt e. k.held id c lt (h.held id c lt e) }

pub task_same : (e : Engine) → IsSameTask e e
task_same e = record { given = refl; listed = refl }

pub task_then : (a b c : Engine) → IsSameTask a b → IsSameTask b c → IsSameTask a c
task_then a b c h k = record { given = k.given ∙ h.given; listed = k.listed ∙ h.listed }

-- a learnt clause is parked
pub keeping_parked : (first number : ℕ) (old new : Watches) → (number < first → ⊥) → ((q : ClauseId) → clause_of new q ≡ clause_of old q) → ((q : ClauseId) → q ≢ at_number number → held_of new q ≡ held_of old q) → IsKeeping first old new
keeping_parked first number old new late kept others = record {
  kept = kept;
  held = λ id c lt e. others id (λ q. let p : id.pos ≡ number = ap (λ (x : ClauseId). x.pos) q in late (omega (arith, lt, p))) ∙ e;
}

-- a clause is woken
pub keeping_woken : (first number : ℕ) (old new : Watches) → held_of new (at_number number) ≡ clause_of old (at_number number) → ((q : ClauseId) → clause_of new q ≡ clause_of old q) → ((q : ClauseId) → q ≢ at_number number → held_of new q ≡ held_of old q) → IsKeeping first old new
keeping_woken first number old new here kept others = record {
  kept = kept;
  held = λ id c lt e. ⊎_elim
      (λ a. subst (λ q. held_of new q ≡ Some c) (sym a) (here ∙ held_kept old (at_number number) c (subst (λ q. held_of old q ≡ Some c) a e)))
      (λ a. others id a ∙ e)
      (same_or_other id (at_number number));
}

-- ---- an engine that goes on

pub searching_on : (cnf : CnfValue) (old new : Engine) → IsSearching cnf old → IsEngine new → IsOnCourse new → IsSameTask old new → ((i : ℕ) (c : List Literal) → i < length cnf.clauses → held_of old.watches (at_number (i + 1)) ≡ Some c → held_of new.watches (at_number (i + 1)) ≡ Some c) → IsSearching cnf new
searching_on cnf old new s engine course task held = record {
  engine = engine;
  course = course;
  free = ap (λ v. v.items) task.given ∙ s.free;
  listed = λ x low le. subst (λ xs. Contains xs x) (sym task.listed) (s.listed x low le);
  held = λ i c lt e. held i c lt (s.held i c lt e);
}

pub listed_none : (xs : List ℕ) → AreListed (1 - 1) xs
listed_none xs x low le = absurd (omega (arith, low, le))

pub listed_next : (n : ℕ) (old new : List ℕ) → 0 < n → AreListed (n - 1) old → IsListed old n new → AreListed (n + 1 - 1) new
listed_next n old new low h l =
    let same : n - 1 + 1 ≡ n = omega (arith, low) in
    let all : n - 1 + 1 ≡ n + 1 - 1 = omega (arith, low) in
    subst (λ k. AreListed k new) all (listed_more (n - 1) old new h (subst (λ k. IsListed old k new) (sym same) l))

pub store_same : (w : Watches) → IsSameStore w w
store_same w = record { kept = λ id. refl; held = λ id. refl }

-- what was held is held, where no clause had the number of the one that came
pub held_still : (old new : Watches) (n : ℕ) → clause_of old (at_number n) ≡ None → IsSameBut (at_number n) old new → (id : ClauseId) (c : List Literal) → held_of old id ≡ Some c → held_of new id ≡ Some c
held_still old new n none others id c e = others.held id (λ q. not_both (clause_of old id) c (held_kept old id c e) (ap (clause_of old) q ∙ none)) ∙ e
  where
    not_both : (o : Option (List Literal)) (d : List Literal) → o ≡ Some d → o ≡ None → ⊥
    not_both o d p q = let z : Some d ≡ None = sym p ∙ q in cc

pub task_choices : (old mid new : Engine) → mid ≡ record old { choices = mid.choices } → IsSameTask mid new → IsSameTask old new
task_choices old mid new same task = record {
  given = task.given ∙ ap (λ (e : Engine). e.given) same;
  listed = task.listed ∙ ap (λ (e : Engine). e.agenda.list) same;
}

-- an engine that goes on, by what became of the clauses that are kept
pub searching_kept : (cnf : CnfValue) (first : ℕ) (old new : Engine) → first ≡ length cnf.clauses + 1 → IsSearching cnf old → IsEngine new → IsOnCourse new → IsSameTask old new → IsKeeping first old.watches new.watches → IsSearching cnf new
searching_kept cnf first old new size s engine course task keeping =
    searching_on cnf old new s engine course task (λ i c lt e. keeping.held (at_number (i + 1)) c (omega (arith, lt, size)) e)
