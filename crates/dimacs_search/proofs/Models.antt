-- The values at the end of a search make each clause true.
use Rattle.std.proofs.Common.{◌≡◌, ℕ, suc, ◌+◌, ◌-◌, ◌<◌, ◌≤◌, Bool, true, false, not, List, [], ◌∷◌, ◌++◌, length, Some, refl, sym, ap, ◌∙◌, inl, inr, ⊎_elim, arith}
use Rattle.std.specs.Prelude.{Contains, ltb, slice_index, slice_index_or, slice_get, if◌then◌else◌}
use Rattle.std.proofs.lemmas.Bool.{lt-ltb, ltb-true, cases_lt}
use Rattle.std.proofs.lemmas.List.{get_or_append_left}
use Rattle.std.proofs.Math.Seq.{get_or-append_seam}
use Rattle.std.proofs.lemmas.Option.{slice_get_within}
use Rattle.cnf_base.specs.Literals.{Literal, negated, positive_of, code_of}
use Rattle.cnf_base.specs.Clauses.{lit_true, clause_true, all_true}
use Rattle.cnf_base.proofs.Lists.{Contains-slice_get}
use Rattle.cdcl_core.specs.declared.trail.Trail.{Trail}
use Rattle.cdcl_core.specs.declared.watches.Watches.{Watches}
use Rattle.cdcl_core.specs.Levels.{Row, IsTrueBy, RestsBy}
use Rattle.cdcl_core.specs.Search.{literals_of, level_of, IsAtRest}
use Rattle.cdcl_core.specs.State.{IsSettled}
use Rattle.cdcl_core.proofs.Bridge.{rows_true, code_of-negated}
use Rattle.cdcl_loop.specs.Courses.{AreValued}
use Rattle.cdcl_loop.specs.Values.{valuation}
use Rattle.cdcl_loop.proofs.Values.{clause_holds}
use Rattle.dimacs_front.specs.Cnf.{CnfValue}
use Rattle.dimacs_search.specs.Solving.{AreOf, HaveTheirVariables, assignment, IsModel}
use Rattle.dimacs_search.specs.Searching.{at_number, AreHeld, AreListed}

-- a literal that is true on the trail is true under its values
valuation_holds : (w : Watches) (t : Trail) (l : Literal) → IsSettled w t → IsTrueBy (literals_of t) (level_of t) l → lit_true (valuation t) l ≡ true
valuation_holds w t l s h = go l.positive refl
  where
    stamp : Literal → ℕ
    stamp m = slice_index t.stamps.items (code_of m)

    set : 0 < stamp l
    set = (rows_true t (level_of t) l s.trail s.shown h).0

    unset : stamp (negated l) ≡ 0
    unset = ap (slice_index t.stamps.items) (code_of-negated l) ∙ s.trail.apart (code_of l) set

    none : (n : ℕ) → n ≡ 0 → not (ltb 0 n) ≡ true
    none n e = decide (ltb 0 n) refl
      where
        decide : (b : Bool) → ltb 0 n ≡ b → not b ≡ true
        decide false q = refl
        decide true q = let lt = ltb-true 0 n q in absurd (omega (arith, lt, e))

    go : (b : Bool) → l.positive ≡ b → lit_true (valuation t) l ≡ true
    go true e =
        let same : positive_of l.variable ≡ l = λ i. record { variable = l.variable; positive = sym e i } in
        ap (λ b. if b then valuation t l.variable else not (valuation t l.variable)) e ∙ ap (λ (m : Literal). ltb 0 (stamp m)) same ∙ lt-ltb 0 (stamp l) set
    go false e =
        let other : positive_of l.variable ≡ negated l = λ i. record { variable = l.variable; positive = not (sym e i) } in
        ap (λ b. if b then valuation t l.variable else not (valuation t l.variable)) e ∙ none (stamp (positive_of l.variable)) (ap stamp other ∙ unset)

-- at rest, where each variable has a value, a clause has a true literal
rest_is_true : (rows : List Row) (level : ℕ) (variables : ℕ) (listed : List ℕ) (c : List Literal) → RestsBy rows level c → AreOf variables c → AreListed variables listed → AreValued listed rows level → (l : Literal) × (Contains c l × ((IsTrueBy rows level l → ⊥) → ⊥))
rest_is_true rows level variables listed c r among names valued = elim r [
  | inl a ↦ (a.0, (a.1.0, (λ f. f a.1.1)))
  | inr a ↦ (
    a.0,
    (
      a.1.1.0,
      (λ f. let v = among a.0 a.1.1.0 in valued a.0 (names a.0.variable v.0 v.1) (f, a.1.1.1.1.1.0)),
    ),
  )
]

bool_settled : (b : Bool) → ((b ≡ true → ⊥) → ⊥) → b ≡ true
bool_settled true f = refl
bool_settled false f = absurd (f (λ e. let z : ⊥ = cc in z))

each_true : (v : ℕ → Bool) (cs : List (List Literal)) → ((i : ℕ) (c : List Literal) → slice_get cs i ≡ Some c → clause_true v c ≡ true) → all_true v cs ≡ true
each_true v [] f = refl
each_true v (c ∷ cs) f = let here = f 0 c refl in rw here (each_true v cs (λ i d e. f (suc i) d e))

pub model_holds : (w : Watches) (t : Trail) (cnf : CnfValue) (listed : List ℕ) (values : List Bool) → IsSettled w t → IsAtRest w t → AreHeld cnf (length cnf.clauses) w → AreListed cnf.variables listed → AreValued listed (literals_of t) (level_of t) → HaveTheirVariables cnf → length values ≡ cnf.variables → ((x : ℕ) → 0 < x → x ≤ cnf.variables → assignment values x ≡ valuation t x) → IsModel cnf values
model_holds w t cnf listed values settled rest held names valued theirs count same = record {
  count = count;
  satisfies = each_true (assignment values) cnf.clauses (λ i c e.
      let is_held = held i c (slice_get_within cnf.clauses i c e) e in
      let among : AreOf cnf.variables c = theirs c (Contains-slice_get cnf.clauses i c e) in
      let q = rest_is_true (literals_of t) (level_of t) cnf.variables listed c (rest (at_number (i + 1)) c (level_of t) is_held (omega arith)) among names valued in
      let on_trail : lit_true (valuation t) q.0 ≡ true = bool_settled (lit_true (valuation t) q.0) (λ f. q.1.1 (λ h. f (valuation_holds w t q.0 settled h))) in
      let v = among q.0 q.1.0 in
      clause_holds (assignment values) c q.0 q.1.0 (ap (λ b. if q.0.positive then b else not b) (same q.0.variable v.0 v.1) ∙ on_trail));
}

-- the value of one variable more
pub value_pushed : (values : List Bool) (b : Bool) (v : ℕ → Bool) (n : ℕ) → 0 < n → length values ≡ n - 1 → b ≡ v n → ((x : ℕ) → 0 < x → x < n → assignment values x ≡ v x) → (x : ℕ) → 0 < x → x < n + 1 → assignment (values ++ b ∷ []) x ≡ v x
value_pushed values b v n low count here before x from lt = ⊎_elim
    (λ a. get_or_append_left values (b ∷ []) false (x - 1) (omega (arith, a, from, count)) ∙ before x from a)
    (λ a.
    let same : x ≡ n = omega (arith, a, lt) in
    let place : x - 1 ≡ length values = omega (arith, same, count) in
    ap (λ k. slice_index_or (values ++ b ∷ []) k false) place ∙ get_or-append_seam values b [] false ∙ here ∙ ap v (sym same))
    (cases_lt x n)
