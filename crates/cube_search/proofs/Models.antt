-- The values at the end of a search are a model.
use Rattle.std.proofs.Common.{◌≡◌, ℕ, ◌<◌, Bool, true, false, not, List, refl, sym, ap, ◌∙◌, inl, inr, arith}
use Rattle.std.specs.Prelude.{Contains, ltb, slice_index, if◌then◌else◌}
use Rattle.std.proofs.lemmas.Bool.{lt-ltb, ltb-true}
use Rattle.cnf_base.specs.Literals.{Literal, negated, positive_of, code_of}
use Rattle.cnf_base.specs.Clauses.{lit_true}
use Rattle.cdcl_core.specs.declared.trail.Trail.{Trail}
use Rattle.cdcl_core.specs.declared.watches.Watches.{Watches}
use Rattle.cdcl_core.specs.Levels.{Row, IsTrueBy, RestsBy}
use Rattle.cdcl_core.specs.Search.{literals_of, level_of}
use Rattle.cdcl_core.specs.State.{IsSettled}
use Rattle.cdcl_core.proofs.Bridge.{rows_true, code_of-negated}
use Rattle.cdcl_loop.specs.Courses.{AreValued}
use Rattle.cdcl_loop.specs.Engines.{IsAssumed}
use Rattle.cdcl_loop.specs.Values.{valuation}
use Rattle.cdcl_loop.proofs.Values.{clause_holds}
use Rattle.cube_search.specs.Holding.{AreAmong, IsHolding}
use Rattle.cube_search.specs.Ends.{IsModel}

-- a literal that is true on the trail is true under its values
pub valuation_holds : (w : Watches) (t : Trail) (l : Literal) → IsSettled w t → IsTrueBy (literals_of t) (level_of t) l → lit_true (valuation t) l ≡ true
valuation_holds w t l s h = go l.positive refl
  where
    stamp : Literal → ℕ
    stamp m = slice_index t.stamps.items (code_of m)

    set : 0 < stamp l
    set = (rows_true t (level_of t) l s.trail s.shown h).0

    unset : stamp (negated l) ≡ 0
    unset = ap (slice_index t.stamps.items) (code_of-negated l) ∙ s.trail.apart (code_of l) set

    none : (n : ℕ) → n ≡ 0 → not (ltb 0 n) ≡ true
    none n e = decide (ltb 0 n) refl
      where
        decide : (b : Bool) → ltb 0 n ≡ b → not b ≡ true
        decide false q = refl
        decide true q = let lt = ltb-true 0 n q in absurd (omega (arith, lt, e))

    go : (b : Bool) → l.positive ≡ b → lit_true (valuation t) l ≡ true
    go true e =
        let same : positive_of l.variable ≡ l = λ i. record { variable = l.variable; positive = sym e i } in
        ap (λ b. if b then valuation t l.variable else not (valuation t l.variable)) e ∙ ap (λ (m : Literal). ltb 0 (stamp m)) same ∙ lt-ltb 0 (stamp l) set
    go false e =
        let other : positive_of l.variable ≡ negated l = λ i. record { variable = l.variable; positive = not (sym e i) } in
        ap (λ b. if b then valuation t l.variable else not (valuation t l.variable)) e ∙ none (stamp (positive_of l.variable)) (ap stamp other ∙ unset)

-- at rest, where each variable has a value, a clause has a true literal
pub rest_is_true : (rows : List Row) (level : ℕ) (variables : List ℕ) (c : List Literal) → RestsBy rows level c → AreAmong variables c → AreValued variables rows level → (l : Literal) × (Contains c l × ((IsTrueBy rows level l → ⊥) → ⊥))
rest_is_true rows level variables c r among valued = elim r [
  | inl a ↦ (a.0, (a.1.0, (λ f. f a.1.1)))
  | inr a ↦ (a.0, (a.1.1.0, (λ f. valued a.0 (among a.0 a.1.1.0) (f, a.1.1.1.1.1.0))))
]

bool_settled : (b : Bool) → ((b ≡ true → ⊥) → ⊥) → b ≡ true
bool_settled true f = refl
bool_settled false f = absurd (f (λ e. let z : ⊥ = cc in z))

pub model_holds : (w : Watches) (t : Trail) (rows : List (List (List Literal))) (variables opening taken : List ℕ) (given : List Literal) → IsSettled w t → IsHolding w rows variables opening taken → IsAssumed w t given → AreValued variables (literals_of t) (level_of t) → IsModel rows opening given (valuation t)
model_holds w t rows variables opening taken given settled holding assumed valued = record {
  clauses = λ id c k e.
      let held = holding.complete id c k e in
      let q = rest_is_true (literals_of t) (level_of t) variables c (assumed.rest id c (level_of t) held (omega arith)) (holding.among id c held) valued in
      clause_holds (valuation t) c q.0 q.1.0 (bool_settled (lit_true (valuation t) q.0) (λ f. q.1.1 (λ h. f (valuation_holds w t q.0 settled h))));
  literals = λ l k. valuation_holds w t l settled (assumed.all l k);
}
