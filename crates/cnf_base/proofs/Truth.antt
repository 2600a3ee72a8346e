-- Truth of opposite literals and of clauses one after another.
use Rattle.std.proofs.Common.{◌≡◌, ℕ, Bool, true, false, not, ◌&&◌, if◌then◌else◌, List, [], ◌∷◌, ◌++◌, refl, ap, ◌∙◌, sym}
use Rattle.std.specs.Prelude.{◌↔◌}
use Rattle.std.proofs.Math.Bool.{and_assoc}
use Rattle.std.proofs.lemmas.Bool.{and_from, and_parts}
use Rattle.cnf_base.specs.Literals.{Literal, negated}
use Rattle.cnf_base.specs.Clauses.{lit_true, clause_true, all_true}

negated_cases : (s x : Bool) → (if not s then x else not x) ≡ not (if s then x else not x)
negated_cases true true = refl
negated_cases true false = refl
negated_cases false true = refl
negated_cases false false = refl

pub not_its_opposite : (b : Bool) → b ≡ not b → ⊥
not_its_opposite true e = cc
not_its_opposite false e = cc

pub lit_true-negated : (v : ℕ → Bool) (l : Literal) → lit_true v (negated l) ≡ not (lit_true v l)
lit_true-negated v l = negated_cases l.positive (v l.variable)

pub all_true-append : (v : ℕ → Bool) (xs ys : List (List Literal)) → all_true v (xs ++ ys) ≡ (all_true v xs && all_true v ys)
all_true-append v [] ys = refl
all_true-append v (c ∷ xs) ys = ap (λ b. clause_true v c && b) (all_true-append v xs ys) ∙ sym (and_assoc (clause_true v c) (all_true v xs) (all_true v ys))

pub all_true_parts : (v : ℕ → Bool) (xs ys : List (List Literal)) → (all_true v (xs ++ ys) ≡ true) ↔ ((all_true v xs ≡ true) × (all_true v ys ≡ true))
all_true_parts v xs ys = (
  (λ h. and_parts (all_true v xs) (all_true v ys) (sym (all_true-append v xs ys) ∙ h)),
  (λ h. all_true-append v xs ys ∙ and_from (all_true v xs) (all_true v ys) h.0 h.1),
)
