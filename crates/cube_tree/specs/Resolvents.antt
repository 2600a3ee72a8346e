-- What follows from two clauses, one of which has a literal and the other its opposite
-- (J. A. Robinson, "A machine-oriented logic based on the resolution principle", 1965), and the hints that show it.
use Rattle.std.specs.Prelude.{◌≡◌, ◌≢◌, ◌⊎◌, List, [], ◌∷◌, All, Contains}
use Rattle.cnf_base.specs.Literals.{Literal, negated}
use Rattle.cnf_base.specs.declared.clause.ClauseId.{ClauseId}
use Rattle.hint_chain.specs.Chains.{HasPair}

-- the clause has every literal of the first but l, every literal of the second but its opposite, and no other
pub record IsResolvent (first second clause : List Literal) (l : Literal) : Type 0 where
  pub of_first : All (λ k. (k ≡ l) ⊎ Contains clause k) first
  pub of_second : All (λ k. (k ≡ negated l) ⊎ Contains clause k) second
  pub only : (k : Literal) → Contains clause k → (Contains first k × (k ≢ l)) ⊎ (Contains second k × (k ≢ negated l))

-- No hint for a clause with a literal and its opposite; the first clause alone where the clause has l itself, since the
-- first is false at once; else both.
abbrev pub AreHintsOf : List Literal → Literal → ClauseId → ClauseId → List ClauseId → Type 0
AreHintsOf clause l a b hints =
    (HasPair clause × (hints ≡ []))
    ⊎ ((¬ (HasPair clause)) × ((Contains clause l × (hints ≡ a ∷ [])) ⊎ ((¬ (Contains clause l)) × (hints ≡ a ∷ b ∷ []))))
