-- Unsatisfiable cores (SMT-LIB 2.6, section 4.2.7): the named assertions on which a refutation rests.
use Rattle.std.specs.Prelude.{ℕ, Bool, ◌&&◌, ◌==◌, is_some, List, map, filter}
use Rattle.std.specs.List.{list_any}
use Rattle.cnf_base.specs.Literals.{Literal, negated, code_of}
use Rattle.scope_selectors.specs.declared.live.Live.{Live}
use Rattle.scope_selectors.specs.Scopes.{ScopesValue}

-- the literal stands in the clause; literals are equal exactly where their codes are
abbrev pub stands : List Literal → Literal → Bool
stands clause l = list_any (λ k. code_of k == code_of l) clause

-- the test holds of the negated selector of the assertion
abbrev pub is_blamed : (Literal → Bool) → List (ℕ × Literal) → ℕ → Bool
is_blamed test selectors a = list_any (λ s. (s.0 == a) && test (negated s.1)) selectors

-- the numbers of the named ones among those of which the test holds
abbrev pub core_among : (ℕ → Bool) → List Live → List ℕ
core_among test live = map (λ (a : Live). a.assertion) (filter (λ (a : Live). is_some a.name && test a.assertion) live)

-- the live named assertions whose negated selectors stand in the clause, in order
abbrev pub core_of : ScopesValue → List Literal → List (ℕ × Literal) → List ℕ
core_of v clause selectors = core_among (is_blamed (stands clause) selectors) v.live
