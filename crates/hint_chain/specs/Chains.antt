-- Chains of hints, by which a clause follows from others by reverse unit propagation
-- (L. Cruz-Filipe, M. Heule, W. Hunt, M. Kaufmann, P. Schneider-Kamp, "Efficient certified RAT verification", 2017).
use Rattle.std.specs.Prelude.{◌≡◌, ◌≢◌, ℕ, ◌⊎◌, List, [], ◌∷◌, ◌++◌, Option, Some, All, Contains, map, Bool, true}
use Rattle.cnf_base.specs.Literals.{Literal, negated}
use Rattle.cnf_base.specs.Clauses.{clause_true}
use Rattle.cnf_base.specs.declared.clause.ClauseId.{ClauseId}

-- where the literals of a list are true, its opposite is false
abbrev pub IsFalse : List Literal → Literal → Type 0
IsFalse trues l = Contains trues (negated l)

-- each literal is false
abbrev pub IsFalseClause : List Literal → List Literal → Type 0
IsFalseClause trues clause = All (IsFalse trues) clause

-- each literal is false but this one, which may stand at several places
pub record IsUnit (trues clause : List Literal) (l : Literal) : Type 0 where
  pub among : Contains clause l
  pub open_yet : ¬ (IsFalse trues l)
  pub others : All (λ k. (k ≡ l) ⊎ IsFalse trues k) clause

-- two different literals are not false
pub record IsWide (trues clause : List Literal) : Type 0 where
  pub first : Literal
  pub second : Literal
  pub has_first : Contains clause first
  pub has_second : Contains clause second
  pub differ : first ≢ second
  pub first_open : ¬ (IsFalse trues first)
  pub second_open : ¬ (IsFalse trues second)

-- a literal stands beside its opposite
abbrev pub HasPair : List Literal → Type 0
HasPair clause = (l : Literal) × Contains clause l × Contains clause (negated l)

-- which clause a name stands for, if any
abbrev pub Lookup : Type 0
Lookup = ClauseId → Option (List Literal)

-- from these true literals, each hint adds a literal, and the last is false
abbrev pub ChainFrom : Lookup → List Literal → List ClauseId → Type 0
ChainFrom look trues [] = ⊥
ChainFrom look trues (i ∷ []) = (h : List Literal) × (look i ≡ Some h) × IsFalseClause trues h
ChainFrom look trues (i ∷ j ∷ is) =
    (h : List Literal) × (l : Literal) × (look i ≡ Some h) × IsUnit trues h l × ChainFrom look (trues ++ l ∷ []) (j ∷ is)

-- the hints are a chain for the clause: from its negation they lead to a clause that is false;
-- a clause with a literal beside its opposite is always true, and has no hint
abbrev pub IsChain : Lookup → List Literal → List ClauseId → Type 0
IsChain look clause hints =
    (HasPair clause × (hints ≡ [])) ⊎ ((¬ (HasPair clause)) × ChainFrom look (map negated clause) hints)

-- the clause is true wherever the clauses are that the hints name
abbrev pub Follows : Lookup → List Literal → List ClauseId → Type 0
Follows look clause hints =
    (v : ℕ → Bool)
    → ((i : ClauseId) (h : List Literal) → Contains hints i → look i ≡ Some h → clause_true v h ≡ true)
    → clause_true v clause ≡ true

-- what the first look-up finds, the second finds
abbrev pub FindsMore : Lookup → Lookup → Type 0
FindsMore look more = (i : ClauseId) (h : List Literal) → look i ≡ Some h → more i ≡ Some h
