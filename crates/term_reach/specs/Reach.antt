-- Which terms some terms reach: `next` tells the terms to which a term leads.
use Rattle.std.specs.Prelude.{◌≡◌, ◌<◌, ℕ, List, [], ◌∷◌, Contains, Some, slice_get}
use Rattle.smt_terms.specs.declared.node.Node.{Node}
use Rattle.smt_terms.specs.Nodes.{node_at}

-- a term leads to its arguments
abbrev pub arguments : List Node → ℕ → List ℕ
arguments nodes t = (node_at nodes t).args

-- a way from a term to another, by these terms, the last of which is the other
abbrev pub IsWay : (ℕ → List ℕ) → ℕ → List ℕ → ℕ → Type 0
IsWay next t [] u = t ≡ u
IsWay next t (s ∷ way) u = Contains (next t) s × IsWay next s way u

-- a term reaches itself, and what the terms reach to which it leads
abbrev pub Reaches : (ℕ → List ℕ) → ℕ → ℕ → Type 0
Reaches next t u = (way : List ℕ) × IsWay next t way u

-- one of these terms reaches the term
abbrev pub IsReached : (ℕ → List ℕ) → List ℕ → ℕ → Type 0
IsReached next roots u = (t : ℕ) × Contains roots t × Reaches next t u

-- with a term are all to which it leads
abbrev pub IsClosed : (ℕ → List ℕ) → (ℕ → Type 0) → Type 0
IsClosed next Is = (t u : ℕ) → Is t → Contains (next t) u → Is u

-- each term stands once
abbrev pub IsOnce : List ℕ → Type 0
IsOnce terms = (j k t : ℕ) → slice_get terms j ≡ Some t → slice_get terms k ≡ Some t → j ≡ k

-- each term stands behind all to which it leads
abbrev pub InReachOrder : (ℕ → List ℕ) → List ℕ → Type 0
InReachOrder next terms = (k t u : ℕ) → slice_get terms k ≡ Some t → Contains (next t) u → (j : ℕ) × (j < k) × (slice_get terms j ≡ Some u)

-- exactly the terms that these reach, each once, behind all to which it leads
pub record IsReach (next : ℕ → List ℕ) (roots terms : List ℕ) : Type 0 where
  pub only : (t : ℕ) → Contains terms t → IsReached next roots t
  pub all : (t : ℕ) → IsReached next roots t → Contains terms t
  pub once : IsOnce terms
  pub order : InReachOrder next terms

-- ---- no way leads back

-- a number of each term that is greater than those of the terms to which it leads
abbrev pub IsRank : (ℕ → List ℕ) → (ℕ → ℕ) → Type 0
IsRank next rank = (t u : ℕ) → Contains (next t) u → rank u < rank t

abbrev pub IsAcyclic : (ℕ → List ℕ) → Type 0
IsAcyclic next = (rank : ℕ → ℕ) × IsRank next rank

-- terms lead to terms below the number alone
abbrev pub LeadsBelow : ℕ → (ℕ → List ℕ) → Type 0
LeadsBelow count next = (t u : ℕ) → Contains (next t) u → u < count
