-- What is learnt from a conflict: a clause with a chain of hints.
use Rattle.std.specs.Prelude.{ℕ, ◌≡◌, ◌≢◌, ◌<◌, List, [], ◌∷◌, ◌++◌, Some, None, IsSome, Contains, map, length}
use Rattle.cnf_base.specs.Literals.{Literal, negated}
use Rattle.cnf_base.specs.declared.clause.ClauseId.{ClauseId}
use Rattle.hint_chain.specs.Chains.{Lookup, HasPair, IsFalseClause, IsUnit}
use Rattle.cdcl_core.specs.declared.trail.Trail.{Trail}
use Rattle.cdcl_core.specs.declared.watches.Watches.{Watches}
use Rattle.cdcl_core.specs.Levels.{Row, IsTrueBy, IsFalseBy, RestsBy, IsOpen}
use Rattle.cdcl_core.specs.Search.{literals_of, level_of, IsConflict}
use Rattle.cdcl_learn.specs.declared.last.Clash.{Clash}
use Rattle.cdcl_learn.specs.declared.last.Clash.TheVariants.{Held, Given}
use Rattle.cdcl_learn.specs.Rows.{literal_at, reason_at}

-- a hint has the literal
abbrev pub StandsIn : Lookup → List ClauseId → Literal → Type 0
StandsIn look hints l = (id : ClauseId) × ((h : List Literal) × (Contains hints id × ((look id ≡ Some h) × Contains h l)))

-- from these true literals the hints are a chain, and the literal that a hint before the last adds stands negated in a later hint
abbrev pub UsesEach : Lookup → List Literal → List ClauseId → Type 0
UsesEach look trues [] = ⊥
UsesEach look trues (i ∷ []) = (h : List Literal) × ((look i ≡ Some h) × IsFalseClause trues h)
UsesEach look trues (i ∷ j ∷ is) =
    (h : List Literal) × ((l : Literal) × ((look i ≡ Some h) × (IsUnit trues h l × (StandsIn look (j ∷ is) (negated l) × UsesEach look (trues ++ l ∷ []) (j ∷ is)))))

-- a clause with its hints, which are kept, that is not held yet, and that says more than the held ones in any order
pub record IsGoodPut (look held : Lookup) (rows : List Row) (level : ℕ) (clause : List Literal) (hints : List ClauseId) : Type 0 where
  pub no_pair : HasPair clause → ⊥
  pub kept : (id : ClauseId) → Contains hints id → IsSome (look id)
  pub stands : (l : Literal) → Contains clause l → StandsIn look hints l
  pub uses : UsesEach look (map negated clause) hints
  pub is_new : (id : ClauseId) (c : List Literal) → held id ≡ Some c → ((l : Literal) → Contains c l → Contains clause l) → ⊥
  pub not_true : (l : Literal) → Contains clause l → IsTrueBy rows level l → ⊥

-- at the end of this level the clause is unit, with this literal open, and of no lower level is it unit or false
pub record IsUnitAfter (rows : List Row) (level : ℕ) (clause : List Literal) : Type 0 where
  pub literal : Literal
  pub among : Contains clause literal
  pub open_yet : IsOpen rows level literal
  pub others : (m : Literal) → Contains clause m → m ≢ literal → IsFalseBy rows level m
  pub rests : (j : ℕ) → j < level → RestsBy rows j clause

-- a held clause that is false, or a given literal that is false
abbrev pub IsClash : Watches → Trail → Clash → Type 0
IsClash w t (Held id) = IsConflict w t id
IsClash w t (Given l) = IsFalseBy (literals_of t) (level_of t) l

-- each decided literal is given, and so is the literal of the clash
abbrev pub DecidesOnly : List Literal → List Row → Type 0
DecidesOnly given rows = (i : ℕ) → i < length rows → reason_at rows i ≡ None → Contains given (literal_at rows i)

abbrev pub AreGiven : List Literal → List Row → Clash → Type 0
AreGiven given rows (Held id) = DecidesOnly given rows
AreGiven given rows (Given l) = DecidesOnly given rows × Contains given l

-- each literal is the opposite of a given one
abbrev pub IsAgainst : List Literal → List Literal → Type 0
IsAgainst given clause = (l : Literal) → Contains clause l → Contains given (negated l)
