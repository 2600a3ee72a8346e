-- The first fault of hints that are no chain.
use Rattle.std.specs.Prelude.{◌≡◌, ◌≢◌, ℕ, suc, ◌⊎◌, List, [], ◌∷◌, ◌++◌, Some, None, map}
use Rattle.cnf_base.specs.Literals.{Literal, negated}
use Rattle.cnf_base.specs.declared.clause.ClauseId.{ClauseId}
use Rattle.hint_chain.specs.declared.fault.ChainFault.{ChainFault}
use Rattle.hint_chain.specs.declared.fault.FaultKind.{FaultKind}
use Rattle.hint_chain.specs.declared.fault.FaultKind.TheVariants.{Missing, Wide, Early, Loose, Empty, Needless}
use Rattle.hint_chain.specs.declared.shape.Shape.{Shape}
use Rattle.hint_chain.specs.declared.shape.Shape.TheVariants.{AllFalse, OneOpen, Many}
use Rattle.hint_chain.specs.Chains.{IsFalseClause, IsUnit, IsWide, HasPair, Lookup}

abbrev pub fault_at : ℕ → FaultKind → ChainFault
fault_at k kind = record { hint = k; kind = kind }

-- the first fault, where the first hint has number k
abbrev pub FaultFrom : Lookup → List Literal → ℕ → List ClauseId → ChainFault → Type 0
FaultFrom look trues k [] f = f ≡ fault_at k Empty
FaultFrom look trues k (i ∷ []) f =
    ((look i ≡ None) × (f ≡ fault_at k Missing))
    ⊎ ((h : List Literal) × (look i ≡ Some h) × (¬ (IsFalseClause trues h)) × (f ≡ fault_at k Loose))
FaultFrom look trues k (i ∷ j ∷ is) f =
    ((look i ≡ None) × (f ≡ fault_at k Missing))
    ⊎ (((h : List Literal) × (look i ≡ Some h) × IsFalseClause trues h × (f ≡ fault_at k Early))
    ⊎ (((h : List Literal) × (look i ≡ Some h) × IsWide trues h × (f ≡ fault_at k Wide))
    ⊎ ((h : List Literal) × (l : Literal) × (look i ≡ Some h) × IsUnit trues h l × FaultFrom look (trues ++ l ∷ []) (suc k) (j ∷ is) f)))

-- the first fault of hints that are no chain for the clause
abbrev pub FirstFault : Lookup → List Literal → List ClauseId → ChainFault → Type 0
FirstFault look clause hints f =
    (HasPair clause × (hints ≢ []) × (f ≡ fault_at 0 Needless))
    ⊎ ((¬ (HasPair clause)) × FaultFrom look (map negated clause) 0 hints f)

-- how a clause stands under the true literals
abbrev pub HasShape : List Literal → List Literal → Shape → Type 0
HasShape trues clause AllFalse = IsFalseClause trues clause
HasShape trues clause (OneOpen l) = IsUnit trues clause l
HasShape trues clause Many = IsWide trues clause

-- a shape, and what one more literal that is not false makes of it
abbrev pub Joins : Shape → Literal → Shape → Type 0
Joins AllFalse l r = r ≡ OneOpen l
Joins (OneOpen m) l r = ((m ≡ l) × (r ≡ OneOpen m)) ⊎ ((m ≢ l) × (r ≡ Many))
Joins Many l r = r ≡ Many
