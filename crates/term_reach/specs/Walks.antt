-- A walk on its way: the terms between a root and the one that is looked at, and those that are done.
use Rattle.std.specs.Prelude.{◌≡◌, ◌⊎◌, ◌<◌, ◌*◌, ◌-◌, ℕ, List, length, Contains, AllPairs, Option, Some, None, slice_get}
use Rattle.term_reach.specs.declared.walk.Frame.{Frame}
use Rattle.term_reach.specs.Reach.{IsReached, IsOnce, InReachOrder, IsRank}

-- the terms before the place to which the term leads are done
abbrev pub AreDone : (ℕ → List ℕ) → List ℕ → ℕ → ℕ → Type 0
AreDone next reached t place = (j u : ℕ) → j < place → slice_get (next t) j ≡ Some u → Contains reached u

-- the first term to which the term leads that is not done, with its place; else all are
abbrev pub IsOpen : (ℕ → List ℕ) → List ℕ → ℕ → Option Frame → Type 0
IsOpen next reached t None = (u : ℕ) → Contains (next t) u → Contains reached u
IsOpen next reached t (Some f) = (slice_get (next t) f.place ≡ Some f.term) × (Contains reached f.term → ⊥) × AreDone next reached t f.place

-- terms that are reached are done
pub record IsPart (count : ℕ) (next : ℕ → List ℕ) (roots reached : List ℕ) : Type 0 where
  pub below : (t : ℕ) → Contains reached t → t < count
  pub found : (t : ℕ) → Contains reached t → IsReached next roots t
  pub once : IsOnce reached
  pub order : InReachOrder next reached

-- of a term on the way the terms before its place are done
pub record IsFrame (count : ℕ) (next : ℕ → List ℕ) (roots reached : List ℕ) (f : Frame) : Type 0 where
  pub below : f.term < count
  pub found : IsReached next roots f.term
  pub apart : Contains reached f.term → ⊥
  pub done : AreDone next reached f.term f.place

abbrev pub Falls : (ℕ → ℕ) → List Frame → Type 0
Falls rank path = AllPairs (λ (f g : Frame). rank g.term < rank f.term) path

pub record IsWalking (count : ℕ) (next : ℕ → List ℕ) (roots : List ℕ) (path : List Frame) (reached : List ℕ) : Type 0 where
  pub part : IsPart count next roots reached
  pub frames : (f : Frame) → Contains path f → IsFrame count next roots reached f
  pub falls : (rank : ℕ → ℕ) → IsRank next rank → Falls rank path

-- the term is done, or on the way
abbrev pub IsSeen : List Frame → List ℕ → ℕ → Type 0
IsSeen path reached t = Contains reached t ⊎ ((f : Frame) × Contains path f × (f.term ≡ t))

-- what is left to do
abbrev pub left : ℕ → List Frame → List ℕ → ℕ
left count path reached = 2 * (count - length reached) - length path
