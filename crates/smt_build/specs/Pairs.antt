-- Names with their terms, and where the innermost of each stands.
use Rattle.std.specs.Prelude.{◌≡◌, ℕ, Bool, List, [], ◌∷◌, ◌++◌, map, Option, Some, None, if◌then◌else◌, suc}
use Rattle.std.specs.Borrow.{Bor}
use Rattle.std.specs.Option.{option_map}
use Rattle.std.specs.Map.{lookup}
use Rattle.std.specs.Str.{bytes_eq}
use Rattle.smt_build.specs.declared.scope.Variable.{Variable}

-- names with their terms, the innermost last
abbrev pub Bound : Type 0
Bound = List (List ℕ × ℕ)

abbrev pub innermost : Option ℕ → Bool → ℕ → Option ℕ
innermost (Some t) here u = Some t
innermost None here u = if here then Some u else None

-- the innermost term of a name
abbrev pub bound_at : Bound → List ℕ → Option ℕ
bound_at [] x = None
bound_at (b ∷ bs) x = innermost (bound_at bs x) (bytes_eq x b.0) b.1

-- ---- how they are stored

abbrev pub pair_of : Variable → List ℕ × ℕ
pair_of v = (v.name.now, v.term)

-- the place of the innermost
abbrev pub place_of : Bound → List ℕ → Option ℕ
place_of [] x = None
place_of (b ∷ bs) x = innermost (option_map suc (place_of bs x)) (bytes_eq x b.0) 0

-- each variable, behind these, knows the place of its name before it
abbrev pub AreHidden : Bound → List Variable → Type 0
AreHidden before [] = Unit {0}
AreHidden before (v ∷ vs) = (v.hidden ≡ place_of before v.name.now) × AreHidden (before ++ pair_of v ∷ []) vs

-- a map from the names to the places of the innermost
pub record ArePlaces (list : List Variable) (places : List (Bor (List ℕ) × ℕ)) : Type 0 where
  pub latest : (x : Bor (List ℕ)) → lookup (λ k. bytes_eq x.now k.now) places ≡ place_of (map pair_of list) x.now
  pub hidden : AreHidden [] list
