-- Entries in pieces: those that are full never change again, and the last one is open.
use Rattle.std.specs.Prelude.{◌≡◌, ℕ, ◌≤◌, ltb, ◌&&◌, Bool, List, ◌++◌, length, Vec, vec_len, vec_capacity}
use Rattle.std.specs.List.{All, flat_map}
use Rattle.std.specs.Global.{Global}
use Rattle.std.specs.Arc.{arc_value}
use Rattle.std.specs.declared.sync.Arc.{Arc}

-- entries in order, and whether one more can be put without taking memory
pub record Filed (E : Type 0) : Type 0 where
  pub items : List E
  pub room : Bool

module _ {E : Type 0} where
  abbrev pub piece : Arc (Vec E Global) Global → List E
  piece shared = (arc_value shared).items

  abbrev pub joined : List (Arc (Vec E Global) Global) → List E
  joined pieces = flat_map piece pieces

  abbrev pub AreWhole : List (Arc (Vec E Global) Global) → Type 0
  AreWhole pieces = All (λ shared. length (piece shared) ≡ 256) pieces

  abbrev pub filed : Vec (Arc (Vec E Global) Global) Global → Vec E Global → ℕ → Filed E
  filed frozen last count = record { items = joined frozen.items ++ last.items; room = ltb (vec_len last) 256 && ltb (vec_len last) (vec_capacity last) && ltb count 18446744073709551615 }

  abbrev pub IsFiled : Vec (Arc (Vec E Global) Global) Global → Vec E Global → ℕ → Type 0
  IsFiled frozen last count = AreWhole frozen.items × (vec_len last ≤ 256) × (count ≡ length (joined frozen.items ++ last.items))
