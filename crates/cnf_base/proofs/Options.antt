-- What an `Option` holds.
use Rattle.std.proofs.Common.{◌≡◌, Option, Some, None, refl, sym, ap, ◌∙◌, false}
use Rattle.std.specs.Prelude.{IsSome, is_some}
use Rattle.std.proofs.lemmas.Option.{same_Some}

module _ {A : Type 0} where
  pub same_found : (o : Option A) (x y : A) → o ≡ Some x → o ≡ Some y → x ≡ y
  same_found o x y e f = same_Some x y (sym e ∙ f)

  pub IsSome-from : (o : Option A) (x : A) → o ≡ Some x → IsSome o
  IsSome-from o x e = ap is_some e

  pub some_value : (o : Option A) → IsSome o → (x : A) × (o ≡ Some x)
  some_value None h = let f : ⊥ = cc in absurd f
  some_value (Some x) h = (x, refl)

  pub none_from : (o : Option A) → is_some o ≡ false → o ≡ None
  none_from None e = refl
  none_from (Some x) e = let f : ⊥ = cc in absurd f
