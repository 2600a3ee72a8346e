-- Lists of arguments that stand at one place in the order have the same values.
use Rattle.std.proofs.Common.{◌≡◌, ℕ, pred, Bool, true, false, List, [], ◌∷◌, refl, ap, ◌∙◌}
use Rattle.std.specs.Prelude.{◌==◌, if◌then◌else◌, map, nat_lt}
use Rattle.std.specs.Ordering.{nat_cmp, ordering_then, is_eq}
use Rattle.std.specs.declared.cmp.Ordering.{Ordering}
use Rattle.std.specs.declared.cmp.Ordering.TheVariants.{Less, Equal, Greater}
use Rattle.std.proofs.lemmas.Bool.{eqb-true}
use Rattle.std.proofs.lemmas.Cmp.{tied_itself}
use Rattle.smt_terms.specs.declared.scalar.Scalar.{Scalar}
use Rattle.smt_terms.specs.declared.scalar.Scalar.TheVariants as scalar
use Rattle.smt_terms.specs.Scalars.{scalar_value}
use Rattle.smt_terms.specs.Values.{VWord}
use Rattle.smt_values.specs.Tables.{rank, number, scalar_cmp, args_cmp}
use Rattle.smt_values.proofs.Rows.{order}

then_eq : (a b : Ordering) → is_eq (ordering_then a b) ≡ true → (is_eq a ≡ true) × (is_eq b ≡ true)
then_eq Less b e = let f : ⊥ = cc in absurd f
then_eq Equal b e = (refl, e)
then_eq Greater b e = let f : ⊥ = cc in absurd f

nat_eq_is : (a b : ℕ) → is_eq (nat_cmp a b) ≡ true → a ≡ b
nat_eq_is a b e = go (nat_lt a b) (a == b) refl e where
  go : (x y : Bool) → (a == b) ≡ y → is_eq (if x then Less else (if y then Equal else Greater)) ≡ true → a ≡ b
  go true y q h = let f : ⊥ = cc in absurd f
  go false true q h = eqb-true a b q
  go false false q h = let f : ⊥ = cc in absurd f

scalar_same : (a b : Scalar) → is_eq (scalar_cmp a b) ≡ true → scalar_value a ≡ scalar_value b
scalar_same a b e =
    let h = then_eq (nat_cmp (rank a) (rank b)) (nat_cmp (number a) (number b)) e in
    go a b (nat_eq_is (rank a) (rank b) h.0) (nat_eq_is (number a) (number b) h.1) where
      go : (a b : Scalar) → rank a ≡ rank b → number a ≡ number b → scalar_value a ≡ scalar_value b
      go (scalar.Bool true) (scalar.Bool true) p q = refl
      go (scalar.Bool true) (scalar.Bool false) p q = let f : ⊥ = cc in absurd f
      go (scalar.Bool false) (scalar.Bool true) p q = let f : ⊥ = cc in absurd f
      go (scalar.Bool false) (scalar.Bool false) p q = refl
      go (scalar.Bool b) (scalar.Word w) p q = let f : ⊥ = cc in absurd f
      go (scalar.Word w) (scalar.Bool b) p q = let f : ⊥ = cc in absurd f
      go (scalar.Word v) (scalar.Word w) p q = ap (λ n. VWord n v.value) (ap pred p) ∙ ap (VWord w.width) q

pub args_same : (xs ys : List Scalar) → is_eq (args_cmp xs ys) ≡ true → map scalar_value xs ≡ map scalar_value ys
args_same [] [] e = refl
args_same [] (y ∷ ys) e = let f : ⊥ = cc in absurd f
args_same (x ∷ xs) [] e = let f : ⊥ = cc in absurd f
args_same (x ∷ xs) (y ∷ ys) e =
    let h = then_eq (scalar_cmp x y) (args_cmp xs ys) e in
    rw (scalar_same x y h.0, args_same xs ys h.1) refl

pub args_itself : (xs : List Scalar) → is_eq (args_cmp xs xs) ≡ true
args_itself xs = ap is_eq (tied_itself order xs)
