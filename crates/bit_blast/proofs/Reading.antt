-- A row of literals as a number, read from its highest bit down.
use Rattle.std.proofs.Common.{◌≡◌, ℕ, ◌+◌, ◌-◌, ◌*◌, ◌^◌, ◌<◌, ◌≤◌, Bool, true, false, List, ◌∷◌, length, drop, get_or, Option, Some, refl, ap, ◌∙◌, subst, arith, length-drop}
use Rattle.std.specs.Prelude.{IsSomeAnd}
use Rattle.std.proofs.Math.Nat.{pow-le-pow_right}
use mir.Val.{bool_byte}
use Rattle.cnf_base.specs.Literals.{Literal}
use Rattle.cnf_base.specs.Clauses.{lit_true, bit, number}
use Rattle.cnf_base.proofs.Rows.{drop_at}
use Rattle.cnf_base.proofs.Numbers.{number_lt}
use Rattle.bit_blast.specs.Assigned.{IsLongAsWord}

-- the row that is there is as long as a word can be
pub row_long : (o : Option (List Literal)) (row : List Literal) → o ≡ Some row → IsSomeAnd o IsLongAsWord → IsLongAsWord row
row_long o row e h = subst (λ (p : Option (List Literal)). IsSomeAnd p IsLongAsWord) e h

byte_bit : (b : Bool) → bool_byte b ≡ bit b
byte_bit true = refl
byte_bit false = refl

-- one bit more below those that were read
pub number_next : (v : ℕ → Bool) (row : List Literal) (i value byte : ℕ) (b : Bool) (x : Literal)
    → 0 < i → i ≤ length row → value ≡ number v (drop i row) → x ≡ get_or row (i - 1) x → b ≡ lit_true v x → byte ≡ bool_byte b
    → value * 2 + byte ≡ number v (drop (i - 1) row)
number_next v row i value byte b x some within is at truth bytes =
    let split : drop (i - 1) row ≡ x ∷ drop (i - 1 + 1) row = drop_at row (i - 1) x (omega arith) at in
    let next : i - 1 + 1 ≡ i = omega arith in
    let whole : number v (drop (i - 1) row) ≡ bit (lit_true v x) + 2 * number v (drop i row) =
    ap (number v) split ∙ ap (λ k. bit (lit_true v x) + 2 * number v (drop k row)) next in
    let low : byte ≡ bit (lit_true v x) = bytes ∙ byte_bit b ∙ ap bit truth in
    omega (arith, whole, low, is)

-- what is read of a row that is as long as a word can be is below 2^128
pub number_fits : (v : ℕ → Bool) (row : List Literal) (i : ℕ) → length row ≤ 128 → number v (drop i row) < 2 ^ 128
number_fits v row i short =
    let few : length (drop i row) ≤ 128 = omega (arith, length-drop i row) in
    let most : 2 ^ length (drop i row) ≤ 2 ^ 128 = pow-le-pow_right (omega arith) few in
    omega (arith, number_lt v (drop i row), most)

-- what is read of all but the lowest bit can be doubled
pub number_doubles : (v : ℕ → Bool) (row : List Literal) (i : ℕ) → 0 < i → length row ≤ 128 → number v (drop i row) * 2 < 2 ^ 128
number_doubles v row i some short =
    let few : length (drop i row) ≤ 127 = omega (arith, length-drop i row) in
    let most : 2 ^ length (drop i row) ≤ 2 ^ 127 = pow-le-pow_right (omega arith) few in
    omega (arith, number_lt v (drop i row), most)
