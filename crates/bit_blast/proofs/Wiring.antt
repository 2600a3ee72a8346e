-- Rows of wires, place by place.
use Rattle.std.proofs.Common.{◌≡◌, ℕ, suc, ◌+◌, ◌-◌, ◌/◌, ◌%◌, ◌<◌, List, [], ◌∷◌, ◌++◌, append_assoc, ap, ◌∙◌, sym, arith}
use Rattle.std.specs.Prelude.{◌==◌, if◌then◌else◌, replicate}
use Rattle.cnf_base.specs.Literals.{Literal, true_literal, false_literal}
use Rattle.bit_blast.specs.Circuits.{literal_bits, repeated}

-- one place more was put before the rest
pub pushed_row : {A : Type 0} (old new rest after whole : List A) (x : A) → new ≡ old ++ x ∷ [] → rest ≡ x ∷ after → old ++ rest ≡ whole → new ++ after ≡ whole
pushed_row old new rest after whole x put first all =
    ap (λ t. t ++ after) put ∙ append_assoc old (x ∷ []) after ∙ ap (λ t. old ++ t) (sym first) ∙ all

-- one copy more was put before the rest
pub joined_row : {A : Type 0} (old new rest after whole more : List A) → new ≡ old ++ more → rest ≡ more ++ after → old ++ rest ≡ whole → new ++ after ≡ whole
joined_row old new rest after whole more put first all =
    ap (λ t. t ++ after) put ∙ append_assoc old more after ∙ ap (λ t. old ++ t) (sym first) ∙ all

-- the bits that are left, after one of them
pub literal_bits-rest : (n k x : ℕ) (l : Literal) → k < n → l ≡ (if x % 2 == 1 then true_literal else false_literal) → literal_bits (n - k) x ≡ l ∷ literal_bits (n - (k + 1)) (x / 2)
literal_bits-rest n k x l lt is =
    let e : n - k ≡ suc (n - (k + 1)) = omega arith in
    ap (λ m. literal_bits m x) e ∙ ap (λ b. b ∷ literal_bits (n - (k + 1)) (x / 2)) (sym is)

pub replicate-rest : (n k : ℕ) (l : Literal) → k < n → replicate (n - k) l ≡ l ∷ replicate (n - (k + 1)) l
replicate-rest n k l lt =
    let e : n - k ≡ suc (n - (k + 1)) = omega arith in
    ap (λ m. replicate m l) e

pub repeated-rest : (n k : ℕ) (a : List Literal) → k < n → repeated (n - k) a ≡ a ++ repeated (n - (k + 1)) a
repeated-rest n k a lt =
    let e : n - k ≡ suc (n - (k + 1)) = omega arith in
    ap (λ m. repeated m a) e
