-- Literals and their codes.
use Rattle.std.proofs.Common.{◌≡◌, ℕ, ◌+◌, ◌*◌, ◌/◌, ◌%◌, ◌<◌, ◌≤◌, Bool, true, false, ◌==◌, if◌then◌else◌, ◌≢◌, ◌⊎◌, List, refl, ap, ◌∙◌, sym, inl, inr, ⊎_elim, arith}
use Rattle.std.proofs.Math.Bool.{not-not}
use Rattle.std.proofs.lemmas.Bool.{cases_eq}
use Rattle.std.specs.Bool.{Decides}
use Rattle.std.specs.Ordering.{on}
use Rattle.std.specs.Cmp.{unsigned_Decides}
use Rattle.std.specs.Cmp.Lexicographic.{pointwise}
use Rattle.std.proofs.lemmas.Slice.Eq.{slice_eq-Decides}
use Rattle.cnf_base.specs.Literals.{Literal, code_of, literal_of, negated}

pub literal_from_parts : (k l : Literal) → k.variable ≡ l.variable → k.positive ≡ l.positive → k ≡ l
literal_from_parts k l p q = λ i. record { variable = p i; positive = q i }

-- the opposite of the opposite
pub negated-negated : (l : Literal) → negated (negated l) ≡ l
negated-negated l = literal_from_parts (negated (negated l)) l refl (not-not l.positive)

sign_bound : (x : ℕ) (p : Bool) → (2 * x ≤ 2 * x + (if p then 0 else 1)) × (2 * x + (if p then 0 else 1) ≤ 2 * x + 1)
sign_bound x true = (omega arith, omega arith)
sign_bound x false = (omega arith, omega arith)

-- the two codes of a variable
pub code_of-bounds : (l : Literal) → (2 * l.variable ≤ code_of l) × (code_of l ≤ 2 * l.variable + 1)
code_of-bounds l = sign_bound l.variable l.positive

half : (x : ℕ) (p : Bool) → (2 * x + (if p then 0 else 1)) / 2 ≡ x
half x true = omega arith
half x false = omega arith

sign : (x : ℕ) (p : Bool) → ((2 * x + (if p then 0 else 1)) % 2 == 0) ≡ p
sign x true = grind arith
sign x false = grind arith

pub literal_of-code_of : (l : Literal) → literal_of (code_of l) ≡ l
literal_of-code_of l = literal_from_parts (literal_of (code_of l)) l (half l.variable l.positive) (sign l.variable l.positive)

-- different literals have different codes
pub code_of-injective : (l m : Literal) → code_of l ≡ code_of m → l ≡ m
code_of-injective l m e = sym (literal_of-code_of l) ∙ ap literal_of e ∙ literal_of-code_of m

pub same_literal_or_not : (k l : Literal) → (k ≡ l) ⊎ (k ≢ l)
same_literal_or_not k l =
    ⊎_elim (λ e. inl (code_of-injective k l e)) (λ ne. inr (λ e. ne (ap code_of e))) (cases_eq (code_of k) (code_of l))

pub code_of-literal_of : (code : ℕ) → code_of (literal_of code) ≡ code
code_of-literal_of code = grind arith

-- a table by literal for the variables below n has 2 * n rows
pub code_of-below : (l : Literal) (n : ℕ) → l.variable < n → code_of l < 2 * n
code_of-below l n h = omega (arith, (code_of-bounds l).1)

pub below-code_of : (l : Literal) (n : ℕ) → code_of l < 2 * n → l.variable < n
below-code_of l n h = omega (arith, (code_of-bounds l).0)

-- what `==` says of two literals, and of two clauses
pub literals_Decides : (l m : Literal) → Decides (on code_of (◌==◌) l m) (l ≡ m)
literals_Decides l m =
    let codes = unsigned_Decides (code_of l) (code_of m) in
    ((λ h. code_of-injective l m (codes.0 h)), (λ e. codes.1 (ap code_of e)))

pub clauses_Decides : (c d : List Literal) → Decides (pointwise (on code_of (◌==◌)) c d) (c ≡ d)
clauses_Decides c d = slice_eq-Decides literals_Decides c d (pointwise (on code_of (◌==◌)) c d) refl
