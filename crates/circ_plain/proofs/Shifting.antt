-- The shifters' bits are those of the shifted numbers.
use Rattle.std.proofs.Common.{◌≡◌, ℕ, suc, ◌+◌, ◌-◌, ◌*◌, ◌/◌, ◌%◌, ◌^◌, ◌<◌, ◌≤◌, Bool, true, false, not, ◌&&◌, List, [], ◌∷◌, ◌++◌, length, length-append, length-take, length-drop, min, take, drop, inl, inr, refl, sym, ap, ◌∙◌, subst, arith}
use Rattle.std.specs.Prelude.{◌⊎◌, if◌then◌else◌, nat_lt, replicate}
use Rattle.std.proofs.lemmas.Bool.{lt-ltb, le-ltb, cases_lt}
use Rattle.std.proofs.lemmas.Bool.Decides.{nat_tests}
use Rattle.std.proofs.lemmas.Nat.{pow_pos, shr-shr, mul-mod_first, le-div}
use Rattle.std.proofs.Math.Pow.{pow-add}
use Rattle.std.proofs.Math.Nat.{pow-suc, mod-eq_of_lt, div-eq_of_lt, div-one, mul-le-mul_left}
use Rattle.cnf_base.specs.Literals.{Literal, negative_of, negated, false_literal}
use Rattle.cnf_base.specs.declared.gate.GateKind.{GateKind}
use Rattle.cnf_base.specs.Clauses.{lit_true, number, bit}
use Rattle.cnf_base.specs.Gates.{HaveMeaning}
use Rattle.cnf_base.specs.Assignments.{fresh_bits}
use Rattle.cnf_base.specs.Choices.{mux_gates}
use Rattle.cnf_base.proofs.Truth.{lit_true-negated}
use Rattle.smt_words.specs.Words.{not_of, shl_of, lshr_of, ashr_of}
use Rattle.smt_words.proofs.Numbers.{shl_past, shr_past}
use Rattle.std.proofs.lemmas.List.{length-replicate}
use Rattle.cnf_base.proofs.Numbers.{number_lt, number-append, number-take, number-drop}
use Rattle.cnf_base.proofs.Rows.{length-fresh_bits}
use Rattle.cnf_base.proofs.Choosing.{length-mux_gates}
use Rattle.circ_plain.specs.declared.moves.Direction.{Direction}
use Rattle.circ_plain.specs.declared.moves.Direction.TheVariants.{Up, Down}
use Rattle.circ_plain.specs.Signs.{sign_of}
use Rattle.circ_plain.specs.Shifts.{stages, AreNear, moved, stage_gates, stage_bits, any_gates, any_bit, mask_gates, move_gates, move_bits, over_bit, logical_gates, logical_bits, shl_gates, shl_bits, lshr_gates, lshr_bits, ashr_gates, ashr_bits}
use Rattle.circ_plain.proofs.Negating.{sign_is}
use Rattle.circ_plain.proofs.Powers.{stages_reach, stages_least, moved_up, moved_down}
use Rattle.circ_plain.proofs.Bits.{meaning_front, meaning_back, false_is_false, number-replicate_false, number-replicate_true, choice_number}
use Rattle.std.proofs.Math.Bool.{and-true, and-false}

-- ---- one move

pub length-moved : (way : Direction) (fill : Literal) (d : ℕ) (r : List Literal) → d ≤ length r → length (moved way fill d r) ≡ length r
length-moved Up fill d r h =
    length-append (replicate d fill) (take (length r - d) r)
    ∙ omega (arith, length-replicate d fill, length-take (length r - d) r)
length-moved Down fill d r h =
    length-append (drop d r) (replicate d fill)
    ∙ omega (arith, length-replicate d fill, length-drop d r)

number-moved_up : (v : ℕ → Bool) (fill : Literal) (d : ℕ) (r : List Literal) → lit_true v fill ≡ false → d ≤ length r → number v (moved Up fill d r) ≡ number v r * 2 ^ d % 2 ^ length r
number-moved_up v fill d r e h =
    number-append v (replicate d fill) (take (length r - d) r)
    ∙ rw (number-replicate_false v d fill e, length-replicate d fill, number-take v (length r - d) r) (omega (arith, moved_up (number v r) (length r) d h))

-- a number, or where the test holds its complement at a width
abbrev turned : Bool → ℕ → ℕ → ℕ
turned b n x = if b then 2 ^ n - 1 - x else x

number-moved_down : (v : ℕ → Bool) (fill : Literal) (d : ℕ) (r : List Literal) (f : Bool) → lit_true v fill ≡ f → d ≤ length r → turned f (length r) (number v (moved Down fill d r)) ≡ turned f (length r) (number v r) / 2 ^ d
number-moved_down v fill d r false e h =
    number-append v (drop d r) (replicate d fill)
    ∙ rw (number-replicate_false v d fill e, number-drop v d r) (omega arith)
number-moved_down v fill d r true e h =
    ap (λ k. 2 ^ length r - 1 - k) (number-append v (drop d r) (replicate d fill))
    ∙ rw (number-replicate_true v d fill e, number-drop v d r, length-drop d r) (moved_down (number v r) (length r) d h (number_lt v r))

-- ---- all stages

pub AreNear-next : (n j : ℕ) (t : Literal) (ts : List Literal) → AreNear n j (t ∷ ts) → AreNear n (suc j) ts
AreNear-next n j t ts h = λ i lt. h i (omega arith)

-- a stage moves by its bit of the amount
one_stage : (v : ℕ → Bool) (g : ℕ) (t : Literal) (x r : List Literal) (f : ℕ → ℕ) (k : ℕ) → length x ≡ length r → HaveMeaning v g (mux_gates t x r) → f 0 ≡ number v r → f k ≡ number v x → number v (fresh_bits g (length r)) ≡ f (k * bit (lit_true v t))
one_stage v g t x r f k e h none all = choice_number v g t x r e h ∙ go (lit_true v t)
  where
    go : (b : Bool) → (if b then number v x else number v r) ≡ f (k * bit b)
    go true = let one : k ≡ k * 1 = omega arith in sym all ∙ ap f one
    go false = let one : 0 ≡ k * 0 = omega arith in sym none ∙ ap f one

two_moves : (x a b n : ℕ) → x * 2 ^ a % 2 ^ n * 2 ^ b % 2 ^ n ≡ x * 2 ^ (a + b) % 2 ^ n
two_moves x a b n = mul-mod_first (x * 2 ^ a) (2 ^ b) (2 ^ n) ∙ ap (λ k. k % 2 ^ n) (rw (pow-add 2 a b) (omega arith))

-- the amount of the bits from place j on
amount : (j b t : ℕ) → 2 ^ j * b + 2 ^ suc j * t ≡ 2 ^ j * (b + 2 * t)
amount j b t = rw (pow-suc 2 j) (omega arith)

-- a row that is moved down or stays
chosen : (b : Bool) (f : ℕ → ℕ) (x r k : ℕ) → f x ≡ f r / 2 ^ k → f (if b then x else r) ≡ f r / 2 ^ (k * bit b)
chosen true f x r k e = let one : k ≡ k * 1 = omega arith in e ∙ ap (λ d. f r / 2 ^ d) one
chosen false f x r k e = let one : 0 ≡ k * 0 = omega arith in sym (div-one (f r)) ∙ ap (λ d. f r / 2 ^ d) one

pub stages_up : (v : ℕ → Bool) (g : ℕ) (fill : Literal) (j : ℕ) (r ts : List Literal) → lit_true v fill ≡ false → AreNear (length r) j ts → HaveMeaning v g (stage_gates Up fill g j r ts) → number v (stage_bits g r ts) ≡ number v r * 2 ^ (2 ^ j * number v ts) % 2 ^ length r
stages_up v g fill j r [] e near h =
    let none : 2 ^ j * 0 ≡ 0 = omega arith in
    let one : number v r * 1 ≡ number v r = omega arith in
    sym (ap (λ k. number v r * 2 ^ k % 2 ^ length r) none ∙ ap (λ k. k % 2 ^ length r) one ∙ mod-eq_of_lt (number_lt v r))
stages_up v g fill j r (t ∷ ts) e near h =
    let n = length r in
    let x = moved Up fill (2 ^ j) r in
    let d : 2 ^ j ≤ n = omega (arith, near j (omega arith)) in
    let lx : length x ≡ n = length-moved Up fill (2 ^ j) r d in
    let front = meaning_front v g (mux_gates t x r) _ h in
    let back = subst (λ k. HaveMeaning v (g + k) (stage_gates Up fill (g + n) (suc j) (fresh_bits g n) ts)) (length-mux_gates t x r lx ∙ lx) (meaning_back v g (mux_gates t x r) _ h) in
    let lf = length-fresh_bits n g in
    let rest = stages_up v (g + n) fill (suc j) (fresh_bits g n) ts e (subst (λ k. AreNear k (suc j) ts) (sym lf) (AreNear-next n j t ts near)) back in
    let none : number v r * 1 % 2 ^ n ≡ number v r = ap (λ k. k % 2 ^ n) (let o : number v r * 1 ≡ number v r = omega arith in o) ∙ mod-eq_of_lt (number_lt v r) in
    let first = one_stage v g t x r (λ k. number v r * 2 ^ k % 2 ^ n) (2 ^ j) lx front none (sym (number-moved_up v fill (2 ^ j) r e d)) in
    rest
    ∙ rw (lf, first) (two_moves (number v r) (2 ^ j * bit (lit_true v t)) (2 ^ suc j * number v ts) n)
    ∙ ap (λ k. number v r * 2 ^ k % 2 ^ n) (amount j (bit (lit_true v t)) (number v ts))

pub stages_down : (v : ℕ → Bool) (g : ℕ) (fill : Literal) (j : ℕ) (r ts : List Literal) (f : Bool) → lit_true v fill ≡ f → AreNear (length r) j ts → HaveMeaning v g (stage_gates Down fill g j r ts) → turned f (length r) (number v (stage_bits g r ts)) ≡ turned f (length r) (number v r) / 2 ^ (2 ^ j * number v ts)
stages_down v g fill j r [] f e near h =
    let none : 2 ^ j * 0 ≡ 0 = omega arith in
    sym (ap (λ k. turned f (length r) (number v r) / 2 ^ k) none ∙ div-one (turned f (length r) (number v r)))
stages_down v g fill j r (t ∷ ts) f e near h =
    let n = length r in
    let x = moved Down fill (2 ^ j) r in
    let d : 2 ^ j ≤ n = omega (arith, near j (omega arith)) in
    let lx : length x ≡ n = length-moved Down fill (2 ^ j) r d in
    let front = meaning_front v g (mux_gates t x r) _ h in
    let back = subst (λ k. HaveMeaning v (g + k) (stage_gates Down fill (g + n) (suc j) (fresh_bits g n) ts)) (length-mux_gates t x r lx ∙ lx) (meaning_back v g (mux_gates t x r) _ h) in
    let lf = length-fresh_bits n g in
    let rest : turned f n (number v (stage_bits (g + n) (fresh_bits g n) ts)) ≡ turned f n (number v (fresh_bits g n)) / 2 ^ (2 ^ suc j * number v ts) = subst (λ k. turned f k (number v (stage_bits (g + n) (fresh_bits g n) ts)) ≡ turned f k (number v (fresh_bits g n)) / 2 ^ (2 ^ suc j * number v ts)) lf (stages_down v (g + n) fill (suc j) (fresh_bits g n) ts f e (subst (λ k. AreNear k (suc j) ts) (sym lf) (AreNear-next n j t ts near)) back) in
    let first : turned f n (number v (fresh_bits g n)) ≡ turned f n (number v r) / 2 ^ (2 ^ j * bit (lit_true v t)) = ap (turned f n) (choice_number v g t x r lx front) ∙ chosen (lit_true v t) (turned f n) (number v x) (number v r) (2 ^ j) (number-moved_down v fill (2 ^ j) r f e d) in
    rest
    ∙ ap (λ k. k / 2 ^ (2 ^ suc j * number v ts)) first
    ∙ shr-shr (turned f n (number v r)) (2 ^ j * bit (lit_true v t)) (2 ^ suc j * number v ts)
    ∙ ap (λ k. turned f n (number v r) / 2 ^ k) (amount j (bit (lit_true v t)) (number v ts))

-- ---- the bits above all stages

either : (o t : Bool) (n : ℕ) → nat_lt 0 (bit (not (not o && not t)) + n) ≡ nat_lt 0 (bit o + (bit t + 2 * n))
either true true n = grind (arith, nat_tests)
either true false n = grind (arith, nat_tests)
either false true n = grind (arith, nat_tests)
either false false n = grind (arith, nat_tests)

pub any_is : (v : ℕ → Bool) (g : ℕ) (o : Literal) (ts : List Literal) → HaveMeaning v g (any_gates g o ts) → lit_true v (any_bit g o ts) ≡ nat_lt 0 (bit (lit_true v o) + number v ts)
any_is v g o [] h = last (lit_true v o)
  where
    last : (b : Bool) → b ≡ nat_lt 0 (bit b + 0)
    last true = refl
    last false = refl
any_is v g o (t ∷ ts) h =
    let here : v g ≡ (not (lit_true v o) && not (lit_true v t)) = h.0 ∙ ap (λ b. b && lit_true v (negated t)) (lit_true-negated v o) ∙ ap (λ b. not (lit_true v o) && b) (lit_true-negated v t) in
    any_is v (suc g) (negative_of g) ts h.1
    ∙ ap (λ b. nat_lt 0 (bit (not b) + number v ts)) here
    ∙ either (lit_true v o) (lit_true v t) (number v ts)

pub mask_number : (v : ℕ → Bool) (g : ℕ) (keep : Literal) (r : List Literal) → HaveMeaning v g (mask_gates keep r) → number v (fresh_bits g (length r)) ≡ (if lit_true v keep then number v r else 0)
mask_number v g keep r h = go (lit_true v keep) refl g r h
  where
    go : (k : Bool) → lit_true v keep ≡ k → (g : ℕ) (r : List Literal) → HaveMeaning v g (mask_gates keep r) → number v (fresh_bits g (length r)) ≡ (if k then number v r else 0)
    go true e g [] h = refl
    go false e g [] h = refl
    go true e g (l ∷ r) h =
        let one : v g ≡ lit_true v l = h.0 ∙ ap (λ b. lit_true v l && b) e ∙ and-true (lit_true v l) in
        rw (one, go true e (suc g) r h.1) refl
    go false e g (l ∷ r) h =
        let one : v g ≡ false = h.0 ∙ ap (λ b. lit_true v l && b) e ∙ and-false (lit_true v l) in
        rw (one, go false e (suc g) r h.1) refl

-- ---- lengths

pub length-stage_gates : (way : Direction) (fill : Literal) (g j : ℕ) (r ts : List Literal) → AreNear (length r) j ts → length (stage_gates way fill g j r ts) ≡ length r * length ts
length-stage_gates way fill g j r [] near = omega arith
length-stage_gates way fill g j r (t ∷ ts) near =
    let n = length r in
    let lx = length-moved way fill (2 ^ j) r (omega (arith, near j (omega arith))) in
    let lf = length-fresh_bits n g in
    let rest = length-stage_gates way fill (g + n) (suc j) (fresh_bits g n) ts (subst (λ k. AreNear k (suc j) ts) (sym lf) (AreNear-next n j t ts near)) in
    length-append (mux_gates t (moved way fill (2 ^ j) r) r) (stage_gates way fill (g + n) (suc j) (fresh_bits g n) ts)
    ∙ rw (rest, lf, length-mux_gates t (moved way fill (2 ^ j) r) r lx, lx) (omega arith)

pub length-stage_bits : (g : ℕ) (r ts : List Literal) → length (stage_bits g r ts) ≡ length r
length-stage_bits g r [] = refl
length-stage_bits g r (t ∷ ts) = length-stage_bits (g + length r) (fresh_bits g (length r)) ts ∙ length-fresh_bits (length r) g

pub length-any_gates : (g : ℕ) (o : Literal) (ts : List Literal) → length (any_gates g o ts) ≡ length ts
length-any_gates g o [] = refl
length-any_gates g o (t ∷ ts) = ap suc (length-any_gates (suc g) (negative_of g) ts)

pub length-mask_gates : (keep : Literal) (r : List Literal) → length (mask_gates keep r) ≡ length r
length-mask_gates keep [] = refl
length-mask_gates keep (l ∷ r) = ap suc (length-mask_gates keep r)

-- the stages of the low bits of an amount move by less than the width
pub near_stages : (n : ℕ) (t : List Literal) → AreNear n 0 (take (stages n) t)
near_stages n t = λ i lt. stages_least n i (omega (arith, length-take (stages n) t))

-- ---- the parts of a shift

pub over_is : (v : ℕ → Bool) (way : Direction) (fill : Literal) (g : ℕ) (a t : List Literal) → v 1 ≡ true → HaveMeaning v g (move_gates way fill g a t) → lit_true v (over_bit way fill g a t) ≡ nat_lt 0 (number v t / 2 ^ stages (length a))
over_is v way fill g a t one h =
    let m = stages (length a) in
    let back = meaning_back v g (stage_gates way fill g 0 a (take m t)) _ h in
    let start : bit (lit_true v false_literal) + number v (drop m t) ≡ number v (drop m t) = rw (false_is_false v one) (omega arith) in
    any_is v (g + length (stage_gates way fill g 0 a (take m t))) false_literal (drop m t) back
    ∙ ap (λ k. nat_lt 0 k) (start ∙ number-drop v m t)

-- an amount above the stages is at least the width, and one that is not is the amount of the stages
over_cases : (n y m : ℕ) → n ≤ 2 ^ m → ((nat_lt 0 (y / 2 ^ m) ≡ true) × (n ≤ y)) ⊎ ((nat_lt 0 (y / 2 ^ m) ≡ false) × (y % 2 ^ m ≡ y))
over_cases n y m h = elim (cases_lt y (2 ^ m)) [
  | inl lt ↦ let none : y / 2 ^ m ≡ 0 = div-eq_of_lt lt in inr (le-ltb 0 (y / 2 ^ m) (omega arith), mod-eq_of_lt lt)
  | inr le ↦ inl (lt-ltb 0 (y / 2 ^ m) (le-div 1 y (2 ^ m) (pow_pos m) (omega arith)), omega arith)
]

-- ---- whole shifts

-- the amount of the stages
near_amount : (v : ℕ → Bool) (m : ℕ) (t : List Literal) → 2 ^ 0 * number v (take m t) ≡ number v t % 2 ^ m
near_amount v m t = omega (arith, number-take v m t)

up_cases : (x y n m : ℕ) → n ≤ 2 ^ m → (if not (nat_lt 0 (y / 2 ^ m)) then x * 2 ^ (y % 2 ^ m) % 2 ^ n else 0) ≡ x * 2 ^ y % 2 ^ n
up_cases x y n m h = elim (over_cases n y m h) [
  | inl w ↦ rw w.0 (sym (shl_past x n y w.1))
  | inr w ↦ rw (w.0, w.1) refl
]

down_cases : (x y n m : ℕ) → x < 2 ^ n → n ≤ 2 ^ m → (if not (nat_lt 0 (y / 2 ^ m)) then x / 2 ^ (y % 2 ^ m) else 0) ≡ x / 2 ^ y
down_cases x y n m lt h = elim (over_cases n y m h) [
  | inl w ↦ rw w.0 (sym (shr_past x n y lt w.1))
  | inr w ↦ rw (w.0, w.1) refl
]

signed_cases : (x r y n m : ℕ) (f : Bool) → x < 2 ^ n → r < 2 ^ n → n ≤ 2 ^ m → turned f n r ≡ turned f n x / 2 ^ (y % 2 ^ m) → (if nat_lt 0 (y / 2 ^ m) then (if f then 2 ^ n - 1 else 0) else r) ≡ (if f then not_of n (lshr_of n (not_of n x) y) else lshr_of n x y)
signed_cases x r y n m false lx lr h e = elim (over_cases n y m h) [
  | inl w ↦ rw w.0 (sym (shr_past x n y lx w.1))
  | inr w ↦ rw w.0 (e ∙ ap (λ k. x / 2 ^ k) w.1)
]
signed_cases x r y n m true lx lr h e = elim (over_cases n y m h) [
  | inl w ↦ let none : (2 ^ n - 1 - x) / 2 ^ y ≡ 0 = shr_past (2 ^ n - 1 - x) n y (omega arith) w.1 in rw (w.0, none) (omega arith)
  | inr w ↦ let rest : 2 ^ n - 1 - r ≡ (2 ^ n - 1 - x) / 2 ^ y = e ∙ ap (λ k. (2 ^ n - 1 - x) / 2 ^ k) w.1 in rw (w.0, ← rest) (omega arith)
]

number-replicate : (v : ℕ → Bool) (n : ℕ) (l : Literal) (f : Bool) → lit_true v l ≡ f → number v (replicate n l) ≡ (if f then 2 ^ n - 1 else 0)
number-replicate v n l true e = number-replicate_true v n l e
number-replicate v n l false e = number-replicate_false v n l e

-- a masked row after its stages
masked : (v : ℕ → Bool) (way : Direction) (g : ℕ) (a t : List Literal) → v 1 ≡ true → HaveMeaning v g (logical_gates way g a t) → number v (logical_bits way g a t) ≡ (if not (nat_lt 0 (number v t / 2 ^ stages (length a))) then number v (move_bits g a t) else 0)
masked v way g a t one h =
    let moves = move_gates way false_literal g a t in
    let over = over_bit way false_literal g a t in
    let front = meaning_front v g moves _ h in
    let back = meaning_back v g moves _ h in
    let whole = mask_number v (g + length moves) (negated over) (move_bits g a t) back in
    let keep : lit_true v (negated over) ≡ not (nat_lt 0 (number v t / 2 ^ stages (length a))) = lit_true-negated v over ∙ ap not (over_is v way false_literal g a t one front) in
    ap (λ n. number v (fresh_bits (g + length moves) n)) (sym (length-stage_bits g a (take (stages (length a)) t)))
    ∙ whole
    ∙ ap (λ b. if b then number v (move_bits g a t) else 0) keep

stages_front : (v : ℕ → Bool) (way : Direction) (fill : Literal) (g : ℕ) (a t : List Literal) (more : List GateKind) → HaveMeaning v g (move_gates way fill g a t ++ more) → HaveMeaning v g (stage_gates way fill g 0 a (take (stages (length a)) t))
stages_front v way fill g a t more h =
    meaning_front v g (stage_gates way fill g 0 a (take (stages (length a)) t)) _ (meaning_front v g (move_gates way fill g a t) more h)

pub shl_is : (v : ℕ → Bool) (g : ℕ) (a t : List Literal) → v 1 ≡ true → HaveMeaning v g (shl_gates g a t) → number v (shl_bits g a t) ≡ shl_of (length a) (number v a) (number v t)
shl_is v g a t one h =
    let m = stages (length a) in
    let row = stages_up v g false_literal 0 a (take m t) (false_is_false v one) (near_stages (length a) t) (stages_front v Up false_literal g a t _ h) in
    masked v Up g a t one h
    ∙ rw (row, near_amount v m t) (up_cases (number v a) (number v t) (length a) m (stages_reach (length a)))

pub lshr_is : (v : ℕ → Bool) (g : ℕ) (a t : List Literal) → v 1 ≡ true → HaveMeaning v g (lshr_gates g a t) → number v (lshr_bits g a t) ≡ lshr_of (length a) (number v a) (number v t)
lshr_is v g a t one h =
    let m = stages (length a) in
    let row = stages_down v g false_literal 0 a (take m t) false (false_is_false v one) (near_stages (length a) t) (stages_front v Down false_literal g a t _ h) in
    masked v Down g a t one h
    ∙ rw (row, near_amount v m t) (down_cases (number v a) (number v t) (length a) m (number_lt v a) (stages_reach (length a)))

pub ashr_is : (v : ℕ → Bool) (g : ℕ) (a t : List Literal) → v 1 ≡ true → 0 < length a → HaveMeaning v g (ashr_gates g a t) → number v (ashr_bits g a t) ≡ ashr_of (length a) (number v a) (number v t)
ashr_is v g a t one some h =
    let n = length a in
    let m = stages n in
    let s = sign_of a in
    let moves = move_gates Down s g a t in
    let over = over_bit Down s g a t in
    let f = lit_true v s in
    let front = meaning_front v g moves _ h in
    let back = meaning_back v g moves _ h in
    let lr = length-stage_bits g a (take m t) in
    let row : turned f n (number v (move_bits g a t)) ≡ turned f n (number v a) / 2 ^ (number v t % 2 ^ m) = stages_down v g s 0 a (take m t) f refl (near_stages n t) (stages_front v Down s g a t _ h) ∙ ap (λ k. turned f n (number v a) / 2 ^ k) (near_amount v m t) in
    let fits : number v (move_bits g a t) < 2 ^ n = subst (λ k. number v (move_bits g a t) < 2 ^ k) lr (number_lt v (move_bits g a t)) in
    let choice = choice_number v (g + length moves) over (replicate n s) (move_bits g a t) (length-replicate n s ∙ sym lr) back in
    ap (λ k. number v (fresh_bits (g + length moves) k)) (sym lr)
    ∙ choice
    ∙ rw (over_is v Down s g a t one front, number-replicate v n s f refl) refl
    ∙ signed_cases (number v a) (number v (move_bits g a t)) (number v t) n m f (number_lt v a) fits (stages_reach n) row
    ∙ ap (λ b. if b then not_of n (lshr_of n (not_of n (number v a)) (number v t)) else lshr_of n (number v a) (number v t)) (sign_is v a some)

-- ---- lengths of whole shifts

pub length-move_gates : (way : Direction) (fill : Literal) (g : ℕ) (a t : List Literal) → length (move_gates way fill g a t) ≡ length a * length (take (stages (length a)) t) + length (drop (stages (length a)) t)
length-move_gates way fill g a t =
    let near = take (stages (length a)) t in
    let far = drop (stages (length a)) t in
    let first = stage_gates way fill g 0 a near in
    length-append first (any_gates (g + length first) false_literal far)
    ∙ rw (length-any_gates (g + length first) false_literal far, length-stage_gates way fill g 0 a near (near_stages (length a) t)) refl

pub length-logical_gates : (way : Direction) (g : ℕ) (a t : List Literal) → length (logical_gates way g a t) ≡ length a * length (take (stages (length a)) t) + length (drop (stages (length a)) t) + length a
length-logical_gates way g a t =
    let keep = negated (over_bit way false_literal g a t) in
    length-append (move_gates way false_literal g a t) (mask_gates keep (move_bits g a t))
    ∙ rw (length-move_gates way false_literal g a t, length-mask_gates keep (move_bits g a t), length-stage_bits g a (take (stages (length a)) t)) refl

pub length-ashr_gates : (g : ℕ) (a t : List Literal) → length (ashr_gates g a t) ≡ length a * length (take (stages (length a)) t) + length (drop (stages (length a)) t) + length a
length-ashr_gates g a t =
    let n = length a in
    let over = over_bit Down (sign_of a) g a t in
    let row = move_bits g a t in
    let lr = length-stage_bits g a (take (stages n) t) in
    let ls = length-replicate n (sign_of a) in
    length-append (move_gates Down (sign_of a) g a t) (mux_gates over (replicate n (sign_of a)) row)
    ∙ rw (length-move_gates Down (sign_of a) g a t, length-mux_gates over (replicate n (sign_of a)) row (ls ∙ sym lr), ls) refl

-- a bound on the gates of a shift that knows no stages
pub shift_room : (n t m : ℕ) → n * min m t + (t - m) + n ≤ n * t + t + n
shift_room n t m = omega (arith, mul-le-mul_left {m = min m t} {n = t} n (omega arith))

pub logical_room : (way : Direction) (g : ℕ) (a t : List Literal) → length (logical_gates way g a t) ≤ length a * length t + length t + length a
logical_room way g a t =
    let m = stages (length a) in
    rw (length-logical_gates way g a t, length-take m t, length-drop m t) (shift_room (length a) (length t) m)

pub arithmetic_room : (g : ℕ) (a t : List Literal) → length (ashr_gates g a t) ≤ length a * length t + length t + length a
arithmetic_room g a t =
    let m = stages (length a) in
    rw (length-ashr_gates g a t, length-take m t, length-drop m t) (shift_room (length a) (length t) m)

pub shl_room : (g : ℕ) (a t : List Literal) → length (shl_gates g a t) ≤ length a * length t + length t + length a
shl_room g a t = logical_room Up g a t

pub lshr_room : (g : ℕ) (a t : List Literal) → length (lshr_gates g a t) ≤ length a * length t + length t + length a
lshr_room g a t = logical_room Down g a t
