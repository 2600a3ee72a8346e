-- The comparisons' literals say how the numbers compare.
use Rattle.std.proofs.Common.{◌≡◌, ℕ, suc, ◌+◌, ◌-◌, ◌*◌, ◌^◌, ◌<◌, Bool, true, false, not, List, [], ◌∷◌, ◌++◌, length, length-append, length-take, min, take, refl, sym, ap, ◌∙◌, subst, arith}
use Rattle.std.specs.Prelude.{if◌then◌else◌, nat_le, nat_lt, ℤ, pos, negsuc, ◌-ℤ◌, int_lt, int_le}
use Rattle.std.proofs.lemmas.Bool.Decides.{nat_tests}
use Rattle.std.proofs.lemmas.Int.{ints}
use Rattle.cnf_base.specs.Literals.{Literal, positive_of, false_literal}
use Rattle.cnf_base.specs.Clauses.{lit_true, number, bit}
use Rattle.cnf_base.specs.Gates.{HaveMeaning}
use Rattle.cnf_base.proofs.Truth.{lit_true-negated}
use Rattle.smt_words.specs.Words.{is_negative, signed_of, ult_of, ule_of, slt_of, sle_of}
use Rattle.smt_words.proofs.LawsOfNumbers.{halves}
use Rattle.cnf_base.proofs.Numbers.{number-append}
use Rattle.circ_plain.specs.Signs.{sign_of}
use Rattle.circ_plain.specs.Orders.{below_gates, below_bit, ult_gates, ult_bit, ule_gates, ule_bit, with_sign, slt_gates, slt_bit, sle_gates, sle_bit}
use Rattle.circ_plain.proofs.Negating.{sign_splits, below_sign, sign_is}
use Rattle.circ_plain.proofs.Bits.{false_is_false}

-- one place: bits p and q before the numbers x and y, and whether what stands below them is less
place : (p q l : Bool) (x y : ℕ) → nat_lt x (y + bit (if (if p then not q else q) then q else l)) ≡ nat_lt (bit p + 2 * x) (bit q + 2 * y + bit l)
place true true true x y = grind (arith, nat_tests)
place true true false x y = grind (arith, nat_tests)
place true false true x y = grind (arith, nat_tests)
place true false false x y = grind (arith, nat_tests)
place false true true x y = grind (arith, nat_tests)
place false true false x y = grind (arith, nat_tests)
place false false true x y = grind (arith, nat_tests)
place false false false x y = grind (arith, nat_tests)

pub below_is : (v : ℕ → Bool) (g : ℕ) (l : Literal) (a b : List Literal) → length a ≡ length b → HaveMeaning v g (below_gates g l a b) → lit_true v (below_bit g l a b) ≡ nat_lt (number v a) (number v b + bit (lit_true v l))
below_is v g l [] [] e h = last (lit_true v l)
  where
    last : (t : Bool) → t ≡ nat_lt 0 (0 + bit t)
    last true = refl
    last false = refl
below_is v g l [] (y ∷ b) e h = absurd (omega arith)
below_is v g l (x ∷ a) [] e h = absurd (omega arith)
below_is v g l (x ∷ a) (y ∷ b) e h =
    let p = lit_true v x in
    let q = lit_true v y in
    let t = lit_true v l in
    let carried : v (suc g) ≡ (if (if p then not q else q) then q else t) = h.1.0 ∙ ap (λ d. if d then q else t) h.0 in
    below_is v (suc (suc g)) (positive_of (suc g)) a b (omega arith) h.1.1
    ∙ ap (λ d. nat_lt (number v a) (number v b + bit d)) carried
    ∙ place p q t (number v a) (number v b)

pub length-below_gates : (g : ℕ) (l : Literal) (a b : List Literal) → length a ≡ length b → length (below_gates g l a b) ≡ 2 * length a
length-below_gates g l [] b e = refl
length-below_gates g l (x ∷ a) [] e = absurd (omega arith)
length-below_gates g l (x ∷ a) (y ∷ b) e = omega (arith, length-below_gates (suc (suc g)) (positive_of (suc g)) a b (omega arith))

-- ---- unsigned

pub ult_is : (v : ℕ → Bool) (g : ℕ) (a b : List Literal) → v 1 ≡ true → length a ≡ length b → HaveMeaning v g (ult_gates g a b) → lit_true v (ult_bit g a b) ≡ ult_of (length a) (number v a) (number v b)
ult_is v g a b one e h =
    let zero_more : number v b + bit (lit_true v false_literal) ≡ number v b = rw (false_is_false v one) (omega arith) in
    below_is v g false_literal a b e h ∙ ap (λ k. nat_lt (number v a) k) zero_more

not_below : (x y : ℕ) → not (nat_lt y x) ≡ nat_le x y
not_below x y = grind (arith, nat_tests)

pub ule_is : (v : ℕ → Bool) (g : ℕ) (a b : List Literal) → v 1 ≡ true → length a ≡ length b → HaveMeaning v g (ule_gates g a b) → lit_true v (ule_bit g a b) ≡ ule_of (length a) (number v a) (number v b)
ule_is v g a b one e h =
    lit_true-negated v (ult_bit g b a) ∙ ap not (ult_is v g b a one (sym e) h) ∙ not_below (number v a) (number v b)

-- ---- signed

pub length-with_sign : (a : List Literal) (s : Literal) → 0 < length a → length (with_sign a s) ≡ length a
length-with_sign a s h =
    let e : min (length a - 1) (length a) ≡ length a - 1 = omega arith in
    length-append (take (length a - 1) a) (s ∷ []) ∙ omega (arith, length-take (length a - 1) a)

pub number-with_sign : (v : ℕ → Bool) (a : List Literal) (s : Literal) → 0 < length a → number v (with_sign a s) ≡ number v (take (length a - 1) a) + 2 ^ (length a - 1) * bit (lit_true v s)
number-with_sign v a s h =
    let e : min (length a - 1) (length a) ≡ length a - 1 = omega arith in
    number-append v (take (length a - 1) a) (s ∷ [])
    ∙ rw (length-take (length a - 1) a, e) (omega arith)

-- a number with its sign bit, whose place is worth p, is so far below 0
below_zero : (x p : ℕ) → x < p → pos (x + p * 1) -ℤ pos (2 * p) ≡ negsuc (p - x - 1)
below_zero x p h = omega (arith, ints)

-- x and y stand below the signs s and t, whose place is worth p
signs_changed : (x y p : ℕ) (s t : Bool) → x < p → y < p → nat_lt (x + p * bit t) (y + p * bit s) ≡ int_lt (if s then pos (x + p * bit s) -ℤ pos (2 * p) else pos (x + p * bit s)) (if t then pos (y + p * bit t) -ℤ pos (2 * p) else pos (y + p * bit t))
signs_changed x y p true true h k = rw (below_zero x p h, below_zero y p k) (grind (arith, nat_tests))
signs_changed x y p true false h k = rw (below_zero x p h) (grind (arith, nat_tests))
signs_changed x y p false true h k = rw (below_zero y p k) (grind (arith, nat_tests))
signs_changed x y p false false h k = refl

-- the signed order, from the numbers below the signs
signed_order : (x y s' t' p P : ℕ) (s t : Bool) → x < p → y < p → P ≡ 2 * p → s' ≡ x + p * bit s → t' ≡ y + p * bit t → nat_lt (x + p * bit t) (y + p * bit s) ≡ int_lt (if s then pos s' -ℤ pos P else pos s') (if t then pos t' -ℤ pos P else pos t')
signed_order x y s' t' p P s t h k e f i = rw (e, f, i) (signs_changed x y p s t h k)

pub slt_is : (v : ℕ → Bool) (g : ℕ) (a b : List Literal) → v 1 ≡ true → 0 < length a → length a ≡ length b → HaveMeaning v g (slt_gates g a b) → lit_true v (slt_bit g a b) ≡ slt_of (length a) (number v a) (number v b)
slt_is v g a b one some e h =
    let n = length a in
    let m : 0 < length b = omega arith in
    let s = sign_of a in
    let t = sign_of b in
    let x = number v (take (n - 1) a) in
    let y = number v (take (n - 1) b) in
    let ea : number v (with_sign a t) ≡ x + 2 ^ (n - 1) * bit (lit_true v t) = number-with_sign v a t some in
    let eb : number v (with_sign b s) ≡ y + 2 ^ (n - 1) * bit (lit_true v s) = subst (λ k. number v (with_sign b s) ≡ number v (take (k - 1) b) + 2 ^ (k - 1) * bit (lit_true v s)) (sym e) (number-with_sign v b s m) in
    let lb : y < 2 ^ (n - 1) = subst (λ k. number v (take (k - 1) b) < 2 ^ (k - 1)) (sym e) (below_sign v b m) in
    let sb : number v b ≡ y + 2 ^ (n - 1) * bit (lit_true v t) = subst (λ k. number v b ≡ number v (take (k - 1) b) + 2 ^ (k - 1) * bit (lit_true v t)) (sym e) (sign_splits v b m) in
    let ib : lit_true v t ≡ is_negative n (number v b) = subst (λ k. lit_true v t ≡ is_negative k (number v b)) (sym e) (sign_is v b m) in
    let same : length (with_sign a t) ≡ length (with_sign b s) = length-with_sign a t some ∙ e ∙ sym (length-with_sign b s m) in
    ult_is v g (with_sign a t) (with_sign b s) one same h
    ∙ ap (λ k. nat_lt k (number v (with_sign b s))) ea
    ∙ ap (λ k. nat_lt (x + 2 ^ (n - 1) * bit (lit_true v t)) k) eb
    ∙ signed_order x y (number v a) (number v b) (2 ^ (n - 1)) (2 ^ n) (lit_true v s) (lit_true v t) (below_sign v a some) lb (halves n some) (sign_splits v a some) sb
    ∙ ap (λ z. int_lt (if z then pos (number v a) -ℤ pos (2 ^ n) else pos (number v a)) (if lit_true v t then pos (number v b) -ℤ pos (2 ^ n) else pos (number v b))) (sign_is v a some)
    ∙ ap (λ z. int_lt (signed_of n (number v a)) (if z then pos (number v b) -ℤ pos (2 ^ n) else pos (number v b))) ib

not_below_signed : (x y : ℤ) → not (int_lt y x) ≡ int_le x y
not_below_signed x y = grind (arith, ints)

pub sle_is : (v : ℕ → Bool) (g : ℕ) (a b : List Literal) → v 1 ≡ true → 0 < length a → length a ≡ length b → HaveMeaning v g (sle_gates g a b) → lit_true v (sle_bit g a b) ≡ sle_of (length a) (number v a) (number v b)
sle_is v g a b one some e h =
    let swapped : lit_true v (slt_bit g b a) ≡ slt_of (length a) (number v b) (number v a) = subst (λ k. lit_true v (slt_bit g b a) ≡ slt_of k (number v b) (number v a)) (sym e) (slt_is v g b a one (omega arith) (sym e) h) in
    lit_true-negated v (slt_bit g b a) ∙ ap not swapped ∙ not_below_signed (signed_of (length a) (number v a)) (signed_of (length a) (number v b))

-- ---- one place and the rest

-- the first place of a comparison, and the comparison of the rest
pub record BelowPlace (g h : ℕ) (a b : List Literal) (x y : Literal) (as' bs : List Literal) (before after : Literal) : Type 0 where
  pub gates : below_gates g before a b ≡ below_gates g before (x ∷ []) (y ∷ []) ++ below_gates h after as' bs
  pub last : below_bit g before a b ≡ below_bit h after as' bs

pub below_place : (g h : ℕ) (a b : List Literal) (x y : Literal) (as' bs : List Literal) (before after : Literal) → a ≡ x ∷ as' → b ≡ y ∷ bs → h ≡ g + 2 → after ≡ positive_of (g + 1) → BelowPlace g h a b x y as' bs before after
below_place g h a b x y as' bs before after ea eb eh en =
    let two : h ≡ suc (suc g) = omega (arith, eh) in
    let one : g + 1 ≡ suc g = omega arith in
    rw (ea, eb, two, en, one) (record { gates = refl; last = refl })
