-- A numeral is read exactly: as the number that is printed so, if there is one below the limit.
use Rattle.std.proofs.Common.{◌≡◌, ◌≢◌, ℕ, zero, suc, ◌+◌, ◌-◌, ◌*◌, ◌/◌, ◌%◌, ◌^◌, ◌<◌, ◌≤◌, Bool, true, false, cond, List, [], ◌∷◌, ◌++◌, refl, sym, ap, subst, ◌∙◌, arith, append_assoc, append-nil, eqb, lt-ltb, Option, Some, None}
use Rattle.std.proofs.lemmas.Bool.{eqb-true, eqb-false, ne_eqb}
use Rattle.std.proofs.lemmas.Bool.Decides.{nat_tests}
use Rattle.std.proofs.lemmas.Fmt.{decimal_digit, decimal_step_wide, decimal_by_steps_wide}
use Rattle.std.proofs.lemmas.List.Folds.{list_all-append}
use Rattle.std.specs.Fmt.{decimal}
use Rattle.std.specs.List.{list_all}
use Rattle.std.specs.Prelude.{nat_lt}
use Rattle.smt_text.specs.Lexicon.{is_digit}
use Rattle.proof_text.specs.Reading.{is_end, more_digits, number_of}

pub taken : {A : Type 0} (p : Bool) (x : Option A) (y : A) → cond p x None ≡ Some y → (p ≡ true) × (x ≡ Some y)
taken true x y e = (refl, e)
taken false x y e = absurd (let k : ⊥ = cc in k)

pub digit_ok : (d : ℕ) → d < 10 → is_digit (48 + d) ≡ true
digit_ok d h = grind (arith, nat_tests)

pub digit_range : (b : ℕ) → is_digit b ≡ true → (48 ≤ b) × (b ≤ 57)
digit_range b h = (grind (arith, nat_tests), grind (arith, nat_tests))

pub low_enough : (a b : ℕ) → nat_lt a b ≡ true → a < b
low_enough a b h = grind (arith, nat_tests)

-- ---- one more digit

append_digit : (limit a : ℕ) (bs : List ℕ) (m d : ℕ) → d < 10 → 10 * m + d < limit → more_digits limit a bs ≡ Some m → more_digits limit a (bs ++ (48 + d) ∷ []) ≡ Some (10 * m + d)
unfolding more_digits
append_digit limit a [] m d h low e =
    let same : a ≡ m = cc in
    let back : 48 + d - 48 ≡ d = omega arith in
    let test : nat_lt (10 * m + d) limit ≡ true = lt-ltb (10 * m + d) limit low in
    rw (same, digit_ok d h, back, test) refl
append_digit limit a (b ∷ bs) m d h low e =
    let p = taken (is_digit b) _ m e in
    let q = taken (nat_lt (10 * a + (b - 48)) limit) _ m p.1 in
    rw (p.0, q.0) (append_digit limit (10 * a + (b - 48)) bs m d h low q.1)

append_first : (q : Bool) (limit b : ℕ) (bs : List ℕ) (m d : ℕ) → 0 < m → d < 10 → 10 * m + d < limit
    → cond q (cond (is_end bs) (Some 0) None) (more_digits limit (b - 48) bs) ≡ Some m
    → cond q (cond (is_end (bs ++ (48 + d) ∷ [])) (Some 0) None) (more_digits limit (b - 48) (bs ++ (48 + d) ∷ [])) ≡ Some (10 * m + d)
append_first true limit b bs m d some h low e =
    let p = taken (is_end bs) (Some 0) m e in
    let z : 0 ≡ m = let r = p.1 in cc in
    absurd (omega arith)
append_first false limit b bs m d some h low e = append_digit limit (b - 48) bs m d h low e

append_number : (limit : ℕ) (ds : List ℕ) (m d : ℕ) → 0 < m → d < 10 → 10 * m + d < limit → number_of limit ds ≡ Some m → number_of limit (ds ++ (48 + d) ∷ []) ≡ Some (10 * m + d)
unfolding number_of
append_number limit [] m d some h low e = absurd (let k : ⊥ = cc in k)
append_number limit (b ∷ bs) m d some h low e =
    let p = taken (is_digit b) _ m e in
    rw p.0 (append_first (eqb b 48) limit b bs m d some h low p.1)

one_digit : (limit n : ℕ) → n < 10 → number_of limit ((48 + n) ∷ []) ≡ Some n
unfolding number_of more_digits
one_digit limit zero h = refl
one_digit limit (suc k) h =
    let other : eqb (48 + suc k) 48 ≡ false = ne_eqb (48 + suc k) 48 (λ e. let z : ⊥ = absurd (omega arith) in z) in
    let back : 48 + suc k - 48 ≡ suc k = omega arith in
    rw (digit_ok (suc k) h, other, back) refl

-- ---- what is printed is read

pub number_reads : (limit n : ℕ) → limit ≤ 10 ^ 64 → n < limit → number_of limit (decimal n) ≡ Some n
number_reads limit n small low =
    decimal_by_steps_wide (λ m ds. m < limit → number_of limit ds ≡ Some m)
    (λ m h l. one_digit limit m h)
    (λ m ds h ih l.
    let whole : 10 * (m / 10) + m % 10 ≡ m = omega arith in
    subst (λ (x : ℕ). number_of limit (ds ++ (48 + m % 10) ∷ []) ≡ Some x) whole
    (append_number limit ds (m / 10) (m % 10) (omega arith) (omega arith) (omega arith) (ih (omega arith))))
    n (omega arith) low

-- ---- what is read is printed so

more_says : (limit a : ℕ) (bs : List ℕ) (n : ℕ) → limit ≤ 10 ^ 64 → 0 < a → a < limit → more_digits limit a bs ≡ Some n → (decimal a ++ bs ≡ decimal n) × (n < limit)
unfolding more_digits
more_says limit a [] n small some low e =
    let same : a ≡ n = cc in
    (append-nil (decimal a) ∙ ap decimal same, subst (λ (x : ℕ). x < limit) same low)
more_says limit a (b ∷ bs) n small some low e =
    let p = taken (is_digit b) _ n e in
    let q = taken (nat_lt (10 * a + (b - 48)) limit) _ n p.1 in
    let r = digit_range b p.0 in
    let next = 10 * a + (b - 48) in
    let fits : next < limit = low_enough next limit q.0 in
    let up : 10 ≤ next = omega arith in
    let wide : next < 10 ^ 64 = omega arith in
    let ih = more_says limit next bs n small (omega arith) fits q.1 in
    let front : next / 10 ≡ a = omega arith in
    let last : 48 + next % 10 ≡ b = omega arith in
    let step : decimal next ≡ decimal a ++ b ∷ [] = decimal_step_wide next up wide ∙ rw (front, last) refl in
    (sym (append_assoc (decimal a) (b ∷ []) bs) ∙ ap (λ x. x ++ bs) (sym step) ∙ ih.0, ih.1)

first_says : (q : Bool) (limit b : ℕ) (bs : List ℕ) (n : ℕ) → limit ≤ 10 ^ 64 → 10 ≤ limit → is_digit b ≡ true → eqb b 48 ≡ q
    → cond q (cond (is_end bs) (Some 0) None) (more_digits limit (b - 48) bs) ≡ Some n → (b ∷ bs ≡ decimal n) × (n < limit)
first_says true limit b [] n small room d k e =
    let zero_is : 0 ≡ n = cc in
    let byte : b ≡ 48 = eqb-true b 48 k in
    (rw (byte, sym zero_is) (sym (decimal_digit 0 (omega arith))), omega arith)
first_says true limit b (c ∷ bs) n small room d k e = absurd (let z : ⊥ = cc in z)
first_says false limit b bs n small room d k e =
    let r = digit_range b d in
    let other : b ≢ 48 = eqb-false b 48 k in
    let m = more_says limit (b - 48) bs n small (omega arith) (omega arith) e in
    let back : 48 + (b - 48) ≡ b = omega arith in
    let first : decimal (b - 48) ≡ b ∷ [] = decimal_digit (b - 48) (omega arith) ∙ rw back refl in
    (ap (λ x. x ++ bs) (sym first) ∙ m.0, m.1)

pub number_says : (limit : ℕ) (w : List ℕ) (n : ℕ) → limit ≤ 10 ^ 64 → 10 ≤ limit → number_of limit w ≡ Some n → (w ≡ decimal n) × (n < limit)
unfolding number_of
number_says limit [] n small room e = absurd (let k : ⊥ = cc in k)
number_says limit (b ∷ bs) n small room e =
    let p = taken (is_digit b) _ n e in
    first_says (eqb b 48) limit b bs n small room p.0 refl p.1

-- ---- a numeral has digits alone

pub decimal_digits : (n : ℕ) → n < 10 ^ 64 → list_all is_digit (decimal n) ≡ true
decimal_digits n h =
    decimal_by_steps_wide (λ m ds. list_all is_digit ds ≡ true)
    (λ m l. rw (digit_ok m l) refl)
    (λ m ds l ih. rw (list_all-append is_digit ds ((48 + m % 10) ∷ []), ih, digit_ok (m % 10) (omega arith)) refl)
    n h
