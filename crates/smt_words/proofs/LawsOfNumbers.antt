-- Laws of the operators' number functions.
use Rattle.std.proofs.Common.{◌≡◌, ℕ, suc, ◌+◌, ◌-◌, ◌*◌, ◌/◌, ◌%◌, ◌^◌, ◌<◌, ◌≤◌, Bool, true, false, refl, sym, ap, ◌∙◌, subst, arith}
use Rattle.std.specs.Prelude.{◌≢◌, if◌then◌else◌, pos, ◌-ℤ◌}
use Rattle.std.proofs.lemmas.Bool.{leb-true, leb-false, le-leb, lt-leb, ne_eqb}
use Rattle.std.proofs.lemmas.Nat.{mod_below, div-mul-add, mod-mul-add, shr_below}
use Rattle.std.proofs.lemmas.Int.{ints}
use Rattle.std.proofs.Math.Nat.{mod-add-div', mod_self, mod-eq_of_lt, add-mod-mod, mod-one, div-one, sub-zero, pow-suc, div-eq_of_lt}
use Rattle.smt_words.specs.Words.{IsWord, is_negative, add_of, neg_of, sub_of, udiv_of, urem_of, signed_of, sign_extend_of, rotate_left_of, rotate_right_of}
use Rattle.smt_words.proofs.Numbers.{pow_le}

-- ---- quotients

pub divides : (n x y : ℕ) → y ≢ 0 → udiv_of n x y * y + urem_of n x y ≡ x
divides n x y h = rw (ne_eqb y 0 h) (omega (arith, mod-add-div' x y))

pub rest_below : (n x y : ℕ) → y ≢ 0 → urem_of n x y < y
rest_below n x y h = rw (ne_eqb y 0 h) (mod_below x y (omega arith))

-- ---- negation

pub cancels : (n x : ℕ) → IsWord n x → add_of n x (neg_of n x) ≡ 0
cancels n x h =
    let e : x + (2 ^ n - x) ≡ 2 ^ n = omega (arith, h.2) in
    add-mod-mod x (2 ^ n - x) (2 ^ n) ∙ ap (λ k. k % 2 ^ n) e ∙ mod_self (2 ^ n)

pub difference : (n x y : ℕ) → IsWord n x → IsWord n y → sub_of n x y ≡ add_of n x (neg_of n y)
difference n x y h k =
    let e : 2 ^ n + x - y ≡ x + (2 ^ n - y) = omega (arith, k.2) in
    ap (λ j. j % 2 ^ n) e ∙ sym (add-mod-mod x (2 ^ n - y) (2 ^ n))

-- ---- signs

-- both halves of the words of a width
pub halves : (n : ℕ) → 0 < n → 2 ^ n ≡ 2 * 2 ^ (n - 1)
halves n h = let e : suc (n - 1) ≡ n = omega arith in ap (λ k. 2 ^ k) (sym e) ∙ pow-suc 2 (n - 1) ∙ omega arith

-- the difference of two numbers says how far apart they are
apart : (a b c d : ℕ) → a + d ≡ c + b → pos a -ℤ pos b ≡ pos c -ℤ pos d
apart a b c d e = omega (arith, ints)

extend_cases : (n i x : ℕ) (s : Bool) → IsWord n x → is_negative n x ≡ s → signed_of (n + i) (if s then 2 ^ (n + i) - 2 ^ n + x else x) ≡ (if s then pos x -ℤ pos (2 ^ n) else pos x)
extend_cases n i x true h e =
    let least : 2 ^ (n - 1) ≤ x = leb-true (2 ^ (n - 1)) x e in
    let wide = halves (n + i) (omega arith) in
    let narrow = halves n h.0 in
    let more = pow_le (n - 1) (n + i - 1) (omega arith) in
    rw (le-leb (2 ^ (n + i - 1)) (2 ^ (n + i) - 2 ^ n + x) (omega arith))
    (apart (2 ^ (n + i) - 2 ^ n + x) (2 ^ (n + i)) x (2 ^ n) (omega arith))
extend_cases n i x false h e =
    let below : x < 2 ^ (n - 1) = leb-false (2 ^ (n - 1)) x e in
    let more = pow_le (n - 1) (n + i - 1) (omega arith) in
    rw (lt-leb (2 ^ (n + i - 1)) x (omega arith)) refl

pub sign_extension : (n i x : ℕ) → IsWord n x → signed_of (n + i) (sign_extend_of n i x) ≡ signed_of n x
sign_extension n i x h = extend_cases n i x (is_negative n x) h refl

-- ---- rotations

pub left_whole : (n x : ℕ) → IsWord n x → rotate_left_of n n x ≡ x
left_whole n x h =
    rw (mod_self n, sub-zero n, mod-eq_of_lt h.2, div-eq_of_lt h.2) (omega arith)

pub right_whole : (n x : ℕ) → IsWord n x → rotate_right_of n n x ≡ x
right_whole n x h =
    rw (mod_self n, sub-zero n, mod-one x, div-one x) (omega arith)

-- the low r of r + k bits go up by k, and down again
turns_back : (n r k x : ℕ) → r + k ≡ n → x < 2 ^ n → (x % 2 ^ r * 2 ^ k + x / 2 ^ r) % 2 ^ k * 2 ^ r + (x % 2 ^ r * 2 ^ k + x / 2 ^ r) / 2 ^ k ≡ x
turns_back n r k x e h =
    let a : k + r ≡ n = omega arith in
    let top : x / 2 ^ r < 2 ^ k = shr_below x k r (subst (λ j. x < 2 ^ j) (sym a) h) in
    rw (mod-mul-add (x % 2 ^ r) (2 ^ k) (x / 2 ^ r) top, div-mul-add (x % 2 ^ r) (2 ^ k) (x / 2 ^ r) top)
    (omega (arith, mod-add-div' x (2 ^ r)))

pub back : (n i x : ℕ) → IsWord n x → rotate_right_of n i (rotate_left_of n i x) ≡ x
back n i x h = turns_back n (n - i % n) (i % n) x (omega (arith, mod_below i n h.0)) h.2
