-- Every assignment makes one cube true.
use Rattle.std.proofs.Common.{◌≡◌, ℕ, zero, suc, ◌+◌, ◌*◌, ◌/◌, ◌%◌, ◌<◌, ◌≤◌, ◌^◌, Bool, true, false, not, List, [], ◌∷◌, ◌++◌, length, take, get_or, refl, sym, ap, ◌∙◌, subst, ⊎_elim, length-append, arith}
use Rattle.std.specs.Prelude.{◌==◌, if◌then◌else◌}
use Rattle.std.proofs.Math.Nat.{pow-suc}
use Rattle.std.proofs.Math.Pow.{pow_mono}
use Rattle.std.proofs.lemmas.Bool.{ne_eqb, cases_lt}
use Rattle.std.proofs.lemmas.List.{get_or_append_left, get_or_push}
use Rattle.cnf_base.specs.Literals.{Literal}
use Rattle.cube_tree.specs.Cubes.{cube_of, AreTrue, SplitAll, AreVariables, AreCubes}

abbrev low : Bool → ℕ
low true = 0
low false = 1

abbrev number_of : (ℕ → Bool) → List ℕ → ℕ
number_of v [] = 0
number_of v (x ∷ xs) = low (v x) + 2 * number_of v xs

low_small : (b : Bool) → low b < 2
low_small true = omega arith
low_small false = omega arith

number_small : (v : ℕ → Bool) (xs : List ℕ) → number_of v xs < 2 ^ length xs
number_small v [] = omega arith
number_small v (x ∷ xs) = let k = number_small v xs in let l = low_small (v x) in omega (arith, k, l, pow-suc 2 (length xs))

low_true : (b : Bool) (n : ℕ) → n ≡ low b → (if n == 0 then b else not b) ≡ true
low_true true n e = rw e refl
low_true false n e = rw e refl

number_true : (v : ℕ → Bool) (xs : List ℕ) (n : ℕ) → n ≡ number_of v xs → AreTrue v (cube_of xs n)
number_true v [] n e = tt
number_true v (x ∷ xs) n e =
    let l = low_small (v x) in
    let half : n / 2 ≡ number_of v xs = omega (arith, e, l) in
    let bit : n % 2 ≡ low (v x) = omega (arith, e, l) in
    (low_true (v x) (n % 2) bit, number_true v xs (n / 2) half)

true_low : (b : Bool) (n : ℕ) → n < 2 → (if n == 0 then b else not b) ≡ true → n ≡ low b
true_low true zero h e = refl
true_low true (suc n) h e =
    let z = ne_eqb (suc n) 0 (λ same. let f : ⊥ = omega (arith, same) in f) in
    let q : false ≡ true = subst (λ b. (if b then true else false) ≡ true) z e in
    let f : ⊥ = cc in
    absurd f
true_low false zero h e = let q : false ≡ true = e in let f : ⊥ = cc in absurd f
true_low false (suc n) h e = omega (arith, h)

true_number : (v : ℕ → Bool) (xs : List ℕ) (n : ℕ) → n < 2 ^ length xs → AreTrue v (cube_of xs n) → n ≡ number_of v xs
true_number v [] n h t = omega (arith, h)
true_number v (x ∷ xs) n h t =
    let half : n / 2 < 2 ^ length xs = omega (arith, h, pow-suc 2 (length xs)) in
    let k = true_number v xs (n / 2) half t.1 in
    let small : n % 2 < 2 = omega arith in
    let b = true_low (v x) (n % 2) small t.0 in
    omega (arith, k, b)

pub split_all : (xs : List ℕ) → SplitAll xs
split_all xs = record {
  some_cube = λ v. (number_of v xs, number_small v xs, number_true v xs (number_of v xs) refl);
  one_cube = λ v m n hm hn tm tn. true_number v xs m hm tm ∙ sym (true_number v xs n hn tn);
}

-- ---- the cubes in a row

-- the first cubes, so many, in the order of their numbers
pub record AreFirst (variables : List ℕ) (cubes : List (List Literal)) (upto : ℕ) : Type 0 where
  pub count : length cubes ≡ upto
  pub each : (n : ℕ) (d : List Literal) → n < length cubes → get_or cubes n d ≡ cube_of variables n

pub first_none : (variables : List ℕ) (cubes : List (List Literal)) → cubes ≡ [] → AreFirst variables cubes 0
first_none variables cubes e = record { count = ap length e; each = λ n d lt. absurd (omega (arith, lt, ap length e)) }

pub first_more : (variables : List ℕ) (cubes : List (List Literal)) (n : ℕ) (c : List Literal) → AreFirst variables cubes n → c ≡ cube_of variables n → AreFirst variables (cubes ++ c ∷ []) (n + 1)
first_more variables cubes n c h e = record {
  count = omega (arith, h.count, length-append cubes (c ∷ []));
  each = λ m d lt.
      ⊎_elim
      (λ less. get_or_append_left cubes (c ∷ []) d m less ∙ h.each m d less)
      (λ le.
      let last : m ≡ length cubes = omega (arith, lt, le, length-append cubes (c ∷ [])) in
      get_or_push cubes c d m (sym last) ∙ e ∙ ap (cube_of variables) (sym (last ∙ h.count)))
      (cases_lt m (length cubes));
}

-- below 2^32 a power of two is not cut off
power_is : (d n : ℕ) → d ≤ 10 → (1 * 2 ^ d) % 4294967296 ≤ n → n ≤ (1 * 2 ^ d) % 4294967296 → n ≡ 2 ^ d
power_is d n le lo hi = let small = pow_mono le in omega (arith, small, lo, hi)

pub first_all : (variables : List ℕ) (cubes : List (List Literal)) (n d : ℕ) → AreVariables variables → length variables ≡ d → d ≤ 10 → (1 * 2 ^ d) % 4294967296 ≤ n → n ≤ (1 * 2 ^ d) % 4294967296 → AreFirst variables cubes n → AreCubes variables cubes
first_all variables cubes n d each len le lo hi h = record {
  variables_of = each;
  depth = omega (arith, len, le);
  count = h.count ∙ power_is d n le lo hi ∙ ap (λ k. 2 ^ k) (sym len);
  each = h.each;
}

pub take_variables : (n : ℕ) (variables : List ℕ) → AreVariables variables → AreVariables (take n variables)
take_variables zero variables h = tt
take_variables (suc n) [] h = tt
take_variables (suc n) (x ∷ variables) h = (h.0, take_variables n variables h.1)
