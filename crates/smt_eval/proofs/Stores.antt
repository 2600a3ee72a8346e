-- Stores and witnesses of arrays, and lists of two and three arguments.
use Rattle.std.proofs.Common.{◌≡◌, ℕ, zero, suc, ◌<◌, ◌^◌, Bool, true, false, not, List, [], ◌∷◌, length, map, get_or, refl, ap, ◌∙◌, arith, Some, None}
use Rattle.std.specs.Prelude.{◌==◌, if◌then◌else◌}
use Rattle.std.specs.List.{AllByRecursion, list_any}
use Rattle.std.proofs.lemmas.Bool.{cond-true, cond-false}
use Rattle.std.proofs.lemmas.List.{length-map, get_or_default}
use Rattle.smt_words.specs.Words.{WordValue, word}
use Rattle.smt_terms.specs.declared.operator.Operator.{Operator}
use Rattle.smt_terms.specs.declared.node.Op.TheVariants.{Plain}
use Rattle.smt_terms.specs.Values.{VWord, all_below, first_below, store_of}
use Rattle.smt_terms.proofs.Arrays.{all_below_each, each_all_below}
use Rattle.smt_values.specs.Arrays.{ArrayFields, element_at, array_value, with_element}
use Rattle.smt_values.specs.Differences.{agree, first_difference}
use Rattle.smt_values.proofs.Changing.{element_stored}
use Rattle.smt_values.specs.declared.value.Value.{Value}
use Rattle.smt_values.specs.declared.value.Value.TheVariants as held
use Rattle.smt_eval.specs.Evaluated.{held_value, holds_array, kind_of, given, AreTaken}
use Rattle.smt_eval.proofs.Taking.{one_is_none, more_are_none}
use Rattle.smt_eval.proofs.Evaluating.{kinds_array}

-- ---- arrays

pub stored_is : (a b c : ArrayFields) (i x : WordValue) → c ≡ a → b ≡ with_element c i x → array_value b ≡ store_of (array_value a) (VWord i.width i.value) (VWord x.width x.value)
stored_is a b c i x p q = ap array_value (q ∙ ap (λ e. with_element e i x) p) ∙ element_stored a i x

first_below_none : (p : ℕ → Bool) (n : ℕ) → ((i : ℕ) → i < n → p i ≡ false) → first_below p n ≡ 0
unfolding first_below
first_below_none p zero h = refl
first_below_none p (suc n) h =
    let all : all_below (λ i. not (p i)) n ≡ true = each_all_below (λ i. not (p i)) n (λ i lt. ap not (h i (omega arith))) in
    cond-true (all_below (λ i. not (p i)) n) (if p n then n else 0) (first_below p n) all ∙ cond-false (p n) n 0 (h n (omega arith))

all_agree : (c : Bool) (w : WordValue) → None ≡ (if c then None else Some w) → c ≡ true
all_agree true w e = refl
all_agree false w e = let q : ⊥ = cc in absurd q

-- arrays without a difference have the witness 0
pub none_is_zero : (a b : ArrayFields) → None ≡ first_difference a b → first_below (λ i. not (element_at a i == element_at b i)) (2 ^ a.index) ≡ 0
none_is_zero a b e =
    let all = all_agree (agree a b) (word a.index (first_below (λ i. not (element_at a i == element_at b i)) (2 ^ a.index))) e in
    first_below_none (λ i. not (element_at a i == element_at b i)) (2 ^ a.index) (λ i lt. ap not (all_below_each (λ k. element_at a k == element_at b k) (2 ^ a.index) all i lt))

-- ---- arguments

-- what is read at a number is the value that is held for it
pub read_is : (values : List Value) (a : ℕ) (u : Value) → a < length values → u ≡ get_or values a u → u ≡ held_value values a
read_is values a u lt e = e ∙ get_or_default values a u (held.Bool false) lt

pub two_given : (values : List Value) (args : List ℕ) → length args ≡ 2 → AllByRecursion (λ a. a < length values) args → (u v : Value) → u ≡ get_or values (get_or args 0 0) u → v ≡ get_or values (get_or args 1 0) v → u ∷ v ∷ [] ≡ given values args
two_given values [] n h u v p q = absurd (omega arith)
two_given values (a ∷ []) n h u v p q = absurd (omega arith)
two_given values (a ∷ b ∷ []) n h u v p q = let x = read_is values a u h.0 p in let y = read_is values b v h.1.0 q in (λ j. x j ∷ y j ∷ [])
two_given values (a ∷ b ∷ c ∷ args) n h u v p q = absurd (omega arith)

pub three_given : (values : List Value) (args : List ℕ) → length args ≡ 3 → AllByRecursion (λ a. a < length values) args → (u v w : Value) → u ≡ get_or values (get_or args 0 0) u → v ≡ get_or values (get_or args 1 0) v → w ≡ get_or values (get_or args 2 0) w → u ∷ v ∷ w ∷ [] ≡ given values args
three_given values [] n h u v w p q r = absurd (omega arith)
three_given values (a ∷ []) n h u v w p q r = absurd (omega arith)
three_given values (a ∷ b ∷ []) n h u v w p q r = absurd (omega arith)
three_given values (a ∷ b ∷ c ∷ []) n h u v w p q r = let x = read_is values a u h.0 p in let y = read_is values b v h.1.0 q in let z = read_is values c w h.1.1.0 r in (λ j. x j ∷ y j ∷ z j ∷ [])
three_given values (a ∷ b ∷ c ∷ d ∷ args) n h u v w p q r = absurd (omega arith)

pub one_is_not : (o : Operator) (values : List Value) (args : List ℕ) → length args ≡ 1 → AreTaken (Plain o) (given values args) → list_any holds_array (given values args) ≡ true → ⊥
one_is_not o values [] n h any = absurd (omega arith)
one_is_not o values (a ∷ []) n h any = one_is_none o (kind_of (held_value values a)) h.rank (kinds_array (held_value values a ∷ []) ∙ any)
one_is_not o values (a ∷ b ∷ args) n h any = absurd (omega arith)

pub more_are_not : (o : Operator) (values : List Value) (args : List ℕ) → 3 < length args → AreTaken (Plain o) (given values args) → ⊥
more_are_not o values args lt h = more_are_none o (map kind_of (given values args)) (omega (arith, length-map (given values args) kind_of, length-map args (held_value values))) h.rank
