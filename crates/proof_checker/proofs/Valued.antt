-- Values that are written, and models of them.
use Rattle.std.proofs.Common.{◌≡◌, ℕ, zero, suc, ◌+◌, ◌*◌, ◌/◌, ◌%◌, ◌^◌, ◌<◌, Bool, true, false, List, [], ◌∷◌, ◌++◌, length, take, get_or, slice_get, Option, Some, None, refl, sym, ap, ◌∙◌, subst, inl, inr, arith, add-one}
use Rattle.std.specs.Prelude.{◌⊎◌, ◌==◌, ◌&&◌, MatchBool, map}
use Rattle.std.specs.List.{list_all}
use Rattle.std.proofs.lemmas.List.{take_more}
use Rattle.std.proofs.lemmas.List.Folds.{list_all-append, list_all-map}
use Rattle.std.proofs.lemmas.List.Sums.{AllPass-from_list_all, list_all-from_AllPass}
use Rattle.std.proofs.Math.Nat.{div-div-eq-div-mul, pow-succ'}
use Rattle.smt_terms.specs.declared.sort.Signature.{Signature}
use Rattle.smt_terms.specs.Terms.{TermsValue}
use Rattle.smt_terms.specs.Values.{is_true, value}
use Rattle.smt_values.specs.declared.value.Value.{Value}
use Rattle.smt_values.specs.declared.value.Value.TheVariants as kept
use Rattle.smt_values.specs.Held.{meaning, set_for}
use Rattle.smt_values.specs.Held as set
use Rattle.smt_eval.specs.Evaluated.{held_value}
use Rattle.smt_eval.specs.Asked.{AreValuesOf}
use Rattle.scope_selectors.specs.declared.live.Live.{Live}
use Rattle.script_state.specs.declared.answer.Asked.{Asked}
use Rattle.script_state.specs.States.{StateValue, assumptions, roots}
use Rattle.proof_text.specs.Records.{binary}
use Rattle.accepted_proof.specs.Models.{value_for, interpretation_of, IsModel, IsOfSignature}
use Rattle.accepted_proof.proofs.Valuing.{IsHeldFor, value_among}
use Rattle.proof_checker.specs.Blanks.{MeansSame}
use Rattle.proof_checker.specs.Checkers.{AreOfSignatures}
use Rattle.proof_checker.proofs.Blanks.{kept_interpretation}

-- ---- models

-- a value that is set is one that its declaration may have, or a blank
pub held_for : (signatures : List Signature) (values : List (ℕ × Value)) (table : List (Option Value)) → AreOfSignatures signatures values → ((d : ℕ) → MeansSame (set_for table d) (value_for values d))
    → (d : ℕ) (v : Value) → set_for table d ≡ Some v → IsHeldFor v (slice_get signatures d)
held_for signatures values table all same d v e = by (same d)
  where
    by : MeansSame (set_for table d) (value_for values d) → IsHeldFor v (slice_get signatures d)
    by (inl k) = inr (value_among (λ x n. IsOfSignature x (slice_get signatures n)) values d v all (sym k ∙ e))
    by (inr k) = blank k.0
      where
        blank : (set_for table d ≡ None) ⊎ (set_for table d ≡ Some (kept.Bool false)) → IsHeldFor v (slice_get signatures d)
        blank (inl n) = let f : ⊥ = cc in absurd f
        blank (inr b) = let q : v ≡ kept.Bool false = cc in inl q

-- values of terms that are as true as the terms
all_alike : (q : Value → Bool) (p : ℕ → Bool) (found : List Value) (ts : List ℕ) → length found ≡ length ts → ((k : ℕ) → k < length ts → q (held_value found k) ≡ p (get_or ts k 0)) → list_all q found ≡ list_all p ts
all_alike q p [] [] n h = refl
all_alike q p [] (t ∷ ts) n h = absurd (omega arith)
all_alike q p (v ∷ vs) [] n h = absurd (omega arith)
all_alike q p (v ∷ vs) (t ∷ ts) n h =
    ap (λ b. b && list_all q vs) (h 0 (omega arith)) ∙ ap (λ b. p t && b) (all_alike q p vs ts (omega arith) (λ k lt. h (suc k) (omega arith)))

module _ (s : StateValue) (values : List (ℕ × Value)) where
  abbrev truth : ℕ → Bool
  truth t = is_true (value (interpretation_of values) s.terms.nodes t)

  abbrev live_truth : Live → Bool
  live_truth a = truth a.term

  abbrev asked_truth : Asked → Bool
  asked_truth a = truth a.term

  -- the values are a model exactly where all terms that a check is about are true
  all_roots : list_all truth (roots s) ≡ (list_all live_truth s.scopes.live && list_all asked_truth (assumptions s))
  all_roots =
      list_all-append truth (map (λ (a : Live). a.term) s.scopes.live) (map (λ (a : Asked). a.term) (assumptions s))
      ∙ ap (λ b. b && list_all truth (map (λ (a : Asked). a.term) (assumptions s))) (list_all-map truth (λ (a : Live). a.term) s.scopes.live)
      ∙ ap (λ b. list_all live_truth s.scopes.live && b) (list_all-map truth (λ (a : Asked). a.term) (assumptions s))

  judged_roots : (b x y : Bool) → b ≡ (x && y) → list_all live_truth s.scopes.live ≡ x → list_all asked_truth (assumptions s) ≡ y → MatchBool b (IsModel s (interpretation_of values)) (IsModel s (interpretation_of values) → ⊥)
  judged_roots true true true e l a = record { asserted = AllPass-from_list_all live_truth s.scopes.live l; assumed = AllPass-from_list_all asked_truth (assumptions s) a }
  judged_roots true true false e l a = let f : ⊥ = cc in absurd f
  judged_roots true false y e l a = let f : ⊥ = cc in absurd f
  judged_roots false true true e l a = let f : ⊥ = cc in absurd f
  judged_roots false true false e l a = λ m. let t = list_all-from_AllPass asked_truth (assumptions s) m.assumed in let f : ⊥ = cc in f
  judged_roots false false y e l a = λ m. let t = list_all-from_AllPass live_truth s.scopes.live m.asserted in let f : ⊥ = cc in f

  -- what is told of the values of those terms
  pub judged : (interp : List (Option Value)) (found : List Value) (asked : List ℕ) (terms : TermsValue) (b : Bool) → terms ≡ s.terms → asked ≡ roots s → ((d : ℕ) → MeansSame (set_for interp d) (value_for values d)) → AreValuesOf (set.interpretation_of interp) terms.nodes asked found → b ≡ list_all (λ v. is_true (meaning v)) found → MatchBool b (IsModel s (interpretation_of values)) (IsModel s (interpretation_of values) → ⊥)
  judged interp found asked terms b held from given are told =
      judged_roots b (list_all live_truth s.scopes.live) (list_all asked_truth (assumptions s)) (told ∙ all_alike (λ v. is_true (meaning v)) truth found asked are.count each ∙ ap (list_all truth) from ∙ all_roots) refl refl
    where
      each : (k : ℕ) → k < length asked → is_true (meaning (held_value found k)) ≡ truth (get_or asked k 0)
      each k lt =
          ap is_true (are.means k lt)
          ∙ ap (λ M. is_true (value M terms.nodes (get_or asked k 0))) (kept_interpretation interp values given)
          ∙ ap (λ (v : TermsValue). is_true (value (interpretation_of values) v.nodes (get_or asked k 0))) held

-- ---- digits

half_digit : (x b : ℕ) → b < 2 → (2 * x + b) / 2 ≡ x
half_digit x b h = grind arith

low_digit : (x b : ℕ) → b < 2 → (2 * x + b) / 2 ^ 0 % 2 ≡ b
low_digit x b h = grind arith

high_digit : (n x b : ℕ) → b < 2 → (2 * x + b) / 2 ^ suc n ≡ x / 2 ^ n
high_digit n x b h = ap (λ k. (2 * x + b) / k) (pow-succ' 2 n) ∙ sym (div-div-eq-div-mul (2 * x + b) 2 (2 ^ n)) ∙ ap (λ k. k / 2 ^ n) (half_digit x b h)

-- one digit more behind the lowest
pub binary_more : (n x b : ℕ) → b < 2 → binary (suc n) (2 * x + b) ≡ binary n x ++ (b == 1) ∷ []
unfolding binary
binary_more zero x b h = ap (λ k. (k == 1) ∷ []) (low_digit x b h)
binary_more (suc n) x b h =
    ap (λ k. (k % 2 == 1) ∷ binary (suc n) (2 * x + b)) (high_digit n x b h)
    ∙ ap (λ ds. ((x / 2 ^ n) % 2 == 1) ∷ ds) (binary_more n x b h)

-- one digit more, as a number is read
pub number_more : (digits : List Bool) (i x b : ℕ) → i < length digits → b < 2 → (b == 1) ≡ get_or digits i false → x < 2 ^ i → binary i x ≡ take i digits → (2 * x + b < 2 ^ (i + 1)) × (binary (i + 1) (2 * x + b) ≡ take (i + 1) digits)
number_more digits i x b lt small same fits told =
    let wide : 2 ^ suc i ≡ 2 * 2 ^ i = pow-succ' 2 i in
    let within : 2 * x + b < 2 ^ suc i = omega (arith, wide, fits, small) in (
      subst (λ k. 2 * x + b < 2 ^ k) (sym (add-one i)) within,
      ap (λ k. binary k (2 * x + b)) (add-one i) ∙ binary_more i x b small ∙ ap (λ ds. ds ++ (b == 1) ∷ []) told ∙ ap (λ t. take i digits ++ t ∷ []) same ∙ sym (take_more digits i false lt),
    )

pub binary_none : (x : ℕ) → binary 0 x ≡ []
unfolding binary
binary_none x = refl
