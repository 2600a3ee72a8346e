-- What the calls of a check leave.
use Rattle.std.proofs.Common.{◌≡◌, ℕ, List, [], ◌∷◌, Result, Ok, Err, subst}
use Rattle.std.specs.Prelude.{All, Contains, OnOk}
use Rattle.scope_selectors.specs.declared.live.Live.{Live}
use Rattle.proof_log.specs.Stored.{LogValue}
use Rattle.opening_positions.specs.Positions.{IsWith, Gains}
use Rattle.opening_positions.specs.Reading.{ReadSteps}
use Rattle.opening_positions.specs.Holding.{IsTermStep, IsAssertionStep, IsHeldWithBits, IsHeldAssertion, IsHeldPair, IsHeldLemma, IsDecided}
use Rattle.opening_positions.proofs.Holds.{gains_with}
use Rattle.opening_positions.proofs.Opens.{AreHoldings}

pub ok_gains : {V E : Type 0} (r : Result V E) (old new : List ℕ) (at : ℕ) (Kind : ℕ → Type 0) → Kind at → OnOk r (IsWith old at new) → OnOk r (Gains old Kind new)
ok_gains (Ok v) old new at Kind own h = gains_with old new at Kind own h
ok_gains (Err e) old new at Kind own h = tt

pub held_by_calls : (log : LogValue) (s : ReadSteps) (reached : List ℕ) (live : List Live) (begun terms given pairs held equalities makers lemmas : List ℕ)
    → begun ≡ 0 ∷ [] → equalities ≡ s.equalities → makers ≡ s.makers → lemmas ≡ s.lemmas
    → Gains begun (IsTermStep log.entries reached) terms → All (IsHeldWithBits log.entries terms) reached
    → Gains terms (IsAssertionStep log.entries live) given → All (IsHeldAssertion log.entries given) live
    → Gains given (IsHeldPair log.entries pairs) pairs → All (λ p. IsHeldPair log.entries given p → Contains pairs p) equalities
    → Gains pairs (IsHeldLemma log.clauses makers lemmas held) held → All (IsDecided log.clauses makers held) lemmas
    → AreHoldings log s reached live terms given pairs held
held_by_calls log s reached live begun terms given pairs held equalities makers lemmas first es ms ls a b d e f g h k = record {
  gain_terms = subst (λ (l : List ℕ). Gains l (IsTermStep log.entries reached) terms) first a;
  gain_given = d;
  gain_pairs = f;
  gain_lemmas = subst (λ (l : List ℕ). Gains pairs (IsHeldLemma log.clauses s.makers l held) held) ls (subst (λ (l : List ℕ). Gains pairs (IsHeldLemma log.clauses l lemmas held) held) ms h);
  all_terms = b;
  all_given = e;
  all_pairs = subst (All (λ p. IsHeldPair log.entries given p → Contains pairs p)) es g;
  all_lemmas = subst (All (IsDecided log.clauses s.makers held)) ls (subst (λ (l : List ℕ). All (IsDecided log.clauses l held) lemmas) ms k);
}
