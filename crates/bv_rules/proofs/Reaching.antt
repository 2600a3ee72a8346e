-- What a walk along images knows.
use Rattle.std.proofs.Common.{◌≡◌, ℕ, suc, ◌+◌, ◌-◌, ◌<◌, ap, sym, ◌∙◌, arith, Option, Some}
use Rattle.std.specs.Prelude.{◌||◌}
use Rattle.std.proofs.lemmas.Bool.{ne_eqb}
use Rattle.bv_rules.specs.Arguments.{at_some, reaches}

-- a step to the image of another term
pub went : (images : ℕ → Option ℕ) (n i a b c : ℕ) → i < n → (a ≡ b → ⊥) → Some c ≡ images a → reaches images (n - (i + 1)) c b ≡ reaches images (n - i) a b
went images n i a b c lt ne e =
    let m : n - i ≡ suc (n - (i + 1)) = omega arith in
    sym (ap (λ k. reaches images k a b) m ∙ (λ j. ne_eqb a b ne j || at_some (sym e j) (λ d. reaches images (n - (i + 1)) d b)))
