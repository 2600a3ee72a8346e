-- What information is said, by the keyword.
use Rattle.std.proofs.Common.{◌≡◌, ℕ, Bool, true, false, List, ◌++◌, sym, subst, ◌∙◌, Option, Some, Result}
use Rattle.std.specs.Prelude.{codes}
use Rattle.std.specs.Fmt.{decimal}
use Rattle.std.specs.Str.{bytes_eq}
use Rattle.std.specs.declared.alloc.AllocError.{AllocError}
use Rattle.script_state.specs.declared.answer.Answer.{Answer}
use Rattle.script_state.specs.declared.answer.Verdict.{Verdict}
use Rattle.script_state.specs.declared.answer.Verdict.TheVariants.{Unknown}
use Rattle.script_state.specs.States.{StateValue}
use Rattle.script_state.specs.Steps.{saying, telling, telling_reason, Answers}

-- a test of a keyword against a text that is known
pub tested : (x y z : List ℕ) (r b : Bool) → r ≡ bytes_eq x y → y ≡ z → r ≡ b → bytes_eq x z ≡ b
tested x y z r b e f h = rw f at (sym e ∙ h)

module _ (s : StateValue) (x : List ℕ) (r : Result Answer AllocError) where
  pub tells_name : bytes_eq x (codes ":name") ≡ true → Answers (saying s (codes "(:name \"smt_tool\")")) r s s → Answers (telling s x) r s s
  tells_name is said = rw is said

  module _ (no_name : bytes_eq x (codes ":name") ≡ false) where
    pub tells_version : bytes_eq x (codes ":version") ≡ true → Answers (saying s (codes "(:version \"1\")")) r s s → Answers (telling s x) r s s
    tells_version is said = rw (no_name, is) said

    module _ (no_version : bytes_eq x (codes ":version") ≡ false) where
      pub tells_behavior : bytes_eq x (codes ":error-behavior") ≡ true → Answers (saying s (codes "(:error-behavior continued-execution)")) r s s → Answers (telling s x) r s s
      tells_behavior is said = rw (no_name, no_version, is) said

      module _ (no_behavior : bytes_eq x (codes ":error-behavior") ≡ false) where
        pub tells_levels : bytes_eq x (codes ":assertion-stack-levels") ≡ true → (n : ℕ) → n ≡ s.scopes.levels → Answers (saying s (codes "(:assertion-stack-levels " ++ decimal n ++ codes ")")) r s s → Answers (telling s x) r s s
        tells_levels is n e said = rw (no_name, no_version, no_behavior, is) (subst (λ (m : ℕ). Answers (saying s (codes "(:assertion-stack-levels " ++ decimal m ++ codes ")")) r s s) e said)

-- the answer of the check that stands is unknown
pub tells_reason : (s : StateValue) (o : Option Verdict) (v : Verdict) (r : Result Answer AllocError) → o ≡ Some v → v ≡ Unknown → Answers (saying s (codes "(:reason-unknown incomplete)")) r s s → Answers (telling_reason s o) r s s
tells_reason s o v r e f said = rw (e, f) said
