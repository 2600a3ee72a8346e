-- Of a check to which both texts were fed whole.
use Rattle.std.proofs.Common.{◌≡◌, ℕ, ◌<◌, true, List, [], ◌++◌, Option, refl, sym, ◌∙◌, subst, append-nil}
use Rattle.script_state.specs.declared.answer.Verdict.{Verdict}
use Rattle.accepted_proof.specs.declared.refusal.Refusal.{Refusal}
use Rattle.proof_checker.specs.Checked.{IsJudged}
use Rattle.proof_checker.specs.Checkings.{AreToCome, AreEnded, Judges, Stops, verdicts_by, held_by}
use Rattle.proof_checker.specs.declared.checking.Checking.{Checking}
use Rattle.proof_checker.specs.declared.checking.Judgement.{Judgement}
use Rattle.proof_checker.specs.declared.checking.Progress.{Progress}
use Rattle.proof_checker.specs.declared.checking.Progress.TheVariants as progress

-- nothing is still to come, and what is judged from here is judged of the whole
pub record IsUnderWay (script proof : List ℕ) (c : Checking) : Type 0 where
  pub judged : (vs : List Verdict) (o : Option Refusal) → Judges c [] [] vs o → IsJudged script proof vs o
  pub ended : AreEnded c true true

nothing_comes : (c : Checking) → AreToCome c.inputs [] []
nothing_comes c = record { script = λ e. refl; proof = λ e. refl }

-- Both texts are fed, and then they end.
module _ (script proof : List ℕ) (c0 c1 c2 c3 c4 : Checking) where
  pub way_fed :
      ((t l : List ℕ) (vs : List Verdict) (o : Option Refusal) → Judges c0 t l vs o → IsJudged t l vs o)
      → ((t l : List ℕ) (vs : List Verdict) (o : Option Refusal) → Judges c1 t l vs o → Judges c0 (script ++ t) l vs o)
      → ((t l : List ℕ) (vs : List Verdict) (o : Option Refusal) → Judges c2 t l vs o → Judges c1 t l vs o)
      → ((t l : List ℕ) (vs : List Verdict) (o : Option Refusal) → Judges c3 t l vs o → Judges c2 t (proof ++ l) vs o)
      → ((t l : List ℕ) (vs : List Verdict) (o : Option Refusal) → Judges c4 t l vs o → Judges c3 t l vs o)
      → AreEnded c2 true c1.inputs.proof_ended
      → AreEnded c3 c2.inputs.script_ended c2.inputs.proof_ended
      → AreEnded c4 c3.inputs.script_ended true
      → IsUnderWay script proof c4
  way_fed j0 j1 j2 j3 j4 e2 e3 e4 = record {
    judged = λ vs o h.
        let whole = j0 (script ++ []) (proof ++ []) vs o (j1 [] (proof ++ []) vs o (j2 [] (proof ++ []) vs o (j3 [] [] vs o (j4 [] [] vs o h)))) in
        subst (λ (t : List ℕ). IsJudged t proof vs o) (append-nil script)
        (subst (λ (l : List ℕ). IsJudged (script ++ []) l vs o) (append-nil proof) whole);
    ended = record { script = e4.script ∙ e3.script ∙ e2.script; proof = e4.proof };
  }

module _ (script proof : List ℕ) (c : Checking) (w : IsUnderWay script proof c) (p : Progress) (s : Stops c.inputs c.checker p) where
  -- a record is shown
  pub way_shown : (d : Checking) (v : Verdict) → p ≡ progress.Shown d v → IsUnderWay script proof d × (held_by d.inputs < held_by c.inputs)
  way_shown d v e =
      let h = subst (λ (x : Progress). Stops c.inputs c.checker x) e s in (
        record {
          judged = λ vs o j. w.judged vs o (h.0.judged [] [] vs o (nothing_comes c) j);
          ended = record { script = h.0.script ∙ w.ended.script; proof = h.0.proof ∙ w.ended.proof };
        },
        h.3,
      )

  pub way_done : (j : Judgement) → p ≡ progress.Done j → IsJudged script proof (verdicts_by j.checker) j.refusal
  way_done j e =
      let h = subst (λ (x : Progress). Stops c.inputs c.checker x) e s in
      w.judged (verdicts_by j.checker) j.refusal (h.0 [] [] (nothing_comes c))

  -- no more is asked for
  pub no_script : (d : Checking) → p ≡ progress.Script d → ⊥
  no_script d e =
      let h = subst (λ (x : Progress). Stops c.inputs c.checker x) e s in
      let x = sym h.2 ∙ h.0.script ∙ w.ended.script in
      let z : ⊥ = cc in z

  pub no_proof : (d : Checking) → p ≡ progress.Proof d → ⊥
  no_proof d e =
      let h = subst (λ (x : Progress). Stops c.inputs c.checker x) e s in
      let x = sym h.2 ∙ h.0.proof ∙ w.ended.proof in
      let z : ⊥ = cc in z
