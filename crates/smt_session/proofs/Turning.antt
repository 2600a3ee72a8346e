-- The steps of a check are those of a turn, and its record is one that may end it.
use Rattle.std.proofs.Common.{◌≡◌, ℕ, List, [], ◌∷◌, ◌++◌, refl, sym, ap, ◌∙◌, subst, inl, inr, ⊎_elim, arith}
use Rattle.std.specs.Prelude.{◌⊎◌, Contains}
use Rattle.std.specs.List.{AllByRecursion}
use Rattle.std.proofs.lemmas.List.Elements.{All-weaker, recursion_from_All, Contains-append_cases}
use Rattle.cnf_base.specs.Literals.{Literal, negated}
use Rattle.cnf_base.proofs.Codes.{negated-negated}
use Rattle.smt_terms.specs.Terms.{TermsValue}
use Rattle.script_state.specs.States.{StateValue, assumptions}
use Rattle.proof_log.specs.declared.entry.Entry.{Entry}
use Rattle.proof_log.specs.declared.entry.Entry.TheVariants as step
use Rattle.proof_log.specs.Logs.{LogState, start, clause_at, IsStep, state_of, AreSteps, IsLog}
use Rattle.proof_log.specs.Faults.{IsValid, MakesNoTerm}
use Rattle.proof_log.specs.Stored.{LogValue, Stands}
use Rattle.proof_log.proofs.Standing.{stands_over, some_literal}
use Rattle.proof_log.proofs.Staying.{state_from-append, steps_parts}
use Rattle.cube_tree.specs.Closing.{Closes}
use Rattle.accepted_proof.specs.Turns.{AreStepsOf, with_step, with_steps, IsAgainstOne, IsRefutation}
use Rattle.proof_file.specs.Files.{AreLined}
use Rattle.smt_session.specs.Growing.{AreStepsFor, Grows, AreGiven}
use Rattle.smt_session.proofs.Staying.{selector_of, selector_stays, bit_stays}
use Rattle.smt_session.proofs.Giving.{bit_of}

-- ---- the steps

-- each step for the script has a line
pub log_lined : (s : StateValue) (es : List Entry) → AreStepsFor s es → AreLined es
log_lined s [] h = tt
log_lined s (e ∷ es) h = (h.0.1, log_lined s es h.1)

valid : (v : TermsValue) (s : LogState) (e : Entry) → MakesNoTerm e → IsStep v.nodes s e → IsValid v s e
valid v s (step.Node n) h i = absurd (h refl)
valid v s e h i = i

same_state : (s : StateValue) (e : Entry) → MakesNoTerm e → with_step s e ≡ s
same_state s (step.Node n) h = absurd (h refl)
same_state s e h = refl

-- steps that make no term leave the state
pub same_after : (s : StateValue) (es : List Entry) → AllByRecursion MakesNoTerm es → with_steps s es ≡ s
same_after s [] h = refl
same_after s (e ∷ es) h = ap (λ r. with_steps r es) (same_state s e h.0) ∙ same_after s es h.1

steps_of : (s : StateValue) (log es : List Entry) → AreSteps s.terms.nodes (state_of s.terms.nodes log) es → AreStepsFor s es → AllByRecursion MakesNoTerm es → AreStepsOf s log es
steps_of s log [] i h n = tt
steps_of s log (e ∷ es) i h n =
    let rest = steps_of s (log ++ e ∷ []) es (subst (λ r. AreSteps s.terms.nodes r es) (sym (state_from-append s.terms.nodes start log (e ∷ []))) i.1) h.1 n.1 in
    (valid s.terms (state_of s.terms.nodes log) e n.0 i.0, h.0.0, h.0.1, subst (λ r. AreStepsOf r (log ++ e ∷ []) es) (sym (same_state s e n.0)) rest)

pub are_steps : (s : StateValue) (old new : LogValue) (g : Grows s old new) → AreStepsOf s old.entries g.added
are_steps s old new g =
    let log = subst (IsLog s.terms.nodes) g.entries (stands_over s.terms.nodes new g.stands).steps in
    steps_of s old.entries g.added (steps_parts s.terms.nodes start old.entries g.added log).1 g.each g.still

-- ---- refutations

-- a given literal is the selector of a live assertion, or the bit of an assumption
given_of : (s : StateValue) (old new : LogValue) (given : List Literal) (l : Literal) → Stands s.terms.nodes old → Grows s old new → AreGiven s old given → Contains given (negated l) → IsAgainstOne s s.terms.nodes new.entries l
given_of s old new given l h g e among =
    ⊎_elim
    (λ (c : Contains e.selectors (negated l)).
    (let a = selector_of old s.scopes.live e.selectors (negated l) c.0 e.chosen c.1 c.2 in
    let now = selector_stays s old new a.0.assertion (negated l) h g a.2 in
    let r = some_literal _ (negated l) (sym ((stands_over s.terms.nodes new g.stands).selectors a.0.assertion) ∙ now) in
    inl (record { assertion = a.0; live = a.1; selector = r.0; made = r.1; negation = sym (ap negated r.2 ∙ negated-negated l) })))
    (λ (c : Contains e.bits (negated l)).
    (let a = bit_of old (assumptions s) e.bits (negated l) c.0 e.assumed c.1 c.2 in
    let now = bit_stays s old new a.0.term (negated l ∷ []) h g a.2 in
    inr (record { assumption = a.0; assumed = a.1; bit = negated l; bits = sym ((stands_over s.terms.nodes new g.stands).bits a.0.term) ∙ now; negation = sym (negated-negated l) })))
    (Contains-append_cases e.selectors e.bits (negated l) (subst (λ (xs : List Literal). Contains xs (negated l)) e.all among))

against : (s : StateValue) (old new : LogValue) (given : List Literal) (c : List Literal) → Stands s.terms.nodes old → Grows s old new → AreGiven s old given → AllByRecursion (λ l. Contains given (negated l)) c → AllByRecursion (IsAgainstOne s s.terms.nodes new.entries) c
against s old new given [] h g e all = tt
against s old new given (l ∷ c) h g e all = (given_of s old new given l h g e all.0, against s old new given c h g e all.1)

-- a clause of opposites of given literals alone
pub refutation : (s : StateValue) (old new : LogValue) (given : List Literal) (at : ℕ) → Stands s.terms.nodes old → Grows s old new → AreGiven s old given
    → Closes (clause_at (state_of s.terms.nodes new.entries).clauses) given [] at → IsRefutation s s.terms.nodes new.entries at
refutation s old new given at h g e closes = record {
  clause = closes.clause;
  stands = closes.found;
  against =
      against s old new given closes.clause h g e
      (recursion_from_All (λ l. Contains given (negated l)) closes.clause
      (All-weaker (λ l. Contains [] (negated l) ⊎ Contains given (negated l)) (λ l. Contains given (negated l)) (λ l. ⊎_elim (λ q. absurd (omega (arith, q.1))) (λ q. q)) closes.clause closes.closing));
}
