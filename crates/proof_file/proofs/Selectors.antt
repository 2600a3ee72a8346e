-- A selector is the variable that the step of its assertion made, and no other assertion has it.
use Rattle.std.proofs.Common.{◌≡◌, ℕ, zero, suc, List, [], ◌∷◌, take, Some, sym, ap, ◌∙◌, subst, arith}
use Rattle.std.specs.Prelude.{Contains, slice_get}
use Rattle.std.proofs.lemmas.Option.{slice_get-get_or}
use Rattle.cnf_base.specs.Literals.{positive_of}
use Rattle.smt_terms.specs.declared.node.Node.{Node}
use Rattle.smt_terms.specs.Terms.{IsTermList}
use Rattle.proof_log.specs.declared.entry.Entry.{Entry}
use Rattle.proof_log.specs.declared.entry.Entry.TheVariants as step
use Rattle.proof_log.specs.Logs.{Asserted, LogState, start, IsStep, AreSteps, IsLog, selector_after, after, state_from, state_of}
use Rattle.proof_log.specs.Meanings.{Owns}
use Rattle.proof_log.specs.Stored.{LogValue, selector_in, literal_of, Stands}
use Rattle.proof_log.proofs.Staying.{steps_hold}
use Rattle.proof_log.proofs.Standing.{value_here, stands_over}
use Rattle.proof_log.proofs.Ordered.{log_is_ordered}
use Rattle.proof_log.proofs.Selecting.{log_selects}
use Rattle.proof_file.specs.Indexed.{IsSelectorOf}
use Rattle.proof_file.specs.Noting.{assertion_of}

abbrev pub asserted : ℕ → ℕ → Asserted
asserted x t = record { literal = positive_of x; term = t }

-- what a step that makes a selector leaves
pub made_from : (nodes : List Node) (s : LogState) (log : List Entry) (p a t : ℕ) → AreSteps nodes s log → slice_get log p ≡ Some (step.Selector a t)
    → ((state_from nodes s log).selectors a ≡ Some (asserted (state_from nodes s (take p log)).next t)) × ((state_from nodes s (take (suc p) log)).next ≡ suc (state_from nodes s (take p log)).next)
made_from nodes s [] p a t h g = let f : ⊥ = cc in absurd f
made_from nodes s (d ∷ log) zero a t h g =
    let q : d ≡ step.Selector a t = cc in
    let i : IsStep nodes s (step.Selector a t) = subst (IsStep nodes s) q h.0 in
    let left : after nodes s d ≡ selector_after s a t (Some (i.bit ∷ [])) = ap (after nodes s) q ∙ ap (selector_after s a t) i.encoded in
    let own : (after nodes s d).selectors a ≡ Some (asserted s.next t) = ap (λ (r : LogState). r.selectors a) left ∙ value_here s.selectors a (asserted s.next t) in
    ((steps_hold nodes (after nodes s d) log h.1).selectors a (asserted s.next t) own, ap (λ (r : LogState). r.next) left)
made_from nodes s (d ∷ log) (suc p) a t h g = made_from nodes (after nodes s d) log p a t h.1 g

pub found_at : {A : Type 0} (xs : List A) (x : A) (c : Contains xs x) → slice_get xs c.0 ≡ Some x
found_at xs x c = slice_get-get_or xs c.0 x c.1 ∙ ap Some c.2

pub assertion_is : (e : Entry) (a : ℕ) → assertion_of e ≡ Some a → (t : ℕ) × (e ≡ step.Selector a t)
assertion_is (step.Selector b t) a h = let q : b ≡ a = cc in (t, ap (λ x. step.Selector x t) q)
assertion_is e a h = let f : ⊥ = cc in absurd f

module _ (nodes : List Node) (log : List Entry) (is : IsLog nodes log) where
  pub has_selector : (p a t : ℕ) → slice_get log p ≡ Some (step.Selector a t) → (x : ℕ) × IsSelectorOf nodes log a x
  has_selector p a t g = ((state_of nodes (take p log)).next, (t, (made_from nodes start log p a t is g).0))

  -- the step that made a selector
  owner : (a x : ℕ) → IsSelectorOf nodes log a x → (p : ℕ) × (t : ℕ) × (slice_get log p ≡ Some (step.Selector a t)) × Owns nodes log p x
  owner a x h =
      let among : Contains log (step.Selector a h.0) = (log_selects nodes log a (asserted x h.0) h.1).1 in
      let at : slice_get log among.0 ≡ Some (step.Selector a h.0) = found_at log (step.Selector a h.0) among in
      let made = made_from nodes start log among.0 a h.0 is at in
      let both : Some (asserted (state_of nodes (take among.0 log)).next h.0) ≡ Some (asserted x h.0) = sym made.0 ∙ h.1 in
      let inner : asserted (state_of nodes (take among.0 log)).next h.0 ≡ asserted x h.0 = cc in
      let same : (state_of nodes (take among.0 log)).next ≡ x = ap (λ (r : Asserted). r.literal.variable) inner in
      (among.0, h.0, at, record { step = among.1; from = omega (arith, same); upto = let up = made.1 in omega (arith, same, up) })

  pub one_assertion : IsTermList nodes → (a b x : ℕ) → IsSelectorOf nodes log a x → IsSelectorOf nodes log b x → a ≡ b
  one_assertion list a b x h k =
      let f = owner a x h in
      let g = owner b x k in
      let q : f.0 ≡ g.0 = (log_is_ordered nodes log list is).once x f.0 g.0 f.3 g.3 in
      let e : Some (step.Selector a f.1) ≡ Some (step.Selector b g.1) = sym f.2 ∙ ap (slice_get log) q ∙ g.2 in
      let inner : a ≡ b = cc in inner

-- the selector that a stored log tells
pub told_selector : (nodes : List Node) (log : LogValue) → Stands nodes log → (a t : ℕ) → Contains log.entries (step.Selector a t)
    → (x : ℕ) × IsSelectorOf nodes log.entries a x × (selector_in log.selectors a ≡ Some (positive_of x))
told_selector nodes log stands a t c =
    let kept = stands_over nodes log stands in
    let s = has_selector nodes log.entries kept.steps c.0 a t (found_at log.entries (step.Selector a t) c) in
    (s.0, s.1, kept.selectors a ∙ ap literal_of s.1.1)
