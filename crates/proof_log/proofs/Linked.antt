-- The images of a log: each is that of a step of rewriting, and has the value of its term.
use Rattle.std.proofs.Common.{◌≡◌, ℕ, List, [], ◌∷◌, ◌++◌, append_assoc, append-nil, Option, Some, None, Result, Ok, Err, refl, sym, ap, ◌∙◌, subst, inl, inr, ⊎_elim}
use Rattle.std.specs.Prelude.{◌⊎◌}
use Rattle.cnf_base.specs.Literals.{Literal}
use Rattle.cnf_base.proofs.Options.{some_value}
use Rattle.smt_terms.specs.declared.node.Node.{Node}
use Rattle.smt_terms.specs.Nodes.{node_at}
use Rattle.smt_terms.specs.Terms.{IsTermList, AreDifferent}
use Rattle.smt_terms.specs.Bits.{image_in}
use Rattle.bv_rules.specs.Matches.{IsImage, AreImages}
use Rattle.bv_rules.proofs.Keeping.{makes_image}
use Rattle.bit_blast.specs.Blocks.{Block, block_of}
use Rattle.theory_lemmas.specs.declared.fault.LemmaFault.{LemmaFault}
use Rattle.theory_lemmas.specs.Clauses.{clause_of}
use Rattle.proof_log.specs.declared.entry.RuleUse.{RuleUse}
use Rattle.proof_log.specs.declared.entry.Entry.{Entry}
use Rattle.proof_log.specs.declared.entry.Entry.TheVariants as step
use Rattle.proof_log.specs.Logs.{LogState, start, leaf_width, IsStep, IsRewrite, leaf_after, block_after, selector_after, equal_after, rewrite_after, lemma_after, after, state_from, state_of, AreSteps, IsLog}
use Rattle.proof_log.specs.Meanings.{IsLinked, AreLinked}
use Rattle.proof_log.specs.Stored.{LogValue, Stands}
use Rattle.proof_log.proofs.Sound.{with_value_cases}
use Rattle.proof_log.proofs.Staying.{state_from-append, step_holds, log_stays}
use Rattle.proof_log.proofs.Standing.{stands_over, value_here}

-- ---- the step that gave an image

leaf_images : (s : LogState) (t : ℕ) (o : Option ℕ) → (leaf_after s t o).images ≡ s.images
leaf_images s t None = refl
leaf_images s t (Some n) = refl

block_images : (s : LogState) (t : ℕ) (o : Option Block) → (block_after s t o).images ≡ s.images
block_images s t None = refl
block_images s t (Some b) = refl

selector_images : (s : LogState) (a t : ℕ) (o : Option (List Literal)) → (selector_after s a t o).images ≡ s.images
selector_images s a t None = refl
selector_images s a t (Some []) = refl
selector_images s a t (Some (b ∷ bs)) = refl

equal_images : (s : LogState) (t u : ℕ) (o p : Option (List Literal)) → (equal_after s t u o p).images ≡ s.images
equal_images s t u None p = refl
equal_images s t u (Some a) None = refl
equal_images s t u (Some a) (Some b) = refl

lemma_images : (s : LogState) (o : Result (List Literal) LemmaFault) → (lemma_after s o).images ≡ s.images
lemma_images s (Err f) = refl
lemma_images s (Ok c) = refl

-- the step rewrites this term to that one
abbrev pub IsRewriteOf : Entry → ℕ → ℕ → Type 0
IsRewriteOf e t u = (r : RuleUse) × (e ≡ step.Rewrite r) × (t ≡ r.from) × (r.to ≡ u)

rewrite_image : (s : LogState) (r : RuleUse) (o : Option (List Literal)) (t u : ℕ) → (rewrite_after s r o).images t ≡ Some u → (s.images t ≡ Some u) ⊎ IsRewriteOf (step.Rewrite r) t u
rewrite_image s r None t u e = inl e
rewrite_image s r (Some b) t u e = ⊎_elim (λ p. inr (r, refl, p.0, p.1)) (λ p. inl p) (with_value_cases s.images r.from r.to t u e)

-- an image that stands after a step stood before, or the step gave it
image_cases : (nodes : List Node) (s : LogState) (e : Entry) (t u : ℕ) → (after nodes s e).images t ≡ Some u → (s.images t ≡ Some u) ⊎ IsRewriteOf e t u
image_cases nodes s (step.Leaf x) t u e = inl (ap (λ f. f t) (sym (leaf_images s x (leaf_width nodes x))) ∙ e)
image_cases nodes s (step.Encode x) t u e = inl (ap (λ f. f t) (sym (block_images s x (block_of s.next s.bits (node_at nodes x)))) ∙ e)
image_cases nodes s (step.Selector a x) t u e = inl (ap (λ f. f t) (sym (selector_images s a x (s.bits x))) ∙ e)
image_cases nodes s (step.Equal x y) t u e = inl (ap (λ f. f t) (sym (equal_images s x y (s.bits x) (s.bits y))) ∙ e)
image_cases nodes s (step.Lemma l) t u e = inl (ap (λ f. f t) (sym (lemma_images s (clause_of nodes s.bits s.equals l))) ∙ e)
image_cases nodes s (step.Rewrite r) t u e = rewrite_image s r (s.bits r.to) t u e
image_cases nodes s (step.Node n) t u e = inl e
image_cases nodes s (step.Chain c hints) t u e = inl e

-- ---- values

module _ (nodes : List Node) (all : IsTermList nodes) (different : AreDifferent nodes) where
  step_images : (s : LogState) (e : Entry) → AreImages nodes s.images → IsStep nodes s e → AreImages nodes (after nodes s e).images
  step_images s e h i t u q =
      ⊎_elim
      (λ old. h t u old)
      (λ new.
      let r = new.0 in
      let k : IsRewrite nodes s r = subst (IsStep nodes s) new.1 i in
      subst (λ x. IsImage nodes x u) (sym new.2) (subst (IsImage nodes r.from) new.3 (makes_image nodes s.images k.ruled.rule r.from r.to all different h k.ruled.takes)))
      (image_cases nodes s e t u q)

  steps_images : (s : LogState) (log : List Entry) → AreImages nodes s.images → AreSteps nodes s log → AreImages nodes (state_from nodes s log).images
  steps_images s [] h i = h
  steps_images s (e ∷ log) h i = steps_images (after nodes s e) log (step_images s e h i.0) i.1

pub images_are : (nodes : List Node) (log : List Entry) → IsTermList nodes → AreDifferent nodes → IsLog nodes log → AreImages nodes (state_of nodes log).images
images_are nodes log all different i = steps_images nodes all different start log (λ t u e. let q : ⊥ = cc in absurd q) i

pub stored_images_are : (nodes : List Node) (l : LogValue) → IsTermList nodes → AreDifferent nodes → Stands nodes l → AreImages nodes (image_in l.bits)
stored_images_are nodes l all different h t u e =
    let k = stands_over nodes l h in
    images_are nodes l.entries all different k.steps t u (sym (k.images t) ∙ e)

-- ---- links

goes_on : (nodes : List Node) (log : List Entry) (e : Entry) → state_of nodes (log ++ e ∷ []) ≡ after nodes (state_of nodes log) e
goes_on nodes log e = state_from-append nodes start log (e ∷ [])

-- the terms of a step of rewriting
new_link : (nodes : List Node) (log : List Entry) (r : RuleUse) → IsRewrite nodes (state_of nodes log) r → IsLinked nodes (log ++ step.Rewrite r ∷ []) r.from r.to
new_link nodes log r i =
    let s = state_of nodes log in
    let b = some_value ((state_of nodes log).bits r.to) i.held in
    record {
      before = log;
      more = [];
      rule = r.rule;
      parts = refl;
      bits = b.0;
      earlier = b.1;
      own = ap (λ x. x.bits r.from) (goes_on nodes log (step.Rewrite r) ∙ ap (rewrite_after s r) b.1) ∙ value_here s.bits r.from b.0;
    }

-- what was linked before a step stays so
old_link : (nodes : List Node) (log : List Entry) (e : Entry) (t u : ℕ) → IsStep nodes (state_of nodes log) e → IsLinked nodes log t u → IsLinked nodes (log ++ e ∷ []) t u
old_link nodes log e t u i k = record {
  before = k.before;
  more = k.more ++ e ∷ [];
  rule = k.rule;
  parts = ap (λ l. l ++ e ∷ []) k.parts ∙ append_assoc k.before (step.Rewrite (record { rule = k.rule; from = t; to = u }) ∷ k.more) (e ∷ []);
  bits = k.bits;
  earlier = k.earlier;
  own = ap (λ x. x.bits t) (goes_on nodes log e) ∙ (step_holds nodes (state_of nodes log) e i).bits t k.bits k.own;
}

step_linked : (nodes : List Node) (log : List Entry) (e : Entry) → AreLinked nodes log → IsStep nodes (state_of nodes log) e → AreLinked nodes (log ++ e ∷ [])
step_linked nodes log e h i t u q =
    ⊎_elim
    (λ old. old_link nodes log e t u i (h t u old))
    (λ new.
    let r = new.0 in
    let k : IsRewrite nodes (state_of nodes log) r = subst (IsStep nodes (state_of nodes log)) new.1 i in
    let is = new_link nodes log r k in
    subst (λ d. IsLinked nodes (log ++ d ∷ []) t u) (sym new.1)
    (subst (λ x. IsLinked nodes (log ++ step.Rewrite r ∷ []) x u) (sym new.2) (subst (IsLinked nodes (log ++ step.Rewrite r ∷ []) r.from) new.3 is)))
    (image_cases nodes (state_of nodes log) e t u (ap (λ x. x.images t) (sym (goes_on nodes log e)) ∙ q))

steps_linked : (nodes : List Node) (before log : List Entry) → AreLinked nodes before → AreSteps nodes (state_of nodes before) log → AreLinked nodes (before ++ log)
steps_linked nodes before [] h i = subst (AreLinked nodes) (sym (append-nil before)) h
steps_linked nodes before (e ∷ log) h i =
    subst (AreLinked nodes) (append_assoc before (e ∷ []) log)
    (steps_linked nodes (before ++ e ∷ []) log (step_linked nodes before e h i.0) (subst (λ s. AreSteps nodes s log) (sym (goes_on nodes before e)) i.1))

pub log_linked : (nodes : List Node) (log : List Entry) → IsLog nodes log → AreLinked nodes log
log_linked nodes log i = steps_linked nodes [] log (λ t u e. let q : ⊥ = cc in absurd q) i

-- the image has these bits too
pub linked_bits : (nodes : List Node) (log : List Entry) (t u : ℕ) → IsLog nodes log → (k : IsLinked nodes log t u) → (state_of nodes log).bits u ≡ Some k.bits
linked_bits nodes log t u i k =
    let last = step.Rewrite (record { rule = k.rule; from = t; to = u }) ∷ k.more in
    let stays = log_stays nodes k.before last (subst (IsLog nodes) k.parts i) in
    ap (λ l. (state_of nodes l).bits u) k.parts ∙ stays.bits u k.bits k.earlier

-- a term with an image has bits
pub image_has_bits : (nodes : List Node) (log : List Entry) (t : ℕ) → IsLog nodes log → (state_of nodes log).bits t ≡ None → (state_of nodes log).images t ≡ None
image_has_bits nodes log t i none = go ((state_of nodes log).images t) refl
  where
    go : (o : Option ℕ) → (state_of nodes log).images t ≡ o → (state_of nodes log).images t ≡ None
    go None e = e
    go (Some u) e =
        let own = (log_linked nodes log i t u e).own in
        let q : ⊥ = cc in absurd q
