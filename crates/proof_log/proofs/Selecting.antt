-- Each selector is a variable that a step of the log made for its assertion.
use Rattle.std.proofs.Common.{◌≡◌, ℕ, true, List, [], ◌∷◌, ◌++◌, append_assoc, Option, Some, None, Result, Ok, Err, refl, sym, subst, ⊎_elim}
use Rattle.std.specs.Prelude.{Contains}
use Rattle.std.proofs.lemmas.List.Elements.{Contains-append_left, Contains-push}
use Rattle.cnf_base.specs.Literals.{Literal, positive_of, true_literal}
use Rattle.cnf_base.specs.Choices.{equal_bit}
use Rattle.smt_terms.specs.declared.node.Node.{Node}
use Rattle.smt_terms.specs.Nodes.{node_at}
use Rattle.bit_blast.specs.Blocks.{Block, block_of}
use Rattle.theory_lemmas.specs.declared.fault.LemmaFault.{LemmaFault}
use Rattle.theory_lemmas.specs.Clauses.{clause_of}
use Rattle.proof_log.specs.declared.entry.RuleUse.{RuleUse}
use Rattle.proof_log.specs.declared.entry.Entry.{Entry}
use Rattle.proof_log.specs.declared.entry.Entry.TheVariants as step
use Rattle.proof_log.specs.Logs.{Asserted, LogState, start, leaf_width, leaf_after, block_after, selector_after, equal_after, rewrite_after, lemma_after, after, state_from, state_of}
use Rattle.proof_log.proofs.Sound.{with_value_cases, pair_cases}

-- the selector is a variable, and the step that made it is among these
abbrev pub IsMadeIn : List Entry → ℕ → Asserted → Type 0
IsMadeIn log a r = (r.literal.positive ≡ true) × Contains log (step.Selector a r.term)

abbrev pub AreMadeIn : List Entry → (ℕ → Option Asserted) → Type 0
AreMadeIn log selectors = (a : ℕ) (r : Asserted) → selectors a ≡ Some r → IsMadeIn log a r

more_made : (log : List Entry) (e : Entry) (selectors : ℕ → Option Asserted) → AreMadeIn log selectors → AreMadeIn (log ++ e ∷ []) selectors
more_made log e selectors h a r g = let k = h a r g in (k.0, Contains-append_left log (e ∷ []) (step.Selector a r.term) k.1)

leaf_same : (s : LogState) (t : ℕ) (o : Option ℕ) → (leaf_after s t o).selectors ≡ s.selectors
leaf_same s t None = refl
leaf_same s t (Some n) = refl

block_same : (s : LogState) (t : ℕ) (o : Option Block) → (block_after s t o).selectors ≡ s.selectors
block_same s t None = refl
block_same s t (Some b) = refl

selector_made : (log : List Entry) (s : LogState) (a t : ℕ) (o : Option (List Literal)) → AreMadeIn log s.selectors → AreMadeIn (log ++ step.Selector a t ∷ []) (selector_after s a t o).selectors
selector_made log s a t None h = more_made log (step.Selector a t) s.selectors h
selector_made log s a t (Some []) h = more_made log (step.Selector a t) s.selectors h
selector_made log s a t (Some (b ∷ bs)) h = λ x r g.
    let new : Asserted = record { literal = positive_of s.next; term = t } in
    let own : IsMadeIn (log ++ step.Selector a t ∷ []) a (record { literal = positive_of s.next; term = t }) = (refl, Contains-push log (step.Selector a t)) in
    ⊎_elim
    (λ p. subst (λ y. IsMadeIn (log ++ step.Selector a t ∷ []) y r) (sym p.0) (subst (IsMadeIn (log ++ step.Selector a t ∷ []) a) p.1 own))
    (λ p. more_made log (step.Selector a t) s.selectors h x r p)
    (with_value_cases s.selectors a new x r g)

equal_same : (s : LogState) (t u : ℕ) (o p : Option (List Literal)) → (equal_after s t u o p).selectors ≡ s.selectors
equal_same s t u None p = refl
equal_same s t u (Some a) None = refl
equal_same s t u (Some a) (Some b) = refl

rewrite_same : (s : LogState) (r : RuleUse) (o : Option (List Literal)) → (rewrite_after s r o).selectors ≡ s.selectors
rewrite_same s r None = refl
rewrite_same s r (Some b) = refl

lemma_same : (s : LogState) (o : Result (List Literal) LemmaFault) → (lemma_after s o).selectors ≡ s.selectors
lemma_same s (Err f) = refl
lemma_same s (Ok c) = refl

step_made : (nodes : List Node) (log : List Entry) (s : LogState) (e : Entry) → AreMadeIn log s.selectors → AreMadeIn (log ++ e ∷ []) (after nodes s e).selectors
step_made nodes log s (step.Leaf t) h =
    subst (AreMadeIn (log ++ step.Leaf t ∷ [])) (sym (leaf_same s t (leaf_width nodes t))) (more_made log (step.Leaf t) s.selectors h)
step_made nodes log s (step.Encode t) h =
    subst (AreMadeIn (log ++ step.Encode t ∷ [])) (sym (block_same s t (block_of s.next s.bits (node_at nodes t)))) (more_made log (step.Encode t) s.selectors h)
step_made nodes log s (step.Selector a t) h = selector_made log s a t (s.bits t) h
step_made nodes log s (step.Equal t u) h =
    subst (AreMadeIn (log ++ step.Equal t u ∷ [])) (sym (equal_same s t u (s.bits t) (s.bits u))) (more_made log (step.Equal t u) s.selectors h)
step_made nodes log s (step.Rewrite r) h =
    subst (AreMadeIn (log ++ step.Rewrite r ∷ [])) (sym (rewrite_same s r (s.bits r.to))) (more_made log (step.Rewrite r) s.selectors h)
step_made nodes log s (step.Lemma l) h =
    subst (AreMadeIn (log ++ step.Lemma l ∷ [])) (sym (lemma_same s (clause_of nodes s.bits s.equals l))) (more_made log (step.Lemma l) s.selectors h)
step_made nodes log s e h = more_made log e s.selectors h

steps_made : (nodes : List Node) (before : List Entry) (s : LogState) (log : List Entry) → AreMadeIn before s.selectors → AreMadeIn (before ++ log) (state_from nodes s log).selectors
steps_made nodes before s [] h = λ a r g. let k = h a r g in (k.0, Contains-append_left before [] (step.Selector a r.term) k.1)
steps_made nodes before s (e ∷ log) h =
    subst (λ l. AreMadeIn l (state_from nodes (after nodes s e) log).selectors) (append_assoc before (e ∷ []) log)
    (steps_made nodes (before ++ e ∷ []) (after nodes s e) log (step_made nodes before s e h))

pub log_selects : (nodes : List Node) (log : List Entry) → AreMadeIn log (state_of nodes log).selectors
log_selects nodes log = steps_made nodes [] start log (λ a r g. let q : ⊥ = cc in absurd q)

-- ---- equalities

-- the step that made the variable of an equality is among these
abbrev pub ArePairedIn : List Entry → (ℕ → ℕ → Option Literal) → Type 0
ArePairedIn log equals = (t u : ℕ) (l : Literal) → equals t u ≡ Some l → Contains log (step.Equal t u)

more_paired : (log : List Entry) (e : Entry) (equals : ℕ → ℕ → Option Literal) → ArePairedIn log equals → ArePairedIn (log ++ e ∷ []) equals
more_paired log e equals h t u l g = Contains-append_left log (e ∷ []) (step.Equal t u) (h t u l g)

leaf_pairs : (s : LogState) (t : ℕ) (o : Option ℕ) → (leaf_after s t o).equals ≡ s.equals
leaf_pairs s t None = refl
leaf_pairs s t (Some n) = refl

block_pairs : (s : LogState) (t : ℕ) (o : Option Block) → (block_after s t o).equals ≡ s.equals
block_pairs s t None = refl
block_pairs s t (Some b) = refl

selector_pairs : (s : LogState) (a t : ℕ) (o : Option (List Literal)) → (selector_after s a t o).equals ≡ s.equals
selector_pairs s a t None = refl
selector_pairs s a t (Some []) = refl
selector_pairs s a t (Some (b ∷ bs)) = refl

rewrite_pairs : (s : LogState) (r : RuleUse) (o : Option (List Literal)) → (rewrite_after s r o).equals ≡ s.equals
rewrite_pairs s r None = refl
rewrite_pairs s r (Some b) = refl

lemma_pairs : (s : LogState) (o : Result (List Literal) LemmaFault) → (lemma_after s o).equals ≡ s.equals
lemma_pairs s (Err f) = refl
lemma_pairs s (Ok c) = refl

equal_paired : (log : List Entry) (s : LogState) (t u : ℕ) (o p : Option (List Literal)) → ArePairedIn log s.equals → ArePairedIn (log ++ step.Equal t u ∷ []) (equal_after s t u o p).equals
equal_paired log s t u None p h = more_paired log (step.Equal t u) s.equals h
equal_paired log s t u (Some a) None h = more_paired log (step.Equal t u) s.equals h
equal_paired log s t u (Some a) (Some b) h = λ x y l g.
    ⊎_elim
    (λ p. subst (λ z. Contains (log ++ step.Equal t u ∷ []) (step.Equal x z)) (sym p.1) (subst (λ z. Contains (log ++ step.Equal t u ∷ []) (step.Equal z u)) (sym p.0) (Contains-push log (step.Equal t u))))
    (λ p. more_paired log (step.Equal t u) s.equals h x y l p)
    (pair_cases s.equals t u (equal_bit s.next true_literal a b) x y l g)

step_paired : (nodes : List Node) (log : List Entry) (s : LogState) (e : Entry) → ArePairedIn log s.equals → ArePairedIn (log ++ e ∷ []) (after nodes s e).equals
step_paired nodes log s (step.Leaf t) h = subst (ArePairedIn (log ++ step.Leaf t ∷ [])) (sym (leaf_pairs s t (leaf_width nodes t))) (more_paired log (step.Leaf t) s.equals h)
step_paired nodes log s (step.Encode t) h =
    subst (ArePairedIn (log ++ step.Encode t ∷ [])) (sym (block_pairs s t (block_of s.next s.bits (node_at nodes t)))) (more_paired log (step.Encode t) s.equals h)
step_paired nodes log s (step.Selector a t) h = subst (ArePairedIn (log ++ step.Selector a t ∷ [])) (sym (selector_pairs s a t (s.bits t))) (more_paired log (step.Selector a t) s.equals h)
step_paired nodes log s (step.Equal t u) h = equal_paired log s t u (s.bits t) (s.bits u) h
step_paired nodes log s (step.Rewrite r) h =
    subst (ArePairedIn (log ++ step.Rewrite r ∷ [])) (sym (rewrite_pairs s r (s.bits r.to))) (more_paired log (step.Rewrite r) s.equals h)
step_paired nodes log s (step.Lemma l) h =
    subst (ArePairedIn (log ++ step.Lemma l ∷ [])) (sym (lemma_pairs s (clause_of nodes s.bits s.equals l))) (more_paired log (step.Lemma l) s.equals h)
step_paired nodes log s e h = more_paired log e s.equals h

steps_paired : (nodes : List Node) (before : List Entry) (s : LogState) (log : List Entry) → ArePairedIn before s.equals → ArePairedIn (before ++ log) (state_from nodes s log).equals
steps_paired nodes before s [] h = λ t u l g. Contains-append_left before [] (step.Equal t u) (h t u l g)
steps_paired nodes before s (e ∷ log) h =
    subst (λ l. ArePairedIn l (state_from nodes (after nodes s e) log).equals) (append_assoc before (e ∷ []) log)
    (steps_paired nodes (before ++ e ∷ []) (after nodes s e) log (step_paired nodes before s e h))

pub log_pairs : (nodes : List Node) (log : List Entry) → ArePairedIn log (state_of nodes log).equals
log_pairs nodes log = steps_paired nodes [] start log (λ t u l g. let q : ⊥ = cc in absurd q)
