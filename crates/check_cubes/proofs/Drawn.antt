-- A declared term that has bits got them by a step of its own.
use Rattle.std.proofs.Common.{◌≡◌, ℕ, Bool, true, false, List, [], ◌∷◌, Option, Some, None, refl, sym, ap, ◌∙◌, subst, inl, inr, ⊎_elim}
use Rattle.std.specs.Prelude.{◌⊎◌, is_some, IsSome, Contains}
use Rattle.cnf_base.specs.Literals.{Literal}
use Rattle.smt_terms.specs.declared.node.Op.{Op}
use Rattle.smt_terms.specs.declared.node.Op.TheVariants.{Plain, Word, Extract, ZeroExtend, SignExtend, RotateLeft, RotateRight, Repeat, ConstantArray, Constant, Apply, Param}
use Rattle.smt_terms.specs.declared.node.Node.{Node}
use Rattle.smt_terms.specs.Nodes.{node_at}
use Rattle.smt_terms.specs.Terms.{IsTermList, AreDifferent}
use Rattle.bit_blast.specs.Blocks.{Block, all_bits, block_over, block_of}
use Rattle.proof_log.specs.declared.entry.Entry.{Entry}
use Rattle.proof_log.specs.declared.entry.Entry.TheVariants as step
use Rattle.proof_log.specs.declared.entry.RuleUse.{RuleUse}
use Rattle.proof_log.specs.Logs.{LogState, start, constant_width, leaf_width, leaf_after, block_after, selector_after, rewrite_after, after, state_from, state_of, IsRewrite, IsStep, AreSteps, IsLog}
use Rattle.proof_log.proofs.Growth.{added_keeps}
use Rattle.proof_log.proofs.Sound.{with_value_cases}
use Rattle.cnf_base.proofs.Lists.{Contains-first, Contains-later}
use Rattle.check_cubes.proofs.Unruled.{unruled}

-- the operator is a declared Bool or word
abbrev pub IsDeclared : Op → Type 0
IsDeclared op = is_some (constant_width op) ≡ true

not_declared : ◌≡◌ {A = Bool} false true → ⊥
not_declared e = let f : ⊥ = cc in f

-- such an operator has no circuit
no_circuit : (op : Op) (g : ℕ) (o : Option (List (List Literal))) → IsDeclared op → block_over op g o ≡ None
no_circuit (Plain p) g o e = absurd (not_declared e)
no_circuit (Word n x) g o e = absurd (not_declared e)
no_circuit (Extract i j) g o e = absurd (not_declared e)
no_circuit (ZeroExtend i) g o e = absurd (not_declared e)
no_circuit (SignExtend i) g o e = absurd (not_declared e)
no_circuit (RotateLeft i) g o e = absurd (not_declared e)
no_circuit (RotateRight i) g o e = absurd (not_declared e)
no_circuit (Repeat i) g o e = absurd (not_declared e)
no_circuit (ConstantArray k) g o e = absurd (not_declared e)
no_circuit (Constant d s) g None e = refl
no_circuit (Constant d s) g (Some []) e = refl
no_circuit (Constant d s) g (Some (b ∷ bs)) e = refl
no_circuit (Apply d s) g o e = absurd (not_declared e)
no_circuit (Param k s) g o e = absurd (not_declared e)

module _ (nodes : List Node) (terms : IsTermList nodes) (different : AreDifferent nodes) (t : ℕ) (declared : IsDeclared (node_at nodes t).op) where
  -- the term has these bits
  abbrev HasBits : LogState → List Literal → Type 0
  HasBits s b = s.bits t ≡ Some b

  leaf_drew : (s : LogState) (u : ℕ) (o : Option ℕ) (b : List Literal) → HasBits (leaf_after s u o) b → (t ≡ u) ⊎ HasBits s b
  leaf_drew s u None b h = inr h
  leaf_drew s u (Some n) b h = ⊎_elim (λ p. inl p.0) (λ p. inr p) (with_value_cases s.bits u _ t b h)

  block_drew : (s : LogState) (u : ℕ) (o : Option Block) (b : List Literal) → (t ≡ u → o ≡ None) → HasBits (block_after s u o) b → HasBits s b
  block_drew s u None b none h = h
  block_drew s u (Some k) b none h = ⊎_elim (λ p. absurd (let e : ◌≡◌ {A = Option Block} (Some k) None = none p.0 in let f : ⊥ = cc in f)) (λ p. p) (with_value_cases s.bits u _ t b h)

  selector_drew : (s : LogState) (a u : ℕ) (o : Option (List Literal)) (b : List Literal) → HasBits (selector_after s a u o) b → HasBits s b
  selector_drew s a u None b h = h
  selector_drew s a u (Some []) b h = h
  selector_drew s a u (Some (x ∷ xs)) b h = h

  -- no rule takes it to a term that has bits while it has none
  not_rewritten : (s : LogState) (r : RuleUse) → IsRewrite nodes s r → t ≡ r.from → ⊥
  not_rewritten s r is e =
      let same : r.from ≡ r.to = unruled nodes s.images is.ruled.rule r.from r.to terms different (subst (λ x. IsDeclared (node_at nodes x).op) e declared) is.ruled.takes in
      let held : IsSome (s.bits r.from) = subst (λ x. IsSome (s.bits x)) (sym same) is.held in
      not_declared (sym (ap is_some is.new) ∙ held)

  rewrite_drew : (s : LogState) (r : RuleUse) (o : Option (List Literal)) (b : List Literal) → IsRewrite nodes s r → HasBits (rewrite_after s r o) b → HasBits s b
  rewrite_drew s r None b is h = h
  rewrite_drew s r (Some bits) b is h = ⊎_elim (λ p. absurd (not_rewritten s r is p.0)) (λ p. p) (with_value_cases s.bits r.from _ t b h)

  step_drew : (s : LogState) (e : Entry) (b : List Literal) → IsStep nodes s e → HasBits (after nodes s e) b → (e ≡ step.Leaf t) ⊎ HasBits s b
  step_drew s (step.Leaf u) b i h = ⊎_elim (λ p. inl (ap step.Leaf (sym p))) (λ p. inr p) (leaf_drew s u (leaf_width nodes u) b h)
  step_drew s (step.Encode u) b i h =
      inr (block_drew s u (block_of s.next s.bits (node_at nodes u)) b
      (λ p. subst (λ v. block_of s.next s.bits (node_at nodes v) ≡ None) p (no_circuit (node_at nodes t).op s.next (all_bits s.bits (node_at nodes t).args) declared)) h)
  step_drew s (step.Rewrite r) b i h = inr (rewrite_drew s r (s.bits r.to) b i h)
  step_drew s (step.Selector a u) b i h = inr (selector_drew s a u (s.bits u) b h)
  step_drew s (step.Equal a c) b i h = inr (subst (λ (f : ℕ → Option (List Literal)). f t ≡ Some b) (added_keeps nodes s (step.Equal a c) refl).0 h)
  step_drew s (step.Lemma l) b i h = inr (subst (λ (f : ℕ → Option (List Literal)). f t ≡ Some b) (added_keeps nodes s (step.Lemma l) refl).0 h)
  step_drew s e b i h = inr h

  steps_drew : (s : LogState) (log : List Entry) (b : List Literal) → AreSteps nodes s log → HasBits (state_from nodes s log) b → Contains log (step.Leaf t) ⊎ HasBits s b
  steps_drew s [] b are h = inr h
  steps_drew s (e ∷ log) b are h = ⊎_elim
      (λ later. inl (Contains-later e (step.Leaf t) log later))
      (λ before. ⊎_elim (λ same. inl (subst (λ x. Contains (x ∷ log) (step.Leaf t)) (sym same) (Contains-first (step.Leaf t) log))) (λ p. inr p) (step_drew s e b are.0 before))
      (steps_drew (after nodes s e) log b are.1 h)

  pub drawn : (log : List Entry) (b : List Literal) → IsLog nodes log → (state_of nodes log).bits t ≡ Some b → Contains log (step.Leaf t)
  drawn log b is h = ⊎_elim (λ c. c) (λ (e : ◌≡◌ {A = Option (List Literal)} None (Some b)). absurd (let f : ⊥ = cc in f)) (steps_drew start log b is h)
