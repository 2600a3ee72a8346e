-- The next variable after a step of a stored log.
use Rattle.std.proofs.Common.{◌≡◌, ℕ, suc, true, false, List, take, Some, None, Result, Ok, Err, sym, ap, ◌∙◌, subst}
use Rattle.std.specs.Prelude.{Contains, IfOk, slice_get}
use Rattle.cnf_base.specs.Literals.{Literal}
use Rattle.smt_terms.specs.declared.node.Node.{Node}
use Rattle.smt_terms.specs.Terms.{IsTermList}
use Rattle.smt_terms.specs.Bits.{bits_in}
use Rattle.proof_log.specs.declared.entry.Entry.{Entry}
use Rattle.proof_log.specs.Logs.{entry_at, state_of}
use Rattle.proof_log.specs.Stored.{LogValue, Stands}
use Rattle.proof_log.proofs.Standing.{stands_over}
use Rattle.opening_positions.specs.Reading.{IsBehind, IsAt, leaf_of, adds_gates}
use Rattle.opening_positions.proofs.Nexts.{next_gates, next_leaf, leaf_bits, next_none}

-- the number is the next variable after the step at the position, if the other one was so before it
abbrev pub IsNextAfter : List Node → List Entry → ℕ → ℕ → ℕ → Type 0
IsNextAfter nodes log at next n = (p : ℕ) → at ≡ suc p → next ≡ (state_of nodes (take p log)).next → n ≡ (state_of nodes (take (suc p) log)).next

module _ (nodes : List Node) (log : LogValue) (e : Entry) (at next : ℕ) (all : IsTermList nodes) (stands : Stands nodes log) (there : entry_at log.entries at ≡ Some e) where
  step_at : (p : ℕ) → at ≡ suc p → slice_get log.entries p ≡ Some e
  step_at p q = sym (ap (entry_at log.entries) q) ∙ there

  gates : (n : ℕ) → adds_gates e ≡ true → IsBehind (IsAt log.clauses at) next n → IsNextAfter nodes log.entries at next n
  gates n k h p q s =
      let kept = stands_over nodes log stands in
      let a = subst (λ (rows : List (List (List Literal))). IsBehind (IsAt rows at) next n) kept.clauses h in
      let b = subst (λ i. IsBehind (IsAt (state_of nodes log.entries).clauses i) next n) q a in
      next_gates nodes log.entries all kept.steps p n e (step_at p q) k (subst (λ i. IsBehind (IsAt (state_of nodes log.entries).clauses (suc p)) i n) s b)

  pub after_gates : {E : Type 0} (r : Result ℕ E) → adds_gates e ≡ true → IfOk r (IsBehind (IsAt log.clauses at) next) → IfOk r (IsNextAfter nodes log.entries at next)
  after_gates (Ok n) k h = gates n k h
  after_gates (Err x) k h = tt

  pub after_none : leaf_of e ≡ None → adds_gates e ≡ false → IsNextAfter nodes log.entries at next next
  after_none h k p q s = s ∙ next_none nodes log.entries all (stands_over nodes log stands).steps p e (step_at p q) h k

  pub no_leaf_bits : (t : ℕ) → leaf_of e ≡ Some t → bits_in log.bits t ≡ None → IsNextAfter nodes log.entries at next next
  no_leaf_bits t h none p q s =
      let kept = stands_over nodes log stands in
      let b = leaf_bits nodes log.entries all kept.steps p t e (step_at p q) h in
      let r : None ≡ Some b.0 = sym none ∙ kept.bits t ∙ b.1 in
      let f : ⊥ = cc in
      absurd f

  pub after_leaf : (t n : ℕ) (b : List Literal) → leaf_of e ≡ Some t → bits_in log.bits t ≡ Some b → IsBehind (Contains b) next n → IsNextAfter nodes log.entries at next n
  after_leaf t n b h bits k p q s =
      let kept = stands_over nodes log stands in
      next_leaf nodes log.entries all kept.steps p n t e b (step_at p q) h (sym (kept.bits t) ∙ bits) (subst (λ i. IsBehind (Contains b) i n) s k)
