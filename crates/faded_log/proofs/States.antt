-- What steps leave does not depend on the clauses before them, but for the clauses.
use Rattle.std.proofs.Common.{◌≡◌, ℕ, Bool, true, false, List, [], ◌∷◌, ◌++◌, Option, Some, None, Result, Ok, Err, refl, sym, ap, ◌∙◌, subst, append_assoc, append-nil}
use Rattle.cnf_base.specs.Literals.{Literal}
use Rattle.smt_terms.specs.declared.node.Node.{Node}
use Rattle.smt_terms.specs.Nodes.{node_at}
use Rattle.smt_terms.specs.Terms.{TermsValue}
use Rattle.bit_blast.specs.Blocks.{Block, block_of}
use Rattle.theory_lemmas.specs.declared.fault.LemmaFault.{LemmaFault}
use Rattle.theory_lemmas.specs.Clauses.{clause_of}
use Rattle.proof_log.specs.declared.entry.RuleUse.{RuleUse}
use Rattle.proof_log.specs.declared.entry.Entry.{Entry}
use Rattle.proof_log.specs.declared.entry.Entry.TheVariants as step
use Rattle.proof_log.specs.Diaries.{is_chain}
use Rattle.proof_log.specs.Logs.{LogState, leaf_width, IsStep, leaf_after, block_after, selector_after, equal_after, rewrite_after, lemma_after, after, state_from}
use Rattle.proof_log.specs.Stored.{clauses_of}
use Rattle.proof_log.specs.Faults.{IsValid}
use Rattle.proof_log.proofs.Growth.{block_row, selector_row, equal_row, lemma_row, row_of, step_adds}

-- the same with other clauses
abbrev pub with_clauses : LogState → List (List (List Literal)) → LogState
with_clauses s rows = record { next = s.next; bits = s.bits; images = s.images; selectors = s.selectors; equals = s.equals; clauses = rows }

module _ (s : LogState) (rows : List (List (List Literal))) where
  leaf_with : (t : ℕ) (o : Option ℕ) → leaf_after (with_clauses s rows) t o ≡ with_clauses (leaf_after s t o) (rows ++ [] ∷ [])
  leaf_with t None = refl
  leaf_with t (Some n) = refl

  block_with : (t : ℕ) (o : Option Block) → block_after (with_clauses s rows) t o ≡ with_clauses (block_after s t o) (rows ++ block_row s o ∷ [])
  block_with t None = refl
  block_with t (Some b) = refl

  selector_with : (a t : ℕ) (o : Option (List Literal)) → selector_after (with_clauses s rows) a t o ≡ with_clauses (selector_after s a t o) (rows ++ selector_row s o ∷ [])
  selector_with a t None = refl
  selector_with a t (Some []) = refl
  selector_with a t (Some (bit ∷ bits)) = refl

  equal_with : (t u : ℕ) (o p : Option (List Literal)) → equal_after (with_clauses s rows) t u o p ≡ with_clauses (equal_after s t u o p) (rows ++ equal_row s o p ∷ [])
  equal_with t u None p = refl
  equal_with t u (Some a) None = refl
  equal_with t u (Some a) (Some b) = refl

  rewrite_with : (r : RuleUse) (o : Option (List Literal)) → rewrite_after (with_clauses s rows) r o ≡ with_clauses (rewrite_after s r o) (rows ++ [] ∷ [])
  rewrite_with r None = refl
  rewrite_with r (Some b) = refl

  lemma_with : (o : Result (List Literal) LemmaFault) → lemma_after (with_clauses s rows) o ≡ with_clauses (lemma_after s o) (rows ++ lemma_row o ∷ [])
  lemma_with (Err f) = refl
  lemma_with (Ok c) = refl

  pub after_with : (nodes : List Node) (e : Entry) → after nodes (with_clauses s rows) e ≡ with_clauses (after nodes s e) (rows ++ row_of nodes s e ∷ [])
  after_with nodes (step.Node n) = refl
  after_with nodes (step.Leaf t) = leaf_with t (leaf_width nodes t)
  after_with nodes (step.Encode t) = block_with t (block_of s.next s.bits (node_at nodes t))
  after_with nodes (step.Selector a t) = selector_with a t (s.bits t)
  after_with nodes (step.Chain c hints) = refl
  after_with nodes (step.Rewrite r) = rewrite_with r (s.bits r.to)
  after_with nodes (step.Equal t u) = equal_with t u (s.bits t) (s.bits u)
  after_with nodes (step.Lemma l) = lemma_with (clause_of nodes s.bits s.equals l)

  -- a step that is no chain looks at no clause
  pub step_with : (nodes : List Node) (e : Entry) → is_chain (Some e) ≡ false → IsStep nodes s e → IsStep nodes (with_clauses s rows) e
  step_with nodes (step.Node n) free i = i
  step_with nodes (step.Leaf t) free i = record { term = i.term; new = i.new; width = i.width; constant = i.constant }
  step_with nodes (step.Encode t) free i = record { term = i.term; new = i.new; block = i.block; circuit = i.circuit }
  step_with nodes (step.Selector a t) free i = record { term = i.term; sort = i.sort; new = i.new; bit = i.bit; encoded = i.encoded }
  step_with nodes (step.Chain c hints) free i = let f : ⊥ = cc in absurd f
  step_with nodes (step.Rewrite r) free i = record { ruled = i.ruled; new = i.new; held = i.held }
  step_with nodes (step.Equal t u) free i = record { pair = record { lower = i.pair.lower; term = i.pair.term; sort = i.pair.sort; left = i.pair.left; right = i.pair.right }; new = i.new }
  step_with nodes (step.Lemma l) free i = record { clause = i.clause; is = i.is }

  pub valid_with : (v : TermsValue) (e : Entry) → is_chain (Some e) ≡ false → IsValid v s e → IsValid v (with_clauses s rows) e
  valid_with v (step.Node n) free i = i
  valid_with v (step.Leaf t) free i = step_with v.nodes (step.Leaf t) free i
  valid_with v (step.Encode t) free i = step_with v.nodes (step.Encode t) free i
  valid_with v (step.Selector a t) free i = step_with v.nodes (step.Selector a t) free i
  valid_with v (step.Chain c hints) free i = let f : ⊥ = cc in absurd f
  valid_with v (step.Rewrite r) free i = step_with v.nodes (step.Rewrite r) free i
  valid_with v (step.Equal t u) free i = step_with v.nodes (step.Equal t u) free i
  valid_with v (step.Lemma l) free i = step_with v.nodes (step.Lemma l) free i

-- the clauses that each of these steps adds
abbrev pub rows_from : List Node → LogState → List Entry → List (List (List Literal))
rows_from nodes s [] = []
rows_from nodes s (e ∷ es) = row_of nodes s e ∷ rows_from nodes (after nodes s e) es

pub state_rows : (nodes : List Node) (s : LogState) (es : List Entry) → (state_from nodes s es).clauses ≡ s.clauses ++ rows_from nodes s es
state_rows nodes s [] = sym (append-nil s.clauses)
state_rows nodes s (e ∷ es) =
    state_rows nodes (after nodes s e) es ∙ ap (λ l. l ++ rows_from nodes (after nodes s e) es) (step_adds nodes s e) ∙ append_assoc s.clauses (row_of nodes s e ∷ []) (rows_from nodes (after nodes s e) es)
