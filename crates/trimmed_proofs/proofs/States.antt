-- What the state of a log has beside its clauses: it comes from the steps that are neither lemmas nor chains alone.
use Rattle.std.proofs.Common.{◌≡◌, ℕ, zero, suc, ◌<◌, ◌≤◌, Bool, List, [], ◌∷◌, ◌++◌, length, Option, Some, None, Result, Ok, Err, refl, sym, ap, subst, ◌∙◌, arith, append_assoc}
use Rattle.std.specs.Prelude.{not, filter, slice_get}
use Rattle.cnf_base.specs.Literals.{Literal}
use Rattle.cnf_base.proofs.Lists.{slice_get-append_left, slice_get-at}
use Rattle.smt_terms.specs.declared.node.Node.{Node}
use Rattle.smt_terms.specs.Nodes.{node_at}
use Rattle.bit_blast.specs.Blocks.{Block, block_of}
use Rattle.theory_lemmas.specs.declared.fault.LemmaFault.{LemmaFault}
use Rattle.theory_lemmas.specs.Clauses.{clause_of}
use Rattle.proof_log.specs.declared.entry.RuleUse.{RuleUse}
use Rattle.proof_log.specs.declared.entry.Entry.{Entry}
use Rattle.proof_log.specs.declared.entry.Entry.TheVariants as step
use Rattle.proof_log.specs.Logs.{LogState, start, entry_at, leaf_width, IsStep, leaf_after, block_after, selector_after, equal_after, rewrite_after, lemma_after, after, state_from, state_of, IsLog}
use Rattle.proof_log.proofs.Staying.{Holds, state_from-append, steps_parts, steps_hold}
use Rattle.proof_log.proofs.Growth.{block_row, selector_row, equal_row, row_of, step_adds, steps_rows, positions}
use Rattle.proof_text.specs.Deletions.{is_deletable}

-- the step makes terms, bits or variables: it is neither a lemma nor a chain
abbrev pub is_made : Entry → Bool
is_made e = not (is_deletable (Some e))

abbrev pub made_of : List Entry → List Entry
made_of log = filter is_made log

-- the state without its clauses
abbrev pub bare : LogState → LogState
bare s = record { next = s.next; bits = s.bits; images = s.images; selectors = s.selectors; equals = s.equals; clauses = [] }

-- ---- one step

bare_leaf : (s : LogState) (t : ℕ) (o : Option ℕ) → bare (leaf_after s t o) ≡ bare (leaf_after (bare s) t o)
bare_leaf s t None = refl
bare_leaf s t (Some n) = refl

bare_block : (s : LogState) (t : ℕ) (o : Option Block) → bare (block_after s t o) ≡ bare (block_after (bare s) t o)
bare_block s t None = refl
bare_block s t (Some b) = refl

bare_selector : (s : LogState) (a t : ℕ) (o : Option (List Literal)) → bare (selector_after s a t o) ≡ bare (selector_after (bare s) a t o)
bare_selector s a t None = refl
bare_selector s a t (Some []) = refl
bare_selector s a t (Some (b ∷ bs)) = refl

bare_equal : (s : LogState) (t u : ℕ) (o p : Option (List Literal)) → bare (equal_after s t u o p) ≡ bare (equal_after (bare s) t u o p)
bare_equal s t u None p = refl
bare_equal s t u (Some a) None = refl
bare_equal s t u (Some a) (Some b) = refl

bare_rewrite : (s : LogState) (r : RuleUse) (o : Option (List Literal)) → bare (rewrite_after s r o) ≡ bare (rewrite_after (bare s) r o)
bare_rewrite s r None = refl
bare_rewrite s r (Some b) = refl

bare_lemma : (s : LogState) (o : Result (List Literal) LemmaFault) → bare (lemma_after s o) ≡ bare s
bare_lemma s (Err f) = refl
bare_lemma s (Ok c) = refl

bare_after : (nodes : List Node) (s : LogState) (e : Entry) → bare (after nodes s e) ≡ bare (after nodes (bare s) e)
bare_after nodes s (step.Leaf t) = bare_leaf s t (leaf_width nodes t)
bare_after nodes s (step.Encode t) = bare_block s t (block_of s.next s.bits (node_at nodes t))
bare_after nodes s (step.Selector a t) = bare_selector s a t (s.bits t)
bare_after nodes s (step.Rewrite r) = bare_rewrite s r (s.bits r.to)
bare_after nodes s (step.Equal t u) = bare_equal s t u (s.bits t) (s.bits u)
bare_after nodes s (step.Lemma l) = bare_lemma s (clause_of nodes s.bits s.equals l) ∙ sym (bare_lemma (bare s) (clause_of nodes s.bits s.equals l))
bare_after nodes s (step.Node n) = refl
bare_after nodes s (step.Chain c hints) = refl

-- what a step leaves comes from what there was beside the clauses
pub bare_step : (nodes : List Node) (s r : LogState) (e : Entry) → bare s ≡ bare r → bare (after nodes s e) ≡ bare (after nodes r e)
bare_step nodes s r e h = bare_after nodes s e ∙ ap (λ (x : LogState). bare (after nodes x e)) h ∙ sym (bare_after nodes r e)

-- ---- logs

bare_from : (nodes : List Node) (s r : LogState) (log : List Entry) → bare s ≡ bare r → bare (state_from nodes s log) ≡ bare (state_from nodes r (made_of log))
bare_from nodes s r [] h = h
bare_from nodes s r (step.Node n ∷ log) h = bare_from nodes (after nodes s (step.Node n)) (after nodes r (step.Node n)) log (bare_step nodes s r (step.Node n) h)
bare_from nodes s r (step.Leaf t ∷ log) h = bare_from nodes (after nodes s (step.Leaf t)) (after nodes r (step.Leaf t)) log (bare_step nodes s r (step.Leaf t) h)
bare_from nodes s r (step.Encode t ∷ log) h = bare_from nodes (after nodes s (step.Encode t)) (after nodes r (step.Encode t)) log (bare_step nodes s r (step.Encode t) h)
bare_from nodes s r (step.Selector a t ∷ log) h = bare_from nodes (after nodes s (step.Selector a t)) (after nodes r (step.Selector a t)) log (bare_step nodes s r (step.Selector a t) h)
bare_from nodes s r (step.Rewrite u ∷ log) h = bare_from nodes (after nodes s (step.Rewrite u)) (after nodes r (step.Rewrite u)) log (bare_step nodes s r (step.Rewrite u) h)
bare_from nodes s r (step.Equal t u ∷ log) h = bare_from nodes (after nodes s (step.Equal t u)) (after nodes r (step.Equal t u)) log (bare_step nodes s r (step.Equal t u) h)
bare_from nodes s r (step.Lemma l ∷ log) h = bare_from nodes (after nodes s (step.Lemma l)) r log (bare_lemma s (clause_of nodes s.bits s.equals l) ∙ h)
bare_from nodes s r (step.Chain c hints ∷ log) h = bare_from nodes (after nodes s (step.Chain c hints)) r log h

-- two logs with the same steps beside lemmas and chains leave the same beside clauses
pub same_bare : (nodes : List Node) (log file : List Entry) → made_of file ≡ made_of log → bare (state_of nodes file) ≡ bare (state_of nodes log)
same_bare nodes log file e =
    bare_from nodes start start file refl
    ∙ ap (λ (m : List Entry). bare (state_from nodes start m)) e
    ∙ sym (bare_from nodes start start log refl)

-- ---- rows

row_block : (s : LogState) (o : Option Block) → block_row s o ≡ block_row (bare s) o
row_block s None = refl
row_block s (Some b) = refl

row_selector : (s : LogState) (o : Option (List Literal)) → selector_row s o ≡ selector_row (bare s) o
row_selector s None = refl
row_selector s (Some []) = refl
row_selector s (Some (b ∷ bs)) = refl

row_equal : (s : LogState) (o p : Option (List Literal)) → equal_row s o p ≡ equal_row (bare s) o p
row_equal s None p = refl
row_equal s (Some a) None = refl
row_equal s (Some a) (Some b) = refl

row_bare : (nodes : List Node) (s : LogState) (e : Entry) → row_of nodes s e ≡ row_of nodes (bare s) e
row_bare nodes s (step.Encode t) = row_block s (block_of s.next s.bits (node_at nodes t))
row_bare nodes s (step.Selector a t) = row_selector s (s.bits t)
row_bare nodes s (step.Equal t u) = row_equal s (s.bits t) (s.bits u)
row_bare nodes s (step.Lemma l) = refl
row_bare nodes s (step.Node n) = refl
row_bare nodes s (step.Leaf t) = refl
row_bare nodes s (step.Rewrite u) = refl
row_bare nodes s (step.Chain c hints) = refl

-- the clauses that a step adds come from what there was beside the clauses
pub same_row : (nodes : List Node) (s r : LogState) (e : Entry) → bare s ≡ bare r → row_of nodes s e ≡ row_of nodes r e
same_row nodes s r e h = row_bare nodes s e ∙ ap (λ (x : LogState). row_of nodes x e) h ∙ sym (row_bare nodes r e)

-- the clauses of a step among others
pub row_at : (nodes : List Node) (log : List Entry) (e : Entry) (more : List Entry) → slice_get (state_of nodes (log ++ e ∷ more)).clauses (suc (length log)) ≡ Some (row_of nodes (state_of nodes log) e)
row_at nodes log e more =
    let s = state_of nodes log in
    let rest = steps_rows nodes (after nodes s e) more in
    let rows : (state_of nodes (log ++ e ∷ more)).clauses ≡ s.clauses ++ row_of nodes s e ∷ rest.0 =
    ap (λ (x : LogState). x.clauses) (state_from-append nodes start log (e ∷ more))
    ∙ rest.1
    ∙ ap (λ (x : List (List (List Literal))). x ++ rest.0) (step_adds nodes s e)
    ∙ append_assoc s.clauses (row_of nodes s e ∷ []) rest.0 in
    ap (λ (x : List (List (List Literal))). slice_get x (suc (length log))) rows
    ∙ ap (λ (i : ℕ). slice_get (s.clauses ++ row_of nodes s e ∷ rest.0) i) (sym (positions nodes log))
    ∙ slice_get-at s.clauses (row_of nodes s e) rest.0

-- the clauses of an old position stay
pub row_left : (nodes : List Node) (log more : List Entry) (p : ℕ) → p ≤ length log → slice_get (state_of nodes (log ++ more)).clauses p ≡ slice_get (state_of nodes log).clauses p
row_left nodes log more p le =
    let rest = steps_rows nodes (state_of nodes log) more in
    let lt : p < length (state_of nodes log).clauses = omega (arith, le, positions nodes log) in
    ap (λ (x : List (List (List Literal))). slice_get x p) (ap (λ (s : LogState). s.clauses) (state_from-append nodes start log more) ∙ rest.1)
    ∙ slice_get-append_left (state_of nodes log).clauses rest.0 p lt

-- ---- the step at a position

-- the log before a position, the step there, and what the step adds
pub record StandsAt (nodes : List Node) (log : List Entry) (p : ℕ) (e : Entry) : Type 0 where
  pub front : List Entry
  pub behind : List Entry
  pub log_is : log ≡ front ++ e ∷ behind
  pub place : p ≡ suc (length front)
  pub valid : IsStep nodes (state_of nodes front) e
  pub holds : Holds (state_of nodes front) (state_of nodes log)
  pub row : slice_get (state_of nodes log).clauses p ≡ Some (row_of nodes (state_of nodes front) e)

split_at : (log : List Entry) (i : ℕ) (e : Entry) → slice_get log i ≡ Some e → (front : List Entry) × (behind : List Entry) × (log ≡ front ++ e ∷ behind) × (i ≡ length front)
split_at [] i e h = let z : ⊥ = cc in absurd z
split_at (x ∷ log) zero e h = let same : x ≡ e = cc in ([], log, ap (λ (y : Entry). y ∷ log) same, refl)
split_at (x ∷ log) (suc i) e h =
    let k = split_at log i e h in
    (x ∷ k.0, k.1, ap (λ (l : List Entry). x ∷ l) k.2, ap suc k.3)

pub stands_at : (nodes : List Node) (log : List Entry) (p : ℕ) (e : Entry) → IsLog nodes log → entry_at log p ≡ Some e → StandsAt nodes log p e
stands_at nodes log zero e h k = let z : ⊥ = cc in absurd z
stands_at nodes log (suc i) e h k =
    let at = split_at log i e k in
    let parts = steps_parts nodes start at.0 (e ∷ at.1) (subst (IsLog nodes) at.2 h) in
    let place : suc i ≡ suc (length at.0) = ap suc at.3 in
    record {
      front = at.0;
      behind = at.1;
      log_is = at.2;
      place = place;
      valid = parts.1.0;
      holds = subst (Holds (state_of nodes at.0)) (sym (ap (state_of nodes) at.2 ∙ state_from-append nodes start at.0 (e ∷ at.1))) (steps_hold nodes (state_of nodes at.0) (e ∷ at.1) parts.1);
      row =
          ap (λ (l : List Entry). slice_get (state_of nodes l).clauses (suc i)) at.2
          ∙ ap (λ (n : ℕ). slice_get (state_of nodes (at.0 ++ e ∷ at.1)).clauses n) place
          ∙ row_at nodes at.0 e at.1;
    }
