-- What a step names was made before it.
use Rattle.std.proofs.Common.{◌≡◌, ℕ, zero, suc, ◌+◌, ◌<◌, ◌≤◌, List, [], ◌∷◌, ◌++◌, length, take, Option, Some, None, sym, subst, ⊎_elim, arith, length-append, Result, Ok, Err}
use Rattle.std.specs.Prelude.{All, slice_get, map}
use Rattle.std.proofs.lemmas.Bool.{cases_lt}
use Rattle.std.proofs.lemmas.List.Elements.{All-cons, All-nil}
use Rattle.cnf_base.specs.Literals.{Literal, negated}
use Rattle.cnf_base.specs.declared.clause.ClauseId.{ClauseId}
use Rattle.smt_terms.specs.declared.node.Node.{Node}
use Rattle.smt_terms.specs.Nodes.{node_at}
use Rattle.smt_terms.specs.Terms.{IsTermList}
use Rattle.smt_terms.specs.Values.{Interpretation, no_value}
use Rattle.bit_blast.specs.Blocks.{Block, block_of}
use Rattle.hint_chain.specs.Chains.{ChainFrom, IsChain}
use Rattle.theory_lemmas.specs.declared.fault.LemmaFault.{LemmaFault}
use Rattle.theory_lemmas.specs.Clauses.{clause_of}
use Rattle.proof_log.specs.declared.entry.RuleUse.{RuleUse}
use Rattle.proof_log.specs.declared.entry.Entry.{Entry}
use Rattle.proof_log.specs.declared.entry.Entry.TheVariants as step
use Rattle.proof_log.specs.Logs.{LogState, start, clause_at, leaf_width, IsStep, leaf_after, block_after, selector_after, equal_after, rewrite_after, lemma_after, after, state_from, state_of, AreSteps, IsLog}
use Rattle.proof_log.specs.Meanings.{meaning, LogIsOrdered}
use Rattle.proof_log.proofs.Growing.{clause_each, clause_within}
use Rattle.proof_log.proofs.Sound.{IsTrueBelow, log_suits}
use Rattle.proof_log.proofs.Staying.{step_holds}
use Rattle.proof_log.proofs.Selecting.{log_selects, log_pairs}

-- ---- variables

lower : (nodes : List Node) (s : LogState) (log : List Entry) (q : ℕ) → AreSteps nodes s log → s.next ≤ (state_from nodes s (take q log)).next
lower nodes s log zero h = omega arith
lower nodes s [] (suc q) h = omega arith
lower nodes s (e ∷ log) (suc q) h = omega (arith, (step_holds nodes s e h.0).next, lower nodes (after nodes s e) log q h.1)

rises : (nodes : List Node) (s : LogState) (log : List Entry) (p q : ℕ) → AreSteps nodes s log → p ≤ q → (state_from nodes s (take p log)).next ≤ (state_from nodes s (take q log)).next
rises nodes s log zero q h le = lower nodes s log q h
rises nodes s log (suc p) zero h le = absurd (omega arith)
rises nodes s [] (suc p) (suc q) h le = omega arith
rises nodes s (e ∷ log) (suc p) (suc q) h le = rises nodes (after nodes s e) log p q h.1 (omega arith)

-- the step that made a variable
pub record OwnsFrom (nodes : List Node) (s : LogState) (log : List Entry) (p x : ℕ) : Type 0 where
  pub step : p < length log
  pub from : (state_from nodes s (take p log)).next ≤ x
  pub upto : x < (state_from nodes s (take (suc p) log)).next

owner : (nodes : List Node) (s : LogState) (log : List Entry) (x : ℕ) → s.next ≤ x → x < (state_from nodes s log).next → (p : ℕ) × OwnsFrom nodes s log p x
owner nodes s [] x le lt = absurd (omega arith)
owner nodes s (e ∷ log) x le lt =
    ⊎_elim
    (λ here. (0, record { step = omega arith; from = le; upto = here }))
    (λ later. let k = owner nodes (after nodes s e) log x later lt in
    (suc (k.0), record { step = omega (arith, k.1.step); from = k.1.from; upto = k.1.upto }))
    (cases_lt x (after nodes s e).next)

-- ---- hints

leaf_length : (s : LogState) (t : ℕ) (o : Option ℕ) → length (leaf_after s t o).clauses ≡ suc (length s.clauses)
leaf_length s t None = omega (arith, length-append s.clauses ([] ∷ []))
leaf_length s t (Some n) = omega (arith, length-append s.clauses ([] ∷ []))

row_length : (rows : List (List (List Literal))) (row : List (List Literal)) → length (rows ++ row ∷ []) ≡ suc (length rows)
row_length rows row = omega (arith, length-append rows (row ∷ []))

block_length : (s : LogState) (t : ℕ) (o : Option Block) → length (block_after s t o).clauses ≡ suc (length s.clauses)
block_length s t None = row_length s.clauses _
block_length s t (Some b) = row_length s.clauses _

selector_length : (s : LogState) (a t : ℕ) (o : Option (List Literal)) → length (selector_after s a t o).clauses ≡ suc (length s.clauses)
selector_length s a t None = row_length s.clauses _
selector_length s a t (Some []) = row_length s.clauses _
selector_length s a t (Some (b ∷ bs)) = row_length s.clauses _

equal_length : (s : LogState) (t u : ℕ) (o p : Option (List Literal)) → length (equal_after s t u o p).clauses ≡ suc (length s.clauses)
equal_length s t u None p = row_length s.clauses _
equal_length s t u (Some a) None = row_length s.clauses _
equal_length s t u (Some a) (Some b) = row_length s.clauses _

rewrite_length : (s : LogState) (r : RuleUse) (o : Option (List Literal)) → length (rewrite_after s r o).clauses ≡ suc (length s.clauses)
rewrite_length s r None = row_length s.clauses _
rewrite_length s r (Some b) = row_length s.clauses _

lemma_length : (s : LogState) (o : Result (List Literal) LemmaFault) → length (lemma_after s o).clauses ≡ suc (length s.clauses)
lemma_length s (Err f) = row_length s.clauses _
lemma_length s (Ok c) = row_length s.clauses _

step_length : (nodes : List Node) (s : LogState) (e : Entry) → length (after nodes s e).clauses ≡ suc (length s.clauses)
step_length nodes s (step.Leaf t) = leaf_length s t (leaf_width nodes t)
step_length nodes s (step.Encode t) = block_length s t (block_of s.next s.bits (node_at nodes t))
step_length nodes s (step.Selector a t) = selector_length s a t (s.bits t)
step_length nodes s (step.Equal t u) = equal_length s t u (s.bits t) (s.bits u)
step_length nodes s (step.Rewrite r) = rewrite_length s r (s.bits r.to)
step_length nodes s (step.Lemma l) = lemma_length s (clause_of nodes s.bits s.equals l)
step_length nodes s e = row_length s.clauses _

-- a log has a position for each step, and one before
pub steps_length : (nodes : List Node) (s : LogState) (log : List Entry) → length (state_from nodes s log).clauses ≡ length s.clauses + length log
steps_length nodes s [] = omega arith
steps_length nodes s (e ∷ log) = omega (arith, steps_length nodes (after nodes s e) log, step_length nodes s e)

abbrev pub IsFound : List (List (List Literal)) → ClauseId → Type 0
IsFound rows id = (h : List Literal) × (clause_at rows id ≡ Some h)

chain_found : (rows : List (List (List Literal))) (trues : List Literal) (hints : List ClauseId) → ChainFrom (clause_at rows) trues hints → All (IsFound rows) hints
chain_found rows trues [] c = absurd c
chain_found rows trues (i ∷ []) c = All-cons (IsFound rows) i [] (c.0, c.1) (All-nil (IsFound rows))
chain_found rows trues (i ∷ j ∷ is) c = All-cons (IsFound rows) i (j ∷ is) (c.0, c.2) (chain_found rows (trues ++ c.1 ∷ []) (j ∷ is) c.4)

hints_found : (rows : List (List (List Literal))) (c : List Literal) (hints : List ClauseId) → IsChain (clause_at rows) c hints → All (IsFound rows) hints
hints_found rows c hints i =
    ⊎_elim
    (λ p. subst (All (IsFound rows)) (sym p.1) (All-nil (IsFound rows)))
    (λ p. chain_found rows (map negated c) hints p.1)
    i

found_step : (nodes : List Node) (s : LogState) (log : List Entry) (p : ℕ) (e : Entry) → AreSteps nodes s log → slice_get log p ≡ Some e → IsStep nodes (state_from nodes s (take p log)) e × (length (state_from nodes s (take p log)).clauses ≡ length s.clauses + p)
found_step nodes s [] p e h g = let f : ⊥ = cc in absurd f
found_step nodes s (d ∷ log) zero e h g = let q : d ≡ e = cc in (subst (IsStep nodes s) q h.0, omega arith)
found_step nodes s (d ∷ log) (suc p) e h g =
    let k = found_step nodes (after nodes s d) log p e h.1 g in (k.0, omega (arith, k.1, step_length nodes s d))

all_weaker : (P Q : ClauseId → Type 0) (hints : List ClauseId) → ((id : ClauseId) → P id → Q id) → All P hints → All Q hints
all_weaker P Q hints f h i x e = f _ (h i x e)

earlier_hints : (nodes : List Node) (log : List Entry) → IsLog nodes log → (p : ℕ) (c : List Literal) (hints : List ClauseId) → slice_get log p ≡ Some (step.Chain c hints) → All (λ id. id.pos ≤ p) hints
earlier_hints nodes log h p c hints e =
    let k = found_step nodes start log p (step.Chain c hints) h e in
    let rows = (state_of nodes (take p log)).clauses in
    let count : length (state_of nodes (take p log)).clauses ≡ 1 + p = k.1 in
    all_weaker (IsFound rows) (λ id. id.pos ≤ p) hints
    (λ id f. let lt = clause_within rows id f.0 f.1 in omega arith)
    (hints_found rows c hints k.0.1)

-- ---- logs

pub any_interpretation : Interpretation
any_interpretation = record { constants = λ d. no_value; functions = λ d vs. no_value }

pub log_is_ordered : (nodes : List Node) (log : List Entry) → IsTermList nodes → IsLog nodes log → LogIsOrdered nodes log
log_is_ordered nodes log all i =
    let h = log_suits any_interpretation nodes all log i in
    let s = state_of nodes log in
    record {
      clauses = λ id c e. (clause_each (IsTrueBelow s.next (meaning any_interpretation nodes log)) s.clauses id c h.clauses e).1;
      bits = λ t b e. (h.terms t b e, (h.bits t b e).0);
      selectors = λ a r e. let k = log_selects nodes log a r e in (k.0, (h.selectors a r e).0, k.1);
      equals = λ t u l e. let k = h.equals t u l e in (k.positive, k.below, log_pairs nodes log t u l e);
      owned = λ x lo hi. let k = owner nodes start log x lo hi in (k.0, record { step = k.1.step; from = k.1.from; upto = k.1.upto });
      once = λ x p q o r.
          ⊎_elim
          (λ less. absurd (omega (arith, rises nodes start log (suc p) q i less, o.upto, r.from)))
          (λ ge. ⊎_elim
          (λ less. absurd (omega (arith, rises nodes start log (suc q) p i less, r.upto, o.from)))
          (λ le. omega arith)
          (cases_lt q p))
          (cases_lt p q);
      hints = earlier_hints nodes log i;
    }
