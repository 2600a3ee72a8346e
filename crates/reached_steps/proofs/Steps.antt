-- What a step of a log found before it, and what it left: new variables, bits of a term, and the clauses of its position.
use Rattle.std.proofs.Common.{◌≡◌, ℕ, zero, suc, ◌+◌, ◌<◌, List, [], ◌∷◌, ◌++◌, append_assoc, length, length-append, take, drop, Option, Some, None, refl, sym, ap, ◌∙◌, subst, arith}
use Rattle.std.specs.Prelude.{Contains, IsSome, is_some, slice_get}
use Rattle.std.specs.List.{AllByRecursion}
use Rattle.std.proofs.lemmas.List.{take-append-drop}
use Rattle.cnf_base.specs.Literals.{Literal}
use Rattle.cnf_base.specs.Assignments.{AreBelow, fresh_bits}
use Rattle.cnf_base.specs.Gates.{gates_clauses}
use Rattle.cnf_base.proofs.Lists.{Contains-slice_get, slice_get-at}
use Rattle.cnf_base.proofs.Options.{some_value}
use Rattle.smt_terms.specs.declared.node.Node.{Node}
use Rattle.smt_terms.specs.Nodes.{node_at}
use Rattle.smt_terms.specs.Terms.{IsTermList}
use Rattle.bit_blast.specs.Circuits.{equality}
use Rattle.bit_blast.specs.Blocks.{Block, with_first, all_bits}
use Rattle.proof_log.specs.declared.entry.RuleUse.{RuleUse}
use Rattle.proof_log.specs.declared.entry.Entry.{Entry}
use Rattle.proof_log.specs.declared.entry.Entry.TheVariants as step
use Rattle.proof_log.specs.Logs.{LogState, start, clause_in, IsStep, IsLeaf, IsEncoding, IsRewrite, IsSelector, IsEqual, leaf_after, block_after, rewrite_after, selector_clause, selector_after, equal_after, after, state_from, state_of, AreSteps, IsLog}
use Rattle.proof_log.proofs.Ordered.{any_interpretation, log_is_ordered}
use Rattle.proof_log.proofs.Sound.{log_suits, block_rows}
use Rattle.proof_log.proofs.Staying.{Holds, steps_hold, log_stays}
use Rattle.proof_log.proofs.Standing.{value_here}
use Rattle.proof_log.proofs.Linked.{image_has_bits}
use Rattle.proof_log.proofs.Growth.{block_row, selector_row, equal_row, row_of, step_adds, steps_rows}
use Rattle.reached_steps.specs.Circuits.{StandsOnArguments}
use Rattle.reached_steps.proofs.Clauses.{blocks_stand, equality_stands}

-- ---- lists

-- a clause of a position is one of its row
pub row_has : (rows : List (List (List Literal))) (q k : ℕ) (row : List (List Literal)) (c : List Literal) → slice_get rows q ≡ Some row → clause_in (slice_get rows q) k ≡ Some c → Contains row c
row_has rows q k row c e h = Contains-slice_get row k c (sym (ap (λ o. clause_in o k) e) ∙ h)

-- ---- rows of clauses

-- the row that a step added stays
row_stays : (nodes : List Node) (s : LogState) (e : Entry) (log : List Entry) → slice_get (state_from nodes s (e ∷ log)).clauses (length s.clauses) ≡ Some (row_of nodes s e)
row_stays nodes s e log =
    let k = steps_rows nodes (after nodes s e) log in
    ap (λ rs. slice_get rs (length s.clauses)) (k.1 ∙ ap (λ l. l ++ k.0) (step_adds nodes s e) ∙ append_assoc s.clauses (row_of nodes s e ∷ []) k.0)
    ∙ slice_get-at s.clauses (row_of nodes s e) k.0

-- ---- a step among others

-- What the step with number p, counted from 0, stands behind, and what it leaves, where the steps began at a state.
pub record IsMade (nodes : List Node) (s : LogState) (log : List Entry) (p : ℕ) (e : Entry) : Type 0 where
  pub step : IsStep nodes (state_from nodes s (take p log)) e
  pub leaves : state_from nodes s (take (suc p) log) ≡ after nodes (state_from nodes s (take p log)) e
  pub row : slice_get (state_from nodes s log).clauses (length s.clauses + p) ≡ Some (row_of nodes (state_from nodes s (take p log)) e)
  pub before : Holds (state_from nodes s (take p log)) (state_from nodes s log)
  pub behind : Holds (state_from nodes s (take (suc p) log)) (state_from nodes s log)
  pub within : p < length log

made_first : (nodes : List Node) (s : LogState) (e : Entry) (log : List Entry) → AreSteps nodes s (e ∷ log) → IsMade nodes s (e ∷ log) zero e
made_first nodes s e log h =
    let n : length s.clauses ≡ length s.clauses + 0 = omega arith in
    record {
      step = h.0;
      leaves = refl;
      row = subst (λ i. slice_get (state_from nodes s (e ∷ log)).clauses i ≡ Some (row_of nodes s e)) n (row_stays nodes s e log);
      before = steps_hold nodes s (e ∷ log) h;
      behind = steps_hold nodes (after nodes s e) log h.1;
      within = omega arith;
    }

pub made : (nodes : List Node) (s : LogState) (log : List Entry) (p : ℕ) (e : Entry) → AreSteps nodes s log → slice_get log p ≡ Some e → IsMade nodes s log p e
made nodes s [] p e h g = let q : ⊥ = cc in absurd q
made nodes s (d ∷ log) zero e h g = let q : d ≡ e = cc in subst (IsMade nodes s (d ∷ log) zero) q (made_first nodes s d log h)
made nodes s (d ∷ log) (suc p) e h g =
    let k = made nodes (after nodes s d) log p e h.1 g in
    let n : length (after nodes s d).clauses + p ≡ length s.clauses + suc p = omega (arith, ap length (step_adds nodes s d), length-append s.clauses (row_of nodes s d ∷ [])) in
    record {
      step = k.step;
      leaves = k.leaves;
      row = subst (λ i. slice_get (state_from nodes (after nodes s d) log).clauses i ≡ Some (row_of nodes (state_from nodes (after nodes s d) (take p log)) e)) n k.row;
      before = k.before;
      behind = k.behind;
      within = omega (arith, k.within);
    }

pub first_steps : (nodes : List Node) (s : LogState) (log : List Entry) (p : ℕ) → AreSteps nodes s log → AreSteps nodes s (take p log)
first_steps nodes s log zero h = tt
first_steps nodes s [] (suc p) h = tt
first_steps nodes s (e ∷ log) (suc p) h = (h.0, first_steps nodes (after nodes s e) log p h.1)

-- the bits that a term had before a step stay
pub bits_stay : (nodes : List Node) (log : List Entry) → IsLog nodes log → (p t : ℕ) (b : List Literal) → (state_of nodes (take p log)).bits t ≡ Some b → (state_of nodes log).bits t ≡ Some b
bits_stay nodes log is p t b e =
    let both : take p log ++ drop p log ≡ log = take-append-drop p log in
    let stays = log_stays nodes (take p log) (drop p log) (subst (IsLog nodes) (sym both) is) in
    ap (λ l. (state_of nodes l).bits t) (sym both) ∙ stays.bits t b e

-- ---- the steps of a log that make variables

-- the state before the step with this number
abbrev pub before_step : List Node → List Entry → ℕ → LogState
before_step nodes log p = state_of nodes (take p log)

pub record IsLeafStep (nodes : List Node) (log : List Entry) (p t : ℕ) : Type 0 where
  pub width : ℕ
  pub term : t < length nodes
  pub bits : (state_of nodes log).bits t ≡ Some (fresh_bits (before_step nodes log p).next width)
  pub next : (before_step nodes log (suc p)).next ≡ (before_step nodes log p).next + width
  pub row : slice_get (state_of nodes log).clauses (suc p) ≡ Some []
  pub within : p < length log

pub record IsEncodeStep (nodes : List Node) (log : List Entry) (p t : ℕ) : Type 0 where
  pub block : Block
  pub rows : List (List Literal)
  pub term : t < length nodes
  pub arguments : all_bits (before_step nodes log p).bits (node_at nodes t).args ≡ Some rows
  pub stands : StandsOnArguments (before_step nodes log p).next rows block
  pub bits : (state_of nodes log).bits t ≡ Some block.bits
  pub next : (before_step nodes log (suc p)).next ≡ (before_step nodes log p).next + length block.gates
  pub row : slice_get (state_of nodes log).clauses (suc p) ≡ Some (gates_clauses (before_step nodes log p).next block.gates)
  pub before : Holds (before_step nodes log p) (state_of nodes log)
  pub free : (state_of nodes log).images t ≡ None
  pub within : p < length log

-- the term has the bits of its image, which the image had before
pub record IsRewriteStep (nodes : List Node) (log : List Entry) (p : ℕ) (r : RuleUse) : Type 0 where
  pub bits : List Literal
  pub earlier : (before_step nodes log p).bits r.to ≡ Some bits
  pub own : (state_of nodes log).bits r.from ≡ Some bits
  pub image : (state_of nodes log).images r.from ≡ Some r.to
  pub row : slice_get (state_of nodes log).clauses (suc p) ≡ Some []

-- the equality of two terms, by the circuit of `=` over the bits that they had
pub record IsEqualStep (nodes : List Node) (log : List Entry) (p t u : ℕ) : Type 0 where
  pub left : List Literal
  pub right : List Literal
  pub left_bits : (before_step nodes log p).bits t ≡ Some left
  pub right_bits : (before_step nodes log p).bits u ≡ Some right
  pub stands : StandsOnArguments (before_step nodes log p).next (left ∷ right ∷ []) (equality left right (before_step nodes log p).next)
  pub next : (before_step nodes log (suc p)).next ≡ (before_step nodes log p).next + length (equality left right (before_step nodes log p).next).gates
  pub row : slice_get (state_of nodes log).clauses (suc p) ≡ Some (gates_clauses (before_step nodes log p).next (equality left right (before_step nodes log p).next).gates)
  pub before : Holds (before_step nodes log p) (state_of nodes log)
  pub within : p < length log

pub record IsSelectorStep (nodes : List Node) (log : List Entry) (p t : ℕ) : Type 0 where
  pub bit : Literal
  pub bits : (state_of nodes log).bits t ≡ Some (bit ∷ [])
  pub next : (before_step nodes log (suc p)).next ≡ suc (before_step nodes log p).next
  pub row : slice_get (state_of nodes log).clauses (suc p) ≡ Some (selector_clause (before_step nodes log p).next bit ∷ [])
  pub within : p < length log

-- each row of bits is such where the bits of each of the terms are
pub each_row : (P : List Literal → Type 0) (bits : ℕ → Option (List Literal)) (args : List ℕ) (rows : List (List Literal)) → AllByRecursion (λ t. (b : List Literal) → bits t ≡ Some b → P b) args → all_bits bits args ≡ Some rows → AllByRecursion P rows
each_row P bits [] rows each e = let q : [] ≡ rows = cc in subst (AllByRecursion P) q tt
each_row P bits (t ∷ ts) rows each e = go (bits t) (all_bits bits ts) refl (λ bs q. each_row P bits ts bs each.1 q) e
  where
    go : (o : Option (List Literal)) (os : Option (List (List Literal))) → bits t ≡ o → ((bs : List (List Literal)) → os ≡ Some bs → AllByRecursion P bs) → with_first o os ≡ Some rows → AllByRecursion P rows
    go None os p rest e = let r : ⊥ = cc in absurd r
    go (Some b) None p rest e = let r : ⊥ = cc in absurd r
    go (Some b) (Some bs) p rest e = let r : b ∷ bs ≡ rows = cc in subst (AllByRecursion P) r (each.0 b p, rest bs refl)

pub always : {A : Type 0} (P : A → Type 0) (xs : List A) → ((x : A) → P x) → AllByRecursion P xs
always P [] f = tt
always P (x ∷ xs) f = (f x, always P xs f)

module _ (nodes : List Node) (log : List Entry) (all : IsTermList nodes) (is : IsLog nodes log) where
  -- variable 1 is there before each step
  pub one_before : (p : ℕ) → 1 < (before_step nodes log p).next
  one_before p = (log_suits any_interpretation nodes all (take p log) (first_steps nodes start log p is)).next

  bits_before : (p t : ℕ) (b : List Literal) → (before_step nodes log p).bits t ≡ Some b → AreBelow (before_step nodes log p).next b
  bits_before p t b e = ((log_is_ordered nodes (take p log) all (first_steps nodes start log p is)).bits t b e).1

  leaf_of : (s r : LogState) (t n : ℕ) → r ≡ leaf_after s t (Some n) → Holds r (state_of nodes log) → (r.next ≡ s.next + n) × ((state_of nodes log).bits t ≡ Some (fresh_bits s.next n))
  leaf_of s r t n e h = (ap (λ x. x.next) e, h.bits t (fresh_bits s.next n) (ap (λ x. x.bits t) e ∙ value_here s.bits t (fresh_bits s.next n)))

  pub leaf_step : (p t : ℕ) → slice_get log p ≡ Some (step.Leaf t) → IsLeafStep nodes log p t
  leaf_step p t e =
      let m = made nodes start log p (step.Leaf t) is e in
      let s = before_step nodes log p in
      let i : IsLeaf nodes (before_step nodes log p) t = m.step in
      let n : 1 + p ≡ suc p = omega arith in
      let k = leaf_of s (before_step nodes log (suc p)) t i.width (m.leaves ∙ ap (leaf_after s t) i.constant) m.behind in
      record {
        width = i.width;
        term = i.term;
        bits = k.1;
        next = k.0;
        row = subst (λ q. slice_get (state_of nodes log).clauses q ≡ Some []) n m.row;
        within = m.within;
      }

  block_is : (s r : LogState) (t : ℕ) (b : Block) → r ≡ block_after s t (Some b) → Holds r (state_of nodes log) → (r.next ≡ s.next + length b.gates) × ((state_of nodes log).bits t ≡ Some b.bits)
  block_is s r t b e h = (ap (λ x. x.next) e, h.bits t b.bits (ap (λ x. x.bits t) e ∙ value_here s.bits t b.bits))

  pub encode_step : (p t : ℕ) → slice_get log p ≡ Some (step.Encode t) → IsEncodeStep nodes log p t
  encode_step p t e =
      let m = made nodes start log p (step.Encode t) is e in
      let s = before_step nodes log p in
      let node = node_at nodes t in
      let i : IsEncoding nodes (before_step nodes log p) t = m.step in
      let n : 1 + p ≡ suc p = omega arith in
      let left : before_step nodes log (suc p) ≡ block_after (before_step nodes log p) t (Some i.block) = m.leaves ∙ ap (block_after s t) i.circuit in
      let has : IsSome ((before_step nodes log (suc p)).bits t) = ap is_some (ap (λ x. x.bits t) left ∙ value_here s.bits t i.block.bits) in
      let k = block_is s (before_step nodes log (suc p)) t i.block left m.behind in
      let rows = block_rows s (node_at nodes t) i.block i.circuit in
      let below = each_row (AreBelow s.next) s.bits node.args rows.0 (always (λ u. (b : List Literal) → s.bits u ≡ Some b → AreBelow s.next b) node.args (bits_before p)) rows.1 in
      record {
        block = i.block;
        rows = rows.0;
        term = i.term;
        arguments = rows.1;
        stands = blocks_stand s.next node.op rows.0 i.block (one_before p) below rows.2;
        bits = k.1;
        next = k.0;
        row = subst (λ q. slice_get (state_of nodes log).clauses q ≡ Some (gates_clauses s.next i.block.gates)) n (m.row ∙ ap (λ o. Some (block_row s o)) i.circuit);
        before = m.before;
        free = m.behind.images t has ∙ ap (λ x. x.images t) left ∙ image_has_bits nodes (take p log) t (first_steps nodes start log p is) i.new;
        within = m.within;
      }

  pub rewrite_step : (p : ℕ) (r : RuleUse) → slice_get log p ≡ Some (step.Rewrite r) → IsRewriteStep nodes log p r
  rewrite_step p r e =
      let m = made nodes start log p (step.Rewrite r) is e in
      let s = before_step nodes log p in
      let i : IsRewrite nodes (before_step nodes log p) r = m.step in
      let n : 1 + p ≡ suc p = omega arith in
      let b = some_value ((before_step nodes log p).bits r.to) i.held in
      let left : before_step nodes log (suc p) ≡ rewrite_after (before_step nodes log p) r (Some b.0) = m.leaves ∙ ap (rewrite_after s r) b.1 in
      let has : (before_step nodes log (suc p)).bits r.from ≡ Some b.0 = ap (λ x. x.bits r.from) left ∙ value_here s.bits r.from b.0 in
      record {
        bits = b.0;
        earlier = b.1;
        own = m.behind.bits r.from b.0 has;
        image = m.behind.images r.from (ap is_some has) ∙ ap (λ x. x.images r.from) left ∙ value_here s.images r.from r.to;
        row = subst (λ q. slice_get (state_of nodes log).clauses q ≡ Some []) n m.row;
      }

  pub selector_step : (p a t : ℕ) → slice_get log p ≡ Some (step.Selector a t) → IsSelectorStep nodes log p t
  selector_step p a t e =
      let m = made nodes start log p (step.Selector a t) is e in
      let s = before_step nodes log p in
      let i : IsSelector nodes (before_step nodes log p) a t = m.step in
      let n : 1 + p ≡ suc p = omega arith in
      record {
        bit = i.bit;
        bits = m.before.bits t (i.bit ∷ []) i.encoded;
        next = ap (λ x. x.next) (m.leaves ∙ ap (selector_after s a t) i.encoded);
        row = subst (λ q. slice_get (state_of nodes log).clauses q ≡ Some (selector_clause s.next i.bit ∷ [])) n (m.row ∙ ap (λ o. Some (selector_row s o)) i.encoded);
        within = m.within;
      }

  equal_next : (s r : LogState) (t u : ℕ) (a b : List Literal) → r ≡ equal_after s t u (Some a) (Some b) → r.next ≡ s.next + length (equality a b s.next).gates
  equal_next s r t u a b e = ap (λ x. x.next) e

  pub equal_step : (p t u : ℕ) → slice_get log p ≡ Some (step.Equal t u) → IsEqualStep nodes log p t u
  equal_step p t u e =
      let m = made nodes start log p (step.Equal t u) is e in
      let s = before_step nodes log p in
      let i : IsEqual nodes (before_step nodes log p) t u = m.step in
      let n : 1 + p ≡ suc p = omega arith in
      let a = some_value ((before_step nodes log p).bits t) i.pair.left in
      let b = some_value ((before_step nodes log p).bits u) i.pair.right in
      record {
        left = a.0;
        right = b.0;
        left_bits = a.1;
        right_bits = b.1;
        stands = equality_stands s.next a.0 b.0 (one_before p) (bits_before p t a.0 a.1) (bits_before p u b.0 b.1);
        next = equal_next s (before_step nodes log (suc p)) t u a.0 b.0 (m.leaves ∙ ap (λ o. equal_after s t u o (s.bits u)) a.1 ∙ ap (equal_after s t u (Some a.0)) b.1);
        row = subst (λ q. slice_get (state_of nodes log).clauses q ≡ Some (gates_clauses s.next (equality a.0 b.0 s.next).gates)) n
            (m.row ∙ ap (λ o. Some (equal_row s o (s.bits u))) a.1 ∙ ap (λ o. Some (equal_row s (Some a.0) o)) b.1);
        before = m.before;
        within = m.within;
      }

  -- the clauses of a position that is no step of a circuit or of a selector, and no chain's
  pub plain_row : (p : ℕ) (n : Node) → slice_get log p ≡ Some (step.Node n) → slice_get (state_of nodes log).clauses (suc p) ≡ Some []
  plain_row p n e =
      let m = made nodes start log p (step.Node n) is e in
      let k : 1 + p ≡ suc p = omega arith in
      subst (λ q. slice_get (state_of nodes log).clauses q ≡ Some []) k m.row
