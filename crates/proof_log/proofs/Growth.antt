-- Logs that searches add to, and what a board's calls keep.
use Rattle.std.proofs.Common.{◌≡◌, ℕ, zero, suc, ◌+◌, ◌<◌, ◌≤◌, List, [], ◌∷◌, ◌++◌, length, Option, Some, None, refl, sym, ap, ◌∙◌, subst, inl, inr, arith, append_assoc, append-nil, length-append}
use Rattle.std.specs.Prelude.{◌⊎◌, slice_get, Result, Ok, Err, IfOk, OnErr}
use Rattle.std.specs.declared.alloc.AllocError.{AllocError}
use Rattle.std.specs.List.{AllByRecursion}
use Rattle.std.proofs.lemmas.Bool.{cases_lt}
use Rattle.std.proofs.lemmas.Option.{slice_get_within}
use Rattle.cnf_base.specs.Choices.{equal_gates}
use Rattle.cnf_base.specs.Gates.{gates_clauses}
use Rattle.bit_blast.specs.Blocks.{Block, block_of}
use Rattle.smt_terms.specs.Nodes.{node_at}
use Rattle.cnf_base.specs.Literals.{Literal, true_literal}
use Rattle.cnf_base.specs.Assignments.{AreBelow}
use Rattle.cnf_base.specs.declared.clause.ClauseId.{ClauseId}
use Rattle.cnf_base.proofs.Agreeing.{AreBelow-more}
use Rattle.cnf_base.proofs.Lists.{each_append, slice_get-append_left, slice_get-at}
use Rattle.hint_chain.proofs.Growing.{IsChain-grows}
use Rattle.smt_terms.specs.declared.node.Node.{Node}
use Rattle.smt_terms.specs.Terms.{IsTermList, TermsValue}
use Rattle.theory_lemmas.specs.declared.fault.LemmaFault.{LemmaFault}
use Rattle.theory_lemmas.specs.Clauses.{clause_of}
use Rattle.proof_log.specs.declared.entry.RuleUse.{RuleUse}
use Rattle.proof_log.specs.declared.entry.Entry.{Entry}
use Rattle.proof_log.specs.declared.entry.Entry.TheVariants as step
use Rattle.proof_log.specs.declared.entry.Role.TheVariants as role
use Rattle.proof_log.specs.Logs.{LogState, start, clause_in, clause_at, entry_at, leaf_width, selector_clause, IsStep, leaf_after, block_after, selector_after, equal_after, rewrite_after, lemma_after, after, state_from, state_of, IsLog}
use Rattle.proof_log.specs.Stored.{LogValue, Stands, IsPushed, clauses_of}
use Rattle.proof_log.specs.Faults.{IsValid, MakesNoTerm}
use Rattle.proof_log.specs.Boards.{IsOfSearch, IsAdded, Grows, IsLater, IsPutAt, KnowsOneMore, IsClauseOf}
use Rattle.proof_log.proofs.Growing.{clause_within}
use Rattle.proof_log.proofs.Staying.{Holds, state_from-append, steps_parts, steps_hold}
use Rattle.proof_log.proofs.Standing.{stands_over}
use Rattle.proof_log.proofs.Ordered.{log_is_ordered, steps_length}

-- ---- growth

pub grows_same : (log : List Entry) → Grows log log
grows_same log = record { more = []; is = sym (append-nil log); of_search = tt }

pub grows_then : (a b c : List Entry) → Grows a b → Grows b c → Grows a c
grows_then a b c g h = record {
  more = g.more ++ h.more;
  is = h.is ∙ ap (λ l. l ++ h.more) g.is ∙ append_assoc a g.more h.more;
  of_search = each_append IsOfSearch g.more h.more g.of_search h.of_search;
}

pub grows_one : (log : List Entry) (e : Entry) → IsOfSearch e → Grows log (log ++ e ∷ [])
grows_one log e k = record { more = e ∷ []; is = refl; of_search = (k, tt) }

pub later_same : (nodes : List Node) (log : List Entry) (known : ℕ → Type 0) → IsLog nodes log → IsLater nodes nodes log log known known
later_same nodes log known h = record { nodes = refl; grows = grows_same log; knows = λ p k. k; stands = h }

pub later_then : (a b c : List Node) (l m n : List Entry) (p q r : ℕ → Type 0) → IsLater a b l m p q → IsLater b c m n q r → IsLater a c l n p r
later_then a b c l m n p q r h k = record {
  nodes = k.nodes ∙ h.nodes;
  grows = grows_then l m n h.grows k.grows;
  knows = λ x y. k.knows x (h.knows x y);
  stands = k.stands;
}

-- what a log has that grew
pub grown_holds : (nodes : List Node) (log log' : List Entry) → Grows log log' → IsLog nodes log' → Holds (state_of nodes log) (state_of nodes log')
grown_holds nodes log log' g h =
    let parts = steps_parts nodes start log g.more (subst (IsLog nodes) g.is h) in
    let is = ap (state_of nodes) g.is ∙ state_from-append nodes start log g.more in
    subst (Holds (state_of nodes log)) (sym is) (steps_hold nodes (state_of nodes log) g.more parts.1)

-- a chain gives no term bits and no assertion a selector
search_keeps : (nodes : List Node) (s : LogState) (more : List Entry) → AllByRecursion IsOfSearch more → ((state_from nodes s more).bits ≡ s.bits) × ((state_from nodes s more).selectors ≡ s.selectors)
search_keeps nodes s [] h = (refl, refl)
search_keeps nodes s (step.Chain c hints ∷ more) h = search_keeps nodes (after nodes s (step.Chain c hints)) more h.1
search_keeps nodes s (e ∷ more) h = let q = h.0 in let f : ⊥ = cc in absurd f

-- nor an image
search_images : (nodes : List Node) (s : LogState) (more : List Entry) → AllByRecursion IsOfSearch more → (state_from nodes s more).images ≡ s.images
search_images nodes s [] h = refl
search_images nodes s (step.Chain c hints ∷ more) h = search_images nodes (after nodes s (step.Chain c hints)) more h.1
search_images nodes s (e ∷ more) h = let q = h.0 in let f : ⊥ = cc in absurd f

equal_keeps : (s : LogState) (t u : ℕ) (o p : Option (List Literal)) → ((equal_after s t u o p).bits ≡ s.bits) × ((equal_after s t u o p).selectors ≡ s.selectors)
equal_keeps s t u None p = (refl, refl)
equal_keeps s t u (Some a) None = (refl, refl)
equal_keeps s t u (Some a) (Some b) = (refl, refl)

lemma_keeps : (s : LogState) (o : Result (List Literal) LemmaFault) → ((lemma_after s o).bits ≡ s.bits) × ((lemma_after s o).selectors ≡ s.selectors)
lemma_keeps s (Err f) = (refl, refl)
lemma_keeps s (Ok c) = (refl, refl)

-- a step that makes no term, gives no term bits and no assertion a selector leaves both as they are
pub added_keeps : (nodes : List Node) (s : LogState) (e : Entry) → IsAdded e → ((after nodes s e).bits ≡ s.bits) × ((after nodes s e).selectors ≡ s.selectors)
added_keeps nodes s (step.Chain c hints) h = (refl, refl)
added_keeps nodes s (step.Equal t u) h = equal_keeps s t u (s.bits t) (s.bits u)
added_keeps nodes s (step.Lemma l) h = lemma_keeps s (clause_of nodes s.bits s.equals l)
added_keeps nodes s e h = let f : ⊥ = cc in absurd f

-- bits and selectors stay
pub grown_keeps : (nodes : List Node) (log log' : List Entry) → Grows log log' → ((state_of nodes log').bits ≡ (state_of nodes log).bits) × ((state_of nodes log').selectors ≡ (state_of nodes log).selectors)
grown_keeps nodes log log' g =
    let is = ap (state_of nodes) g.is ∙ state_from-append nodes start log g.more in
    let k = search_keeps nodes (state_of nodes log) g.more g.of_search in
    (ap (λ s. s.bits) is ∙ k.0, ap (λ s. s.selectors) is ∙ k.1)

-- images stay
pub grown_images : (nodes : List Node) (log log' : List Entry) → Grows log log' → (state_of nodes log').images ≡ (state_of nodes log).images
grown_images nodes log log' g =
    ap (λ s. s.images) (ap (state_of nodes) g.is ∙ state_from-append nodes start log g.more) ∙ search_images nodes (state_of nodes log) g.more g.of_search

pub grown_length : (log log' : List Entry) → Grows log log' → length log ≤ length log'
grown_length log log' g = omega (arith, ap length g.is, length-append log g.more)

-- ---- places

-- as many positions as steps, and position 0
pub positions : (nodes : List Node) (log : List Entry) → length (state_of nodes log).clauses ≡ suc (length log)
positions nodes log = omega (arith, steps_length nodes start log)

pub entry_within : (log : List Entry) (p : ℕ) (e : Entry) → entry_at log p ≡ Some e → p ≤ length log
entry_within log zero e h = omega arith
entry_within log (suc p) e h = let k = slice_get_within log p e h in omega (arith, k)

pub entry_left : (log more : List Entry) (p : ℕ) → p ≤ length log → entry_at (log ++ more) p ≡ entry_at log p
entry_left log more zero le = refl
entry_left log more (suc p) le = slice_get-append_left log more p (omega (arith, le))

pub entry_stays : (log log' : List Entry) (p : ℕ) → Grows log log' → p ≤ length log → entry_at log' p ≡ entry_at log p
entry_stays log log' p g le = ap (λ l. entry_at l p) g.is ∙ entry_left log g.more p le

-- ---- what a step of a log has

-- the clauses that a step adds
abbrev pub block_row : LogState → Option Block → List (List Literal)
block_row s None = []
block_row s (Some b) = gates_clauses s.next b.gates

abbrev pub selector_row : LogState → Option (List Literal) → List (List Literal)
selector_row s None = []
selector_row s (Some []) = []
selector_row s (Some (bit ∷ bits)) = selector_clause s.next bit ∷ []

abbrev pub equal_row : LogState → Option (List Literal) → Option (List Literal) → List (List Literal)
equal_row s None p = []
equal_row s (Some a) None = []
equal_row s (Some a) (Some b) = gates_clauses s.next (equal_gates s.next true_literal a b)

abbrev pub lemma_row : Result (List Literal) LemmaFault → List (List Literal)
lemma_row (Err f) = []
lemma_row (Ok c) = c ∷ []

abbrev pub row_of : List Node → LogState → Entry → List (List Literal)
row_of nodes s (step.Encode t) = block_row s (block_of s.next s.bits (node_at nodes t))
row_of nodes s (step.Selector a t) = selector_row s (s.bits t)
row_of nodes s (step.Equal t u) = equal_row s (s.bits t) (s.bits u)
row_of nodes s (step.Lemma l) = lemma_row (clause_of nodes s.bits s.equals l)
row_of nodes s e = clauses_of e []

leaf_adds : (s : LogState) (t : ℕ) (o : Option ℕ) → (leaf_after s t o).clauses ≡ s.clauses ++ [] ∷ []
leaf_adds s t None = refl
leaf_adds s t (Some n) = refl

block_adds : (s : LogState) (t : ℕ) (o : Option Block) → (block_after s t o).clauses ≡ s.clauses ++ block_row s o ∷ []
block_adds s t None = refl
block_adds s t (Some b) = refl

selector_adds : (s : LogState) (a t : ℕ) (o : Option (List Literal)) → (selector_after s a t o).clauses ≡ s.clauses ++ selector_row s o ∷ []
selector_adds s a t None = refl
selector_adds s a t (Some []) = refl
selector_adds s a t (Some (bit ∷ bits)) = refl

equal_adds : (s : LogState) (t u : ℕ) (o p : Option (List Literal)) → (equal_after s t u o p).clauses ≡ s.clauses ++ equal_row s o p ∷ []
equal_adds s t u None p = refl
equal_adds s t u (Some a) None = refl
equal_adds s t u (Some a) (Some b) = refl

rewrite_adds : (s : LogState) (r : RuleUse) (o : Option (List Literal)) → (rewrite_after s r o).clauses ≡ s.clauses ++ [] ∷ []
rewrite_adds s r None = refl
rewrite_adds s r (Some b) = refl

lemma_adds : (s : LogState) (o : Result (List Literal) LemmaFault) → (lemma_after s o).clauses ≡ s.clauses ++ lemma_row o ∷ []
lemma_adds s (Err f) = refl
lemma_adds s (Ok c) = refl

-- each step has one position
pub step_adds : (nodes : List Node) (s : LogState) (e : Entry) → (after nodes s e).clauses ≡ s.clauses ++ row_of nodes s e ∷ []
step_adds nodes s (step.Leaf t) = leaf_adds s t (leaf_width nodes t)
step_adds nodes s (step.Encode t) = block_adds s t (block_of s.next s.bits (node_at nodes t))
step_adds nodes s (step.Selector a t) = selector_adds s a t (s.bits t)
step_adds nodes s (step.Equal t u) = equal_adds s t u (s.bits t) (s.bits u)
step_adds nodes s (step.Rewrite r) = rewrite_adds s r (s.bits r.to)
step_adds nodes s (step.Lemma l) = lemma_adds s (clause_of nodes s.bits s.equals l)
step_adds nodes s e = refl

pub steps_rows : (nodes : List Node) (s : LogState) (log : List Entry) → (rest : List (List (List Literal))) × ((state_from nodes s log).clauses ≡ s.clauses ++ rest)
steps_rows nodes s [] = ([], sym (append-nil s.clauses))
steps_rows nodes s (e ∷ log) =
    let k = steps_rows nodes (after nodes s e) log in
    (row_of nodes s e ∷ k.0, k.1 ∙ ap (λ l. l ++ k.0) (step_adds nodes s e) ∙ append_assoc s.clauses (row_of nodes s e ∷ []) k.0)

-- ---- old clauses

-- the clause of a name at an old position stays, also where there is none
pub clause_stays : (nodes : List Node) (log log' : List Entry) (id : ClauseId) → Grows log log' → id.pos ≤ length log → clause_at (state_of nodes log').clauses id ≡ clause_at (state_of nodes log).clauses id
clause_stays nodes log log' id g le =
    let is = ap (λ l. (state_of nodes l).clauses) g.is ∙ ap (λ s. s.clauses) (state_from-append nodes start log g.more) in
    let k = steps_rows nodes (state_of nodes log) g.more in
    let lt : id.pos < length (state_of nodes log).clauses = omega (arith, le, positions nodes log) in
    ap (λ o. clause_in o id.part) (ap (λ rs. slice_get rs id.pos) (is ∙ k.1) ∙ slice_get-append_left (state_of nodes log).clauses k.0 id.pos lt)

pub clause_place : (nodes : List Node) (log : List Entry) (id : ClauseId) (c : List Literal) → clause_at (state_of nodes log).clauses id ≡ Some c → id.pos ≤ length log
clause_place nodes log id c e = let k = clause_within (state_of nodes log).clauses id c e in omega (arith, k, positions nodes log)

-- ---- chains

-- a valid step of a search stays valid
pub step_stays : (nodes nodes' : List Node) (log log' : List Entry) (known known' : ℕ → Type 0) → IsLater nodes nodes' log log' known known' → (c : List Literal) (hints : List ClauseId) → IsStep nodes (state_of nodes log) (step.Chain c hints) → IsStep nodes' (state_of nodes' log') (step.Chain c hints)
step_stays nodes nodes' log log' known known' h c hints v =
    let k = grown_holds nodes log log' h.grows (subst (λ n. IsLog n log') h.nodes h.stands) in
    subst (λ n. IsStep n (state_of n log') (step.Chain c hints)) (sym h.nodes)
    (AreBelow-more _ _ k.next c v.0, IsChain-grows _ _ k.clauses c hints v.1)

-- ---- the clauses of a chain

chain_row_from : (nodes : List Node) (s : LogState) (log : List Entry) (p : ℕ) (c : List Literal) (hints : List ClauseId) → slice_get log p ≡ Some (step.Chain c hints) → slice_get (state_from nodes s log).clauses (length s.clauses + p) ≡ Some (c ∷ [])
chain_row_from nodes s [] p c hints e = let f : ⊥ = cc in absurd f
chain_row_from nodes s (d ∷ log) zero c hints e =
    let q : d ≡ step.Chain c hints = cc in
    let k = steps_rows nodes (after nodes s (step.Chain c hints)) log in
    let n : length s.clauses + 0 ≡ length s.clauses = omega arith in
    ap (λ x. slice_get (state_from nodes (after nodes s x) log).clauses (length s.clauses + 0)) q
    ∙ ap (λ i. slice_get (state_from nodes (after nodes s (step.Chain c hints)) log).clauses i) n
    ∙ ap (λ rs. slice_get rs (length s.clauses)) (k.1 ∙ append_assoc s.clauses ((c ∷ []) ∷ []) k.0)
    ∙ slice_get-at s.clauses (c ∷ []) k.0
chain_row_from nodes s (d ∷ log) (suc p) c hints e =
    let n : length s.clauses + suc p ≡ length (after nodes s d).clauses + p = omega (arith, ap length (step_adds nodes s d), length-append s.clauses (row_of nodes s d ∷ [])) in
    ap (λ i. slice_get (state_from nodes (after nodes s d) log).clauses i) n ∙ chain_row_from nodes (after nodes s d) log p c hints e

-- the position of a chain has the chain's clause alone
pub chain_row : (nodes : List Node) (log : List Entry) (p : ℕ) (c : List Literal) (hints : List ClauseId) → entry_at log p ≡ Some (step.Chain c hints) → slice_get (state_of nodes log).clauses p ≡ Some (c ∷ [])
chain_row nodes log zero c hints e = let f : ⊥ = cc in absurd f
chain_row nodes log (suc p) c hints e =
    let n : 1 + p ≡ suc p = omega arith in
    subst (λ i. slice_get (state_of nodes log).clauses i ≡ Some (c ∷ [])) n (chain_row_from nodes start log p c hints e)

pub chain_clause : (nodes : List Node) (log : List Entry) (p : ℕ) (c : List Literal) (hints : List ClauseId) → entry_at log p ≡ Some (step.Chain c hints) → clause_at (state_of nodes log).clauses (record { pos = p; part = 0 }) ≡ Some c
chain_clause nodes log p c hints e = ap (λ o. clause_in o 0) (chain_row nodes log p c hints e)

pub chain_part : (nodes : List Node) (log : List Entry) (id : ClauseId) (c d : List Literal) (hints : List ClauseId) → entry_at log id.pos ≡ Some (step.Chain c hints) → clause_at (state_of nodes log).clauses id ≡ Some d → (id.part ≡ 0) × (d ≡ c)
chain_part nodes log id c d hints e h = go id.part refl
  where
    at : (k : ℕ) → id.part ≡ k → slice_get (c ∷ []) k ≡ Some d
    at k q = ap (λ j. slice_get (c ∷ []) j) (sym q) ∙ sym (ap (λ o. clause_in o id.part) (chain_row nodes log id.pos c hints e)) ∙ h

    go : (k : ℕ) → id.part ≡ k → (id.part ≡ 0) × (d ≡ c)
    go zero q = let r = at zero q in let s : d ≡ c = cc in (q, s)
    go (suc k) q = let r = at (suc k) q in let f : ⊥ = cc in absurd f

-- ---- what was put

pub put_entry : (old new : List Entry) (e : Entry) (p : ℕ) → IsPutAt old e p new → entry_at new p ≡ Some e
put_entry old new e p h = ap (λ l. entry_at l p) h.is ∙ ap (entry_at ((old ++ h.between) ++ e ∷ [])) h.place ∙ slice_get-at (old ++ h.between) e []

pub put_clause : (nodes : List Node) (old new : List Entry) (c : List Literal) (hints : List ClauseId) (p : ℕ) → IsPutAt old (step.Chain c hints) p new → clause_at (state_of nodes new).clauses (record { pos = p; part = 0 }) ≡ Some c
put_clause nodes old new c hints p h = chain_clause nodes new p c hints (put_entry old new (step.Chain c hints) p h)

-- the position was not one of the log before
pub put_is_new : (old new : List Entry) (e : Entry) (p : ℕ) → IsPutAt old e p new → length old < p
put_is_new old new e p h = omega (arith, h.place, length-append old h.between)

pub put_within : (old new : List Entry) (e : Entry) (p : ℕ) → IsPutAt old e p new → p ≤ length new
put_within old new e p h = entry_within new p e (put_entry old new e p h)

-- ---- clauses of a log are of variables that there are

pub clauses_exist : (nodes : List Node) (log : List Entry) → IsTermList nodes → IsLog nodes log → (id : ClauseId) (c : List Literal) → clause_at (state_of nodes log).clauses id ≡ Some c → AreBelow (state_of nodes log).next c
clauses_exist nodes log all h = (log_is_ordered nodes log all h).clauses

-- ---- a log alone

-- a chain makes no term, gives no term bits, and no assertion a selector
pub chain_is_added : (e : Entry) → IsOfSearch e → IsAdded e
chain_is_added (step.Chain c hints) h = refl
chain_is_added e h = let f : ⊥ = cc in absurd f

-- a step of a search is one that a log takes
pub search_step : (e : Entry) → IsOfSearch e → MakesNoTerm e
search_step e h = λ m. let r : role.Search ≡ role.Term = sym (chain_is_added e h) ∙ m in cc

pub search_valid : (v : TermsValue) (s : LogState) (e : Entry) → IsOfSearch e → IsStep v.nodes s e → IsValid v s e
search_valid v s (step.Node n) h k = let f : ⊥ = cc in absurd f
search_valid v s e h k = k

pub board_stands : (nodes : List Node) (l : LogValue) → Stands nodes l → IsLog nodes l.entries
board_stands nodes l h = (stands_over nodes l h).steps

board_pushed : (nodes : List Node) (old new : LogValue) (e : Entry) (p : ℕ) → IsOfSearch e → IsPushed nodes old new e p → IsLater nodes nodes old.entries new.entries (λ q. q < suc (length old.entries)) (λ q. q < suc (length new.entries))
board_pushed nodes old new e p k h = record {
  nodes = refl;
  grows = record { more = e ∷ []; is = h.entries; of_search = (k, tt) };
  knows = λ q lt. omega (arith, lt, ap length h.entries, length-append old.entries (e ∷ []));
  stands = board_stands nodes new h.stands;
}

pub board_same : (nodes : List Node) (l : LogValue) → Stands nodes l → IsLater nodes nodes l.entries l.entries (λ q. q < suc (length l.entries)) (λ q. q < suc (length l.entries))
board_same nodes l h = later_same nodes l.entries (λ q. q < suc (length l.entries)) (board_stands nodes l h)

pub board_later : (nodes : List Node) (old new : LogValue) (e : Entry) (r : Result ℕ AllocError) → Stands nodes old → IsOfSearch e → IfOk r (IsPushed nodes old new e) → OnErr r (new ≡ old) → IsLater nodes nodes old.entries new.entries (λ q. q < suc (length old.entries)) (λ q. q < suc (length new.entries))
board_later nodes old new e (Ok p) h k pushed same = board_pushed nodes old new e p k pushed
board_later nodes old new e (Err x) h k pushed same = subst (λ l. IsLater nodes nodes old.entries l.entries (λ q. q < suc (length old.entries)) (λ q. q < suc (length l.entries))) (sym same) (board_same nodes old h)

pub board_put : (nodes : List Node) (old new : LogValue) (e : Entry) (p : ℕ) → IsPushed nodes old new e p → IsPutAt old.entries e p new.entries
board_put nodes old new e p h = record {
  between = [];
  is = h.entries ∙ ap (λ l. l ++ e ∷ []) (sym (append-nil old.entries));
  place = h.position ∙ ap (λ l. suc (length l)) (sym (append-nil old.entries));
}

pub board_known : (nodes : List Node) (old new : LogValue) (e : Entry) (p : ℕ) → IsPushed nodes old new e p → KnowsOneMore (λ q. q < suc (length old.entries)) p (λ q. q < suc (length new.entries))
board_known nodes old new e p h =
    let n = ap length h.entries ∙ length-append old.entries (e ∷ []) in
    (omega (arith, h.position, n), λ q lt. split q lt (cases_lt q (suc (length old.entries))))
  where
    split : (q : ℕ) → q < suc (length new.entries) → (q < suc (length old.entries)) ⊎ (suc (length old.entries) ≤ q) → (q < suc (length old.entries)) ⊎ (q ≡ p)
    split q lt (inl less) = inl less
    split q lt (inr more) = inr (omega (arith, lt, more, h.position, ap length h.entries, length-append old.entries (e ∷ [])))

pub board_clause : (nodes : List Node) (l : LogValue) (id : ClauseId) (o : Option (List Literal)) → Stands nodes l → o ≡ clause_at l.clauses id → IsClauseOf nodes l.entries (λ p. p < suc (length l.entries)) id o
board_clause nodes l id o h e = go o (e ∙ ap (λ rs. clause_at rs id) (stands_over nodes l h).clauses)
  where
    go : (o : Option (List Literal)) → o ≡ clause_at (state_of nodes l.entries).clauses id → IsClauseOf nodes l.entries (λ p. p < suc (length l.entries)) id o
    go None e = λ known. sym e
    go (Some c) e = sym e
