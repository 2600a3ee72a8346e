-- An assignment that makes the clauses of the steps of some terms true gives these terms the bits of their values.
use Rattle.std.proofs.Common.{◌≡◌, ℕ, zero, suc, ◌<◌, Bool, true, false, not, ◌||◌, List, [], ◌∷◌, ◌++◌, length, map, Option, Some, None, refl, sym, ap, ◌∙◌, subst, ⊎_elim, arith}
use Rattle.std.specs.Prelude.{Contains, IsSome, is_some, slice_get}
use Rattle.std.proofs.lemmas.Bool.{cases_lt}
use Rattle.std.proofs.lemmas.List.Elements.{Contains-append_right}
use Rattle.cnf_base.specs.Literals.{Literal, positive_of}
use Rattle.cnf_base.specs.Clauses.{no_id, lit_true, clause_true, all_true}
use Rattle.cnf_base.specs.Gates.{gates_clauses}
use Rattle.cnf_base.specs.declared.clause.ClauseId.{ClauseId}
use Rattle.cnf_base.proofs.Lists.{slice_get-push}
use Rattle.cnf_base.proofs.Options.{same_found, some_value}
use Rattle.smt_terms.specs.declared.sort.Sort.TheVariants as sort
use Rattle.smt_terms.specs.declared.node.Node.{Node}
use Rattle.smt_terms.specs.Nodes.{node_at}
use Rattle.smt_terms.specs.Terms.{IsTermList, sort_of}
use Rattle.smt_terms.specs.Values.{Interpretation, is_true, value}
use Rattle.smt_terms.specs.Bits.{bits_in, image_in}
use Rattle.smt_terms.proofs.Typing.{value_is}
use Rattle.bv_rules.proofs.Keeping.{matched}
use Rattle.bit_blast.specs.Blocks.{Block, with_first, all_bits, block_of}
use Rattle.bit_blast.specs.Meanings.{AreBitsOf, EachIsBits}
use Rattle.bit_blast.proofs.Fixing.{clauses_fix}
use Rattle.proof_log.specs.declared.entry.RuleUse.{RuleUse}
use Rattle.proof_log.specs.declared.entry.Entry.{Entry}
use Rattle.proof_log.specs.declared.entry.Entry.TheVariants as step
use Rattle.proof_log.specs.Logs.{Asserted, LogState, start, clause_in, clause_at, entry_at, IsStep, IsEncoding, IsRewrite, IsSelector, block_after, rewrite_after, selector_clause, selector_after, after, state_from, state_of, IsLog}
use Rattle.proof_log.specs.Places.{GivesBits, GivesSelector, IsForTerm}
use Rattle.proof_log.specs.Stored.{LogValue, IsKept, Stands}
use Rattle.proof_log.specs.Assigned.{IsTrueAt, stands_on, Satisfies, AreValues}
use Rattle.proof_log.proofs.Ordered.{steps_length}
use Rattle.proof_log.proofs.Staying.{Holds, state_from-append, steps_parts, steps_hold}
use Rattle.proof_log.proofs.Standing.{stands_over, value_here}
use Rattle.proof_log.proofs.Sound.{block_rows, log_is_sound}
use Rattle.proof_log.proofs.Placed.{later_at, no_later}
use Rattle.proof_log.proofs.Linked.{image_has_bits}

-- ---- clauses of a position

-- a clause of the last position, by its name
last_clause : (rows : List (List (List Literal))) (row : List (List Literal)) (k : ℕ) → clause_at (rows ++ row ∷ []) (record { pos = length rows; part = k }) ≡ slice_get row k
last_clause rows row k = ap (λ o. clause_in o k) (slice_get-push rows row)

row_true : (v : ℕ → Bool) (row : List (List Literal)) → ((k : ℕ) (c : List Literal) → slice_get row k ≡ Some c → clause_true v c ≡ true) → all_true v row ≡ true
row_true v [] h = refl
row_true v (c ∷ cs) h = rw (h 0 c refl) (row_true v cs (λ k d e. h (suc k) d e))

-- ---- the log before a step and behind it

record Parts (log : List Entry) (p : ℕ) (e : Entry) : Type 0 where
  pub before : List Entry
  pub more : List Entry
  pub whole : log ≡ before ++ e ∷ more
  pub place : p ≡ suc (length before)

parts : (log : List Entry) (p : ℕ) (e : Entry) → entry_at log p ≡ Some e → Parts log p e
parts log zero e h = let q : ⊥ = cc in absurd q
parts [] (suc p) e h = let q : ⊥ = cc in absurd q
parts (x ∷ log) (suc zero) e h = let q : x ≡ e = cc in record { before = []; more = log; whole = ap (λ y. y ∷ log) q; place = refl }
parts (x ∷ log) (suc (suc p)) e h =
    let k = parts log (suc p) e h in
    record { before = x ∷ k.before; more = k.more; whole = ap (λ l. x ∷ l) k.whole; place = ap suc k.place }

-- What stands before the step, that it may stand there, and that what it leaves stays. The terms that have bits before it got
-- them at earlier positions, and a term without bits has no image.
record Reached (nodes : List Node) (log : List Entry) (p : ℕ) (e : Entry) : Type 0 where
  pub state : LogState
  pub step : IsStep nodes state e
  pub place : p ≡ length state.clauses
  pub before : Holds state (state_of nodes log)
  pub behind : Holds (after nodes state e) (state_of nodes log)
  pub earlier : (t q : ℕ) → IsSome (state.bits t) → GivesBits log t q → q < p
  pub free : (t : ℕ) → state.bits t ≡ None → state.images t ≡ None

reached_step : (nodes : List Node) (log : List Entry) (p : ℕ) (e : Entry) → IsLog nodes log → entry_at log p ≡ Some e → Reached nodes log p e
reached_step nodes log p e is h =
    let k = parts log p e h in
    let whole : IsLog nodes (k.before ++ e ∷ k.more) = subst (IsLog nodes) k.whole is in
    let split = steps_parts nodes start k.before (e ∷ k.more) whole in
    let s = state_of nodes k.before in
    let all : state_of nodes log ≡ state_from nodes s (e ∷ k.more) = ap (state_of nodes) k.whole ∙ state_from-append nodes start k.before (e ∷ k.more) in
    record {
      state = state_of nodes k.before;
      step = split.1.0;
      place = k.place ∙ sym (steps_length nodes start k.before ∙ omega arith);
      before = subst (Holds (state_of nodes k.before)) (sym all) (steps_hold nodes (state_of nodes k.before) (e ∷ k.more) split.1);
      behind = subst (Holds (after nodes (state_of nodes k.before) e)) (sym all) (steps_hold nodes (after nodes (state_of nodes k.before) e) k.more split.1.1);
      earlier = λ t q has gives.
          ⊎_elim
          (λ lt. lt)
          (λ ge.
          let there : entry_at (k.before ++ e ∷ k.more) q ≡ Some gives.0 = ap (λ l. entry_at l q) (sym k.whole) ∙ gives.1 in
          let later = later_at k.before (e ∷ k.more) q gives.0 there (omega (arith, ge, k.place)) in
          absurd (no_later nodes s (e ∷ k.more) later.0 t gives.0 split.1 has later.1 gives.2))
          (cases_lt q p);
      free = λ t none. image_has_bits nodes k.before t split.0 none;
    }

-- ---- assignments

module _ (M : Interpretation) (nodes : List Node) (all : IsTermList nodes) (reached : ℕ → Type 0) (log : LogValue) (kept : IsKept nodes log) (v : ℕ → Bool) (h : Satisfies M nodes reached log v) where
  abbrev Valued : ℕ → Type 0
  Valued t = (b : List Literal) → bits_in log.bits t ≡ Some b → AreBitsOf v (sort_of nodes t) b (value M nodes t)

  -- the bits of a term, as the steps leave them
  found : (s : LogState) → Holds s (state_of nodes log.entries) → (t : ℕ) (b : List Literal) → s.bits t ≡ Some b → bits_in log.bits t ≡ Some b
  found s holds t b e = kept.bits t ∙ holds.bits t b e

  true_row : (s : LogState) (row : List (List Literal)) (p : ℕ) (r : LogState) → r.clauses ≡ s.clauses ++ row ∷ [] → Holds r (state_of nodes log.entries) → p ≡ length s.clauses → IsTrueAt log v p
      → (k : ℕ) (c : List Literal) → slice_get row k ≡ Some c → clause_true v c ≡ true
  true_row s row p r rows holds place is k c e =
      let id : ClauseId = record { pos = length s.clauses; part = k } in
      let own : clause_at r.clauses id ≡ Some c = ap (λ x. clause_at x id) rows ∙ last_clause s.clauses row k ∙ e in
      let there : clause_at log.clauses id ≡ Some c = ap (λ x. clause_at x id) kept.clauses ∙ holds.clauses id c own in
      is k c (ap (λ q. clause_at log.clauses (record { pos = q; part = k })) place ∙ there)

  one : v 1 ≡ true
  one =
      let e : (v 1 || false) ≡ true = h.first 0 _ (ap (λ x. clause_at x no_id) kept.clauses ∙ (steps_hold nodes start log.entries kept.steps).clauses no_id _ refl) in
      holds (v 1) e
    where
      holds : (b : Bool) → (b || false) ≡ true → b ≡ true
      holds true e = refl
      holds false e = e

  -- the bits that a term had are those of its value
  abbrev HasIn : LogState → ℕ → Type 0
  HasIn s t = (b : List Literal) → s.bits t ≡ Some b → AreBitsOf v (sort_of nodes t) b (value M nodes t)

  -- the rows of arguments are the bits of their values
  each_valued : (s : LogState) (args : List ℕ) (rows : List (List Literal)) → ((u : ℕ) → Contains args u → HasIn s u) → all_bits s.bits args ≡ Some rows
      → EachIsBits v (map (sort_of nodes) args) rows (map (value M nodes) args)
  each_valued s [] rows each e =
      let q : [] ≡ rows = cc in
      subst (λ r. EachIsBits v [] r []) q tt
  each_valued s (t ∷ ts) rows each e = go (s.bits t) (all_bits s.bits ts) refl (λ bs q. each_valued s ts bs (λ u k. each u (Contains-append_right (t ∷ []) ts u k)) q) e
    where
      go : (o : Option (List Literal)) (os : Option (List (List Literal))) → s.bits t ≡ o
          → ((bs : List (List Literal)) → os ≡ Some bs → EachIsBits v (map (sort_of nodes) ts) bs (map (value M nodes) ts))
          → with_first o os ≡ Some rows
          → EachIsBits v (sort_of nodes t ∷ map (sort_of nodes) ts) rows (value M nodes t ∷ map (value M nodes) ts)
      go None os p rest e = let r : ⊥ = cc in absurd r
      go (Some b) None p rest e = let r : ⊥ = cc in absurd r
      go (Some b) (Some bs) p rest e =
          let r : b ∷ bs ≡ rows = cc in
          subst (λ w. EachIsBits v (sort_of nodes t ∷ map (sort_of nodes) ts) w (value M nodes t ∷ map (value M nodes) ts)) r
          (each t (0, omega arith, refl) b p, rest bs refl)

  -- what a step gave a term is what the term has
  given : (s : LogState) (t : ℕ) (b : List Literal) → Holds s (state_of nodes log.entries) → s.bits t ≡ Some b → AreBitsOf v (sort_of nodes t) b (value M nodes t) → Valued t
  given s t b holds has own c q =
      subst (λ x. AreBitsOf v (sort_of nodes t) x (value M nodes t)) (same_found (bits_in log.bits t) b c (found s holds t b has) q) own

  -- the image that a step left a term with bits is the one that it has
  image_left : (s : LogState) (t : ℕ) (b : List Literal) → Holds s (state_of nodes log.entries) → s.bits t ≡ Some b → image_in log.bits t ≡ s.images t
  image_left s t b holds has = kept.images t ∙ holds.images t (ap is_some has)

  -- on what a reached term stands is reached
  leads : (t u : ℕ) (o : Option ℕ) → reached t → image_in log.bits t ≡ o → Contains (stands_on nodes t o) u → reached u
  leads t u o in_it image k = h.closed t u in_it (subst (λ x. Contains (stands_on nodes t x) u) (sym image) k)

  -- a term whose bits a circuit gave
  block_valued : (s : LogState) (t p : ℕ) (b : Block) → t < length nodes → block_of s.next s.bits (node_at nodes t) ≡ Some b → Holds (block_after s t (Some b)) (state_of nodes log.entries)
      → p ≡ length s.clauses → IsTrueAt log v p → ((u : ℕ) → Contains (node_at nodes t).args u → HasIn s u) → Valued t
  block_valued s t p b within e behind place is each =
      let node = node_at nodes t in
      let k = block_rows s (node_at nodes t) b e in
      let args = each_valued s node.args k.0 each k.1 in
      let term = all t within in
      let satisfied = row_true v (gates_clauses s.next b.gates) (true_row s (gates_clauses s.next b.gates) p (block_after s t (Some b)) refl behind place is) in
      let fixed = clauses_fix M v s.next node.op (map (sort_of nodes) node.args) k.0 (map (value M nodes) node.args) (sort_of nodes t) b one term.rank args k.2 satisfied in
      let own : AreBitsOf v (sort_of nodes t) b.bits (value M nodes t) = subst (AreBitsOf v (sort_of nodes t) b.bits) (sym (value_is M nodes t term)) fixed in
      given (block_after s t (Some b)) t b.bits behind (value_here s.bits t b.bits) own

  -- ---- all terms, each behind those on which it stands

  -- the reached terms that got their bits before a position have those of their values
  abbrev ValuedBelow : ℕ → Type 0
  ValuedBelow n = (t p : ℕ) → p < n → reached t → GivesBits log.entries t p → IsTrueAt log v p → Valued t

  -- so a reached term that had bits before a step
  earlier_valued : (n p : ℕ) (e : Entry) (r : Reached nodes log.entries p e) (t : ℕ) → p < suc n → ValuedBelow n → reached t → HasIn r.state t
  earlier_valued n p e r t lt below in_it b has =
      let k = h.steps t in_it in
      let first : k.0 < p = r.earlier t k.0 (ap is_some has) k.1 in
      below t k.0 (omega (arith, first, lt)) in_it k.1 k.2 b (found r.state r.before t b has)

  encode_valued : (n t p : ℕ) → p < suc n → ValuedBelow n → reached t → entry_at log.entries p ≡ Some (step.Encode t) → IsTrueAt log v p → Valued t
  encode_valued n t p lt below in_it e is =
      let r = reached_step nodes log.entries p (step.Encode t) kept.steps e in
      let i : IsEncoding nodes r.state t = r.step in
      let s = r.state in
      let behind : Holds (block_after r.state t (Some i.block)) (state_of nodes log.entries) = subst (λ o. Holds (block_after s t o) (state_of nodes log.entries)) i.circuit r.behind in
      let free : image_in log.bits t ≡ None = image_left (block_after s t (Some i.block)) t i.block.bits behind (value_here s.bits t i.block.bits) ∙ r.free t i.new in
      block_valued s t p i.block i.term i.circuit behind r.place is
      (λ u k. earlier_valued n p (step.Encode t) r u lt below (leads t u None in_it free k))

  -- a term that a rule takes to another has its bits, its sort and its value
  rewrite_valued : (n p : ℕ) (x : RuleUse) → p < suc n → ValuedBelow n → reached x.from → entry_at log.entries p ≡ Some (step.Rewrite x) → Valued x.from
  rewrite_valued n p x lt below in_it e =
      let r = reached_step nodes log.entries p (step.Rewrite x) kept.steps e in
      let i : IsRewrite nodes r.state x = r.step in
      let s = r.state in
      let b = some_value (r.state.bits x.to) i.held in
      let left = rewrite_after s x (Some b.0) in
      let behind : Holds (rewrite_after r.state x (Some b.0)) (state_of nodes log.entries) = subst (λ o. Holds (rewrite_after s x o) (state_of nodes log.entries)) b.1 r.behind in
      let has : (rewrite_after r.state x (Some b.0)).bits x.from ≡ Some b.0 = value_here s.bits x.from b.0 in
      let image : image_in log.bits x.from ≡ Some x.to = image_left left x.from b.0 behind has ∙ value_here s.images x.from x.to in
      let among : reached x.to = leads x.from x.to (Some x.to) in_it image (0, omega arith, refl) in
      let known = earlier_valued n p (step.Rewrite x) r x.to lt below among b.0 b.1 in
      let sort : sort_of nodes x.to ≡ sort_of nodes x.from = (matched nodes s.images i.ruled.rule x.from x.to i.ruled.takes).sort in
      let same : value M nodes x.to ≡ value M nodes x.from = ((log_is_sound nodes log.entries all kept.steps).images M x.from x.to (sym (kept.images x.from) ∙ image)).1 in
      given left x.from b.0 behind has (subst (λ w. AreBitsOf v w b.0 (value M nodes x.from)) sort (subst (AreBitsOf v (sort_of nodes x.to) b.0) same known))

  leaf_valued : (t p : ℕ) → reached t → entry_at log.entries p ≡ Some (step.Leaf t) → Valued t
  leaf_valued t p in_it e c q = h.leaves t p c in_it e q

  -- whichever step gave the term its bits
  given_valued : (n t p : ℕ) (e : Entry) → p < suc n → ValuedBelow n → reached t → entry_at log.entries p ≡ Some e → IsForTerm t e → IsTrueAt log v p → Valued t
  given_valued n t p (step.Leaf u) lt below in_it e for_term is =
      let own : u ≡ t = cc in
      leaf_valued t p in_it (e ∙ ap (λ x. Some (step.Leaf x)) own)
  given_valued n t p (step.Encode u) lt below in_it e for_term is =
      let own : u ≡ t = cc in
      encode_valued n t p lt below in_it (e ∙ ap (λ x. Some (step.Encode x)) own) is
  given_valued n t p (step.Rewrite r) lt below in_it e for_term is =
      let own : r.from ≡ t = cc in
      subst Valued own (rewrite_valued n p r lt below (subst reached (sym own) in_it) e)
  given_valued n t p other lt below in_it e for_term is = let f : ⊥ = cc in absurd f

  valued_below : (n : ℕ) → ValuedBelow n
  valued_below zero t p lt in_it gives is = absurd (omega (arith, lt))
  valued_below (suc n) t p lt in_it gives is = given_valued n t p gives.0 lt (valued_below n) in_it gives.1 gives.2 is

  pub valued : (t : ℕ) → reached t → Valued t
  valued t in_it = let k = h.steps t in_it in valued_below (suc k.0) t k.0 (omega arith) in_it k.1 k.2

  -- ---- selectors

  -- a selector that is true implies its bit
  implied : (p q : Bool) → (not p || (q || false)) ≡ true → p ≡ true → q ≡ true
  implied true true h e = refl
  implied true false h e = h
  implied false q h e = let r : ⊥ = cc in absurd r

  selector_valued : (s : LogState) (a t p : ℕ) (bit : Literal) → s.bits t ≡ Some (bit ∷ []) → sort_of nodes t ≡ sort.Bool → Holds s (state_of nodes log.entries)
      → Holds (selector_after s a t (Some (bit ∷ []))) (state_of nodes log.entries) → p ≡ length s.clauses → IsTrueAt log v p → (r : Asserted) → (state_of nodes log.entries).selectors a ≡ Some r → reached r.term
      → lit_true v r.literal ≡ true → is_true (value M nodes r.term) ≡ true
  selector_valued s a t p bit encoded bool before behind place is r made in_it holds =
      let own : Asserted = record { literal = positive_of s.next; term = t } in
      let same : own ≡ r = same_found ((state_of nodes log.entries).selectors a) own r (behind.selectors a own (value_here s.selectors a own)) made in
      let among : reached t = subst (λ (x : Asserted). reached x.term) (sym same) in_it in
      let row : List (List Literal) = selector_clause s.next bit ∷ [] in
      let clause : clause_true v (selector_clause s.next bit) ≡ true = true_row s row p (selector_after s a t (Some (bit ∷ []))) refl behind place is 0 (selector_clause s.next bit) refl in
      let means = subst (λ w. AreBitsOf v w (bit ∷ []) (value M nodes t)) bool (valued t among (bit ∷ []) (found s before t (bit ∷ []) encoded)) in
      let literal : bit ≡ means.0 = let q = means.1 in cc in
      let told : lit_true v (positive_of s.next) ≡ true → is_true (value M nodes t) ≡ true = λ q. ap is_true means.2 ∙ ap (lit_true v) (sym literal) ∙ implied (v s.next) (lit_true v bit) clause q in
      (subst (λ (y : Asserted). lit_true v y.literal ≡ true → is_true (value M nodes y.term) ≡ true) same told) holds

  pub selected : (a p : ℕ) (r : Asserted) → reached r.term → (state_of nodes log.entries).selectors a ≡ Some r → GivesSelector log.entries a p → IsTrueAt log v p → lit_true v r.literal ≡ true → is_true (value M nodes r.term) ≡ true
  selected a p r in_it made gives is holds =
      let t = gives.0 in
      let k = reached_step nodes log.entries p (step.Selector a t) kept.steps gives.1 in
      let i : IsSelector nodes k.state a t = k.step in
      selector_valued k.state a t p i.bit i.encoded i.sort k.before (subst (λ o. Holds (selector_after k.state a t o) (state_of nodes log.entries)) i.encoded k.behind) k.place is r made in_it holds

pub terms_valued : (M : Interpretation) (nodes : List Node) (reached : ℕ → Type 0) (log : LogValue) (v : ℕ → Bool) → IsTermList nodes → Stands nodes log → Satisfies M nodes reached log v → AreValues M nodes reached log v
terms_valued M nodes reached log v all stands h =
    let kept = stands_over nodes log stands in
    record {
      bits = λ t b in_it e. valued M nodes all reached log kept v h t in_it b e;
      selectors = λ a p r in_it made gives is holds. selected M nodes all reached log kept v h a p r in_it made gives is holds;
    }
