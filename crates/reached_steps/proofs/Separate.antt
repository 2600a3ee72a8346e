-- Each clause of a step that is none of those of reached terms has a variable that stands in no clause of these.
use Rattle.std.proofs.Common.{◌≡◌, ℕ, zero, suc, ◌+◌, ◌<◌, ◌≤◌, Bool, true, false, List, [], ◌∷◌, length, Option, Some, None, refl, sym, ap, ◌∙◌, subst, inl, inr, ⊎_elim, arith}
use Rattle.std.specs.Prelude.{◌⊎◌, ◌==◌, Contains, is_some, slice_get}
use Rattle.std.specs.List.{AllByRecursion}
use Rattle.std.proofs.lemmas.Bool.{eqb-true, eq-eqb}
use Rattle.std.proofs.lemmas.List.Elements.{All-contains, Contains-append_right, Contains-append_cases, Contains-push_cases}
use Rattle.cnf_base.specs.Literals.{Literal, negative_of, true_literal}
use Rattle.cnf_base.specs.Assignments.{fresh_bits}
use Rattle.cnf_base.specs.Gates.{gates_clauses}
use Rattle.cnf_base.proofs.Lists.{Contains-nil, each_member, Contains-one, slice_get-there}
use Rattle.smt_terms.specs.declared.node.Node.{Node}
use Rattle.smt_terms.specs.Nodes.{node_at}
use Rattle.smt_terms.specs.Terms.{IsTermList}
use Rattle.bit_blast.specs.Circuits.{equality}
use Rattle.proof_log.specs.declared.entry.RuleUse.{RuleUse}
use Rattle.proof_log.specs.declared.entry.Entry.{Entry}
use Rattle.proof_log.specs.declared.entry.Entry.TheVariants as step
use Rattle.proof_log.specs.Logs.{start, clause_in, entry_at, selector_clause, state_of, IsLog}
use Rattle.proof_log.specs.Places.{GivesBits, IsForTerm}
use Rattle.proof_log.specs.Assigned.{stands_on}
use Rattle.proof_log.specs.Diaries.{is_chain}
use Rattle.proof_log.proofs.Growth.{clause_place, steps_rows}
use Rattle.proof_log.proofs.Leaves.{word_at}
use Rattle.proof_log.proofs.Ordered.{log_is_ordered}
use Rattle.proof_log.proofs.Placed.{given_earlier}
use Rattle.proof_log.proofs.Standing.{stands_over}
use Rattle.cube_search.specs.Holding.{Occurs, AreSeparate}
use Rattle.reached_steps.specs.Circuits.{IsOfBlock}
use Rattle.reached_steps.specs.Reached.{IsOfTerms, AreReachedSteps, ReachedStepsAreSeparate, StoredStepsAreSeparate}
use Rattle.reached_steps.specs.Opening.{IsMadeAt, IsBitOf, IsOfPair, IsOfLemma, AreOpeningSteps, OpeningStepsAreApart, OpeningStepsAreSeparate, StoredOpeningsAreSeparate}
use Rattle.reached_steps.proofs.Inputs.{AreOf}
use Rattle.reached_steps.proofs.Clauses.{each_if}
use Rattle.reached_steps.proofs.Steps.{row_has, before_step, IsEncodeStep, IsEqualStep, equal_step, each_row, bits_stay, one_before, leaf_step, encode_step, rewrite_step, selector_step, plain_row}

-- ---- lists

pub is_in : (xs : List ℕ) (x : ℕ) → Contains xs x ⊎ (Contains xs x → ⊥)
is_in [] x = inr (Contains-nil x)
is_in (y ∷ xs) x = go (y == x) refl (is_in xs x)
  where
    go : (b : Bool) → (y == x) ≡ b → Contains xs x ⊎ (Contains xs x → ⊥) → Contains (y ∷ xs) x ⊎ (Contains (y ∷ xs) x → ⊥)
    go true e k = inl (0, omega arith, eqb-true y x e)
    go false e (inl k) = inl (Contains-append_right (y ∷ []) xs x k)
    go false e (inr k) = inr (λ h.
        ⊎_elim
        (λ p. ⊎_elim (λ q. Contains-nil x q) (λ q. let r : (y == x) ≡ true = eq-eqb y x q in let f : ⊥ = cc in f) (Contains-push_cases [] y x p))
        k
        (Contains-append_cases (y ∷ []) xs x h))

one_of_two : (l m x : Literal) → Contains (l ∷ m ∷ []) x → (l ≡ x) ⊎ (m ≡ x)
one_of_two l m x h = ⊎_elim (λ p. inl (Contains-one l x p)) (λ p. inr (Contains-one m x p)) (Contains-append_cases (l ∷ []) (m ∷ []) x h)

-- the first position has the clause of variable 1 alone
first_row : (nodes : List Node) (log : List Entry) (k : ℕ) (c : List Literal) → clause_in (slice_get (state_of nodes log).clauses 0) k ≡ Some c → Contains ((true_literal ∷ []) ∷ []) c
first_row nodes log k c e =
    let r = steps_rows nodes start log in
    row_has (state_of nodes log).clauses 0 k ((true_literal ∷ []) ∷ []) c (ap (λ rows. slice_get rows 0) r.1) e

-- ---- variables

module _ (nodes : List Node) (log : List Entry) (reached positions : List ℕ) (all : IsTermList nodes) (is : IsLog nodes log) (h : AreOpeningSteps nodes log reached positions) where
  -- variable 1, or one that a step at one of the positions made
  abbrev Own : ℕ → Type 0
  Own = IsMadeAt nodes log positions

  owned : (p x : ℕ) → Contains positions (suc p) → p < length log → (before_step nodes log p).next ≤ x → x < (before_step nodes log (suc p)).next → Own x
  owned p x k within le lt = inr (p, k, record { step = within; from = le; upto = lt })

  -- ---- bits

  abbrev Known : ℕ → Type 0
  Known t = (b : List Literal) → (state_of nodes log).bits t ≡ Some b → AreOf Own b

  same_bits : (t : ℕ) (b c : List Literal) → (state_of nodes log).bits t ≡ Some b → (state_of nodes log).bits t ≡ Some c → AreOf Own b → AreOf Own c
  same_bits t b c e f k = let q : Some b ≡ Some c = sym e ∙ f in let r : b ≡ c = cc in subst (AreOf Own) r k

  leaf_known : (t p : ℕ) → Contains positions (suc p) → slice_get log p ≡ Some (step.Leaf t) → Known t
  leaf_known t p k e c q =
      let r = leaf_step nodes log all is p t e in
      let g = (before_step nodes log p).next in
      same_bits t (fresh_bits g r.width) c r.bits q
      (fresh_known r.width g (λ x le lt. owned p x k r.within le (omega (arith, lt, r.next))))
    where
      fresh_known : (n g : ℕ) → ((x : ℕ) → g ≤ x → x < g + n → Own x) → AreOf Own (fresh_bits g n)
      fresh_known zero g f = tt
      fresh_known (suc n) g f = (f g (omega arith) (omega arith), fresh_known n (suc g) (λ x le lt. f x (omega arith) (omega arith)))

  -- the bits that a term had before a step
  abbrev KnownAt : ℕ → ℕ → Type 0
  KnownAt p t = (b : List Literal) → (before_step nodes log p).bits t ≡ Some b → AreOf Own b

  -- the variables of a block whose position is held, and whose arguments are known
  block_own : (t p x : ℕ) (r : IsEncodeStep nodes log p t) → Contains positions (suc p) → AllByRecursion (KnownAt p) (node_at nodes t).args → IsOfBlock (before_step nodes log p).next r.rows r.block x → Own x
  block_own t p x r k each (inl one) = inl one
  block_own t p x r k each (inr (inl in_row)) =
      let s = before_step nodes log p in
      let rows = each_row (AreOf Own) s.bits (node_at nodes t).args r.rows each r.arguments in
      subst Own in_row.4 (each_member (λ (l : Literal). Own l.variable) in_row.0 in_row.1 (each_member (AreOf Own) r.rows in_row.0 rows in_row.2) in_row.3)
  block_own t p x r k each (inr (inr gate)) = owned p x k r.within gate.0 (omega (arith, gate.1, r.next))

  encode_known : (t p : ℕ) → Contains positions (suc p) → slice_get log p ≡ Some (step.Encode t) → AllByRecursion (KnownAt p) (node_at nodes t).args → Known t
  encode_known t p k e each c q =
      let r = encode_step nodes log all is p t e in
      same_bits t r.block.bits c r.bits q (each_if (λ (l : Literal). Own l.variable) r.block.bits (λ l m. block_own t p l.variable r k each (r.stands.bits l m)))

  -- the step that gave a term bits is one of three kinds
  bits_step : (t p : ℕ) (e : Entry) → slice_get log p ≡ Some e → IsForTerm t e
      → (slice_get log p ≡ Some (step.Leaf t)) ⊎ ((slice_get log p ≡ Some (step.Encode t)) ⊎ ((r : RuleUse) × (slice_get log p ≡ Some (step.Rewrite r)) × (r.from ≡ t)))
  bits_step t p (step.Leaf u) there is_for = let own : u ≡ t = cc in inl (there ∙ ap (λ x. Some (step.Leaf x)) own)
  bits_step t p (step.Encode u) there is_for = let own : u ≡ t = cc in inr (inl (there ∙ ap (λ x. Some (step.Encode x)) own))
  bits_step t p (step.Rewrite r) there is_for = let own : r.from ≡ t = cc in inr (inr (r, there, own))
  bits_step t p e there is_for = let f : ⊥ = cc in absurd f

  -- ---- all terms, each behind those on which it stands

  -- on what a reached term stands is reached
  leads : (t u : ℕ) (o : Option ℕ) → Contains reached t → (state_of nodes log).images t ≡ o → Contains (stands_on nodes t o) u → Contains reached u
  leads t u o in_it image k = h.closed t u in_it (subst (λ x. Contains (stands_on nodes t x) u) (sym image) k)

  -- the reached terms that got their bits before a position are known
  abbrev KnownBelow : ℕ → Type 0
  KnownBelow n = (t q : ℕ) → q < n → Contains reached t → GivesBits log t q → Contains positions q → Known t

  -- so a reached term that had bits before a step
  earlier_known : (n p t : ℕ) → suc p < suc n → KnownBelow n → Contains reached t → KnownAt p t
  earlier_known n p t lt below in_it b e =
      let k = h.terms t in_it (ap is_some (bits_stay nodes log is p t b e)) in
      let first : k.0 ≤ p = given_earlier nodes log p t k.0 is (ap is_some e) k.1 in
      below t k.0 (omega (arith, first, lt)) in_it k.1 k.2 b (bits_stay nodes log is p t b e)

  rewrite_known : (n p : ℕ) (r : RuleUse) → suc p < suc n → KnownBelow n → Contains reached r.from → slice_get log p ≡ Some (step.Rewrite r) → Known r.from
  rewrite_known n p r lt below in_it l c q =
      let k = rewrite_step nodes log all is p r l in
      let among = leads r.from r.to (Some r.to) in_it k.image (0, omega arith, refl) in
      same_bits r.from k.bits c k.own q (earlier_known n p r.to lt below among k.bits k.earlier)

  gives_known : (n t q : ℕ) → q < suc n → KnownBelow n → Contains reached t → GivesBits log t q → Contains positions q → Known t
  gives_known n t zero lt below in_it (e, there, is_for) k = let f : ⊥ = cc in absurd f
  gives_known n t (suc p) lt below in_it (e, there, is_for) k =
      ⊎_elim
      (λ l. leaf_known t p k l)
      (λ other. ⊎_elim
      (λ l. encode_known t p k l (each_if (KnownAt p) (node_at nodes t).args (λ u m. earlier_known n p u lt below (leads t u None in_it (encode_step nodes log all is p t l).free m))))
      (λ r. subst Known r.2 (rewrite_known n p r.0 lt below (subst (Contains reached) (sym r.2) in_it) r.1))
      other)
      (bits_step t p e there is_for)

  known_below : (n : ℕ) → KnownBelow n
  known_below zero t q lt in_it gives held = absurd (omega (arith, lt))
  known_below (suc n) t q lt in_it gives held = gives_known n t q lt (known_below n) in_it gives held

  known : (t : ℕ) → Contains reached t → Known t
  known t in_it b e =
      let k = h.terms t in_it (ap is_some e) in
      known_below (suc k.0) t k.0 (omega arith) in_it k.1 k.2 b e

  -- ---- clauses of the positions

  encode_clause : (t q k : ℕ) (c : List Literal) (l : Literal) → Contains reached t → Contains positions q → entry_at log q ≡ Some (step.Encode t) → clause_in (slice_get (state_of nodes log).clauses q) k ≡ Some c → Contains c l → Own l.variable
  encode_clause t zero k c l in_it held e g m = let f : ⊥ = cc in absurd f
  encode_clause t (suc p) k c l in_it held e g m =
      let r = encode_step nodes log all is p t e in
      let row = gates_clauses (before_step nodes log p).next r.block.gates in
      block_own t p l.variable r held (each_if (KnownAt p) (node_at nodes t).args (λ u n b has. known u (leads t u None in_it r.free n) b (r.before.bits u b has)))
      (r.stands.clauses c l (row_has (state_of nodes log).clauses (suc p) k row c r.row g) m)

  leaf_clause : (t q k : ℕ) (c : List Literal) → entry_at log q ≡ Some (step.Leaf t) → clause_in (slice_get (state_of nodes log).clauses q) k ≡ Some c → ⊥
  leaf_clause t zero k c e g = cc
  leaf_clause t (suc p) k c e g = Contains-nil c (row_has (state_of nodes log).clauses (suc p) k [] c (leaf_step nodes log all is p t e).row g)

  rewrite_clause : (r : RuleUse) (q k : ℕ) (c : List Literal) → entry_at log q ≡ Some (step.Rewrite r) → clause_in (slice_get (state_of nodes log).clauses q) k ≡ Some c → ⊥
  rewrite_clause r zero k c e g = cc
  rewrite_clause r (suc p) k c e g = Contains-nil c (row_has (state_of nodes log).clauses (suc p) k [] c (rewrite_step nodes log all is p r e).row g)

  selector_clause_own : (a t q k : ℕ) (c : List Literal) (l : Literal) → Contains reached t → Contains positions q → entry_at log q ≡ Some (step.Selector a t) → clause_in (slice_get (state_of nodes log).clauses q) k ≡ Some c → Contains c l → Own l.variable
  selector_clause_own a t zero k c l in_it held e g m = let f : ⊥ = cc in absurd f
  selector_clause_own a t (suc p) k c l in_it held e g m =
      let r = selector_step nodes log all is p a t e in
      let x = (before_step nodes log p).next in
      let is_clause = Contains-one (selector_clause x r.bit) c (row_has (state_of nodes log).clauses (suc p) k (selector_clause x r.bit ∷ []) c r.row g) in
      let literal = one_of_two (negative_of x) r.bit l (subst (λ d. Contains d l) (sym is_clause) m) in
      let selects : Own x = owned p x held r.within (omega arith) (omega (arith, r.next)) in
      ⊎_elim
      (λ y. subst (λ (z : Literal). Own z.variable) y selects)
      (λ y. subst (λ (z : Literal). Own z.variable) y (known t in_it (r.bit ∷ []) r.bits).0)
      literal

  -- the variables of an equality of two reached terms
  equal_own : (t u p x : ℕ) (r : IsEqualStep nodes log p t u) → Contains reached t → Contains reached u → Contains positions (suc p) → IsOfBlock (before_step nodes log p).next (r.left ∷ r.right ∷ []) (equality r.left r.right (before_step nodes log p).next) x → Own x
  equal_own t u p x r in_t in_u k (inl one) = inl one
  equal_own t u p x r in_t in_u k (inr (inl in_row)) =
      let rows : AllByRecursion (AreOf Own) (r.left ∷ r.right ∷ []) = (known t in_t r.left (r.before.bits t r.left r.left_bits), (known u in_u r.right (r.before.bits u r.right r.right_bits), tt)) in
      subst Own in_row.4 (each_member (λ (l : Literal). Own l.variable) in_row.0 in_row.1 (each_member (AreOf Own) (r.left ∷ r.right ∷ []) in_row.0 rows in_row.2) in_row.3)
  equal_own t u p x r in_t in_u k (inr (inr gate)) = owned p x k r.within gate.0 (omega (arith, gate.1, r.next))

  equal_clause : (t u q k : ℕ) (c : List Literal) (l : Literal) → Contains reached t → Contains reached u → Contains positions q → entry_at log q ≡ Some (step.Equal t u) → clause_in (slice_get (state_of nodes log).clauses q) k ≡ Some c → Contains c l → Own l.variable
  equal_clause t u zero k c l in_t in_u held e g m = let f : ⊥ = cc in absurd f
  equal_clause t u (suc p) k c l in_t in_u held e g m =
      let r = equal_step nodes log all is p t u e in
      let row = gates_clauses (before_step nodes log p).next (equality r.left r.right (before_step nodes log p).next).gates in
      equal_own t u p l.variable r in_t in_u held (r.stands.clauses c l (row_has (state_of nodes log).clauses (suc p) k row c r.row g) m)

  first_clause : (k : ℕ) (c : List Literal) (l : Literal) → clause_in (slice_get (state_of nodes log).clauses 0) k ≡ Some c → Contains c l → Own l.variable
  first_clause k c l g m =
      let is_clause = Contains-one (true_literal ∷ []) c (first_row nodes log k c g) in
      let literal = Contains-one true_literal l (subst (λ d. Contains d l) (sym is_clause) m) in
      inl (ap (λ (z : Literal). z.variable) (sym literal))

  position_own : (q k : ℕ) (c : List Literal) (l : Literal) → Contains positions q → IsOfTerms log reached q → clause_in (slice_get (state_of nodes log).clauses q) k ≡ Some c → Contains c l → Own l.variable
  position_own q k c l held (inl z) g m = first_clause k c l (ap (λ i. clause_in (slice_get (state_of nodes log).clauses i) k) (sym z) ∙ g) m
  position_own zero k c l held (inr (inl (t, in_it, (e, there, is_for)))) g m = let f : ⊥ = cc in absurd f
  position_own (suc p) k c l held (inr (inl (t, in_it, (e, there, is_for)))) g m =
      ⊎_elim
      (λ r. absurd (leaf_clause t (suc p) k c r g))
      (λ other. ⊎_elim (λ r. encode_clause t (suc p) k c l in_it held r g m) (λ r. absurd (rewrite_clause r.0 (suc p) k c r.1 g)) other)
      (bits_step t p e there is_for)
  position_own q k c l held (inr (inr (a, t, in_it, e))) g m = selector_clause_own a t q k c l in_it held e g m

  opening_own : (q k : ℕ) (c : List Literal) (l : Literal) → Contains positions q → IsOfTerms log reached q ⊎ (IsOfPair log reached q ⊎ IsOfLemma nodes log positions q) → clause_in (slice_get (state_of nodes log).clauses q) k ≡ Some c → Contains c l → Own l.variable
  opening_own q k c l held (inl o) g m = position_own q k c l held o g m
  opening_own q k c l held (inr (inl (t, u, in_t, in_u, e))) g m = equal_clause t u q k c l in_t in_u held e g m
  opening_own q k c l held (inr (inr o)) g m = o.own k c l g m

  occurs_own : (x : ℕ) → Occurs (state_of nodes log).clauses positions x → Own x
  occurs_own x (id, c, l, held, g, m, e) = subst Own e (opening_own id.pos id.part c l held (h.only id.pos held) g m)

  -- ---- clauses of other positions

  -- what a step at another position made is not among these variables
  fresh : (p x : ℕ) → (Contains positions (suc p) → ⊥) → p < length log → (before_step nodes log p).next ≤ x → x < (before_step nodes log (suc p)).next → Own x → ⊥
  fresh p x out within le lt (inl e) = omega (arith, one_before nodes log all is p)
  fresh p x out within le lt (inr (q, held, owns)) =
      let same : p ≡ q = (log_is_ordered nodes log all is).once x p q (record { step = within; from = le; upto = lt }) owns in
      out (subst (λ i. Contains positions (suc i)) (sym same) held)

  abbrev HasNew : List Literal → Type 0
  HasNew c = (l : Literal) × Contains c l × (Own l.variable → ⊥)

  other_clause : (p k : ℕ) (c : List Literal) (e : Entry) → slice_get log p ≡ Some e → is_chain (Some e) ≡ false → (Contains positions (suc p) → ⊥) → clause_in (slice_get (state_of nodes log).clauses (suc p)) k ≡ Some c → HasNew c
  other_clause p k c (step.Node n) e plain out g = absurd (Contains-nil c (row_has (state_of nodes log).clauses (suc p) k [] c (plain_row nodes log all is p n e) g))
  other_clause p k c (step.Leaf t) e plain out g = absurd (leaf_clause t (suc p) k c e g)
  other_clause p k c (step.Encode t) e plain out g =
      let r = encode_step nodes log all is p t e in
      let row = gates_clauses (before_step nodes log p).next r.block.gates in
      let own = r.stands.own c (row_has (state_of nodes log).clauses (suc p) k row c r.row g) in
      (own.0, own.1, (λ o. fresh p own.0.variable out r.within own.2.0 (omega (arith, own.2.1, r.next)) o))
  other_clause p k c (step.Selector a t) e plain out g =
      let r = selector_step nodes log all is p a t e in
      let x = (before_step nodes log p).next in
      let is_clause = Contains-one (selector_clause x r.bit) c (row_has (state_of nodes log).clauses (suc p) k (selector_clause x r.bit ∷ []) c r.row g) in
      let first : Contains c (negative_of x) = subst (λ d. Contains d (negative_of x)) is_clause (0, omega arith, refl) in
      (negative_of x, first, (λ o. fresh p x out r.within (omega arith) (omega (arith, r.next)) o))
  other_clause p k c (step.Chain d hints) e plain out g = let f : ⊥ = cc in absurd f
  other_clause p k c (step.Equal t u) e plain out g =
      let r = equal_step nodes log all is p t u e in
      let row = gates_clauses (before_step nodes log p).next (equality r.left r.right (before_step nodes log p).next).gates in
      let own = r.stands.own c (row_has (state_of nodes log).clauses (suc p) k row c r.row g) in
      (own.0, own.1, (λ o. fresh p own.0.variable out r.within own.2.0 (omega (arith, own.2.1, r.next)) o))
  other_clause p k c (step.Lemma a) e plain out g =
      ⊎_elim
      (λ held. absurd (out held))
      (λ (w : HasNew c). w)
      (h.lemmas (suc p) k a c e g)
  other_clause p k c (step.Rewrite r) e plain out g = absurd (rewrite_clause r (suc p) k c e g)

  separate_at : (q k : ℕ) (c : List Literal) → q ≤ length log → is_chain (entry_at log q) ≡ false → (Contains positions q → ⊥) → clause_in (slice_get (state_of nodes log).clauses q) k ≡ Some c → HasNew c
  separate_at zero k c le plain out g = absurd (out h.first)
  separate_at (suc p) k c le plain out g =
      let found = slice_get-there log p (omega arith) in
      other_clause p k c found.0 found.1 (ap is_chain (sym found.1) ∙ plain) out g

  -- nor is the variable among the bits of a reached term
  new_apart : (c : List Literal) → HasNew c → (l : Literal) × Contains c l × (Occurs (state_of nodes log).clauses positions l.variable → ⊥) × (IsBitOf nodes log reached l.variable → ⊥)
  new_apart c w = (
    w.0,
    w.1,
    (λ o. w.2 (occurs_own w.0.variable o)),
    (λ b. w.2 (subst Own b.6 (each_member (λ (l : Literal). Own l.variable) b.1 b.2 (known b.0 b.3 b.1 b.4) b.5))),
  )

pub openings_are_apart : OpeningStepsAreApart
openings_are_apart nodes log reached positions all is h id c plain g =
    ⊎_elim
    (λ held. inl held)
    (λ out. inr (new_apart nodes log reached positions all is h c (separate_at nodes log reached positions all is h id.pos id.part c (clause_place nodes log id c g) plain out g)))
    (is_in positions id.pos)

pub openings_are_separate : OpeningStepsAreSeparate
openings_are_separate nodes log reached positions from all is h id c lt plain g =
    ⊎_elim
    (λ held. inl held)
    (λ w. inr (w.0, w.1, w.2))
    (openings_are_apart nodes log reached positions all is h id c plain g)

pub stored_openings_are_separate : StoredOpeningsAreSeparate
stored_openings_are_separate nodes log reached positions from all stands h =
    let k = stands_over nodes log stands in
    subst (λ rows. AreSeparate rows log.entries positions from) (sym k.clauses) (openings_are_separate nodes log.entries reached positions from all k.steps h)

-- ---- Bools and words alone

-- no equality and no lemma is a step of such a log
as_opening : (nodes : List Node) (log : List Entry) (positions : List ℕ) (h : AreReachedSteps nodes log positions) → AreOpeningSteps nodes log h.reached positions
as_opening nodes log positions h = record {
  closed = h.closed;
  first = h.first;
  terms = λ t in_it bits. All-contains (λ u. (q : ℕ) × GivesBits log u q × Contains positions q) h.reached t h.terms in_it;
  lemmas = λ p k l c e g. absurd (word_at nodes log p (step.Lemma l) h.words e);
  only = λ p held. inl (h.only p held);
}

pub reached_are_separate : ReachedStepsAreSeparate
reached_are_separate nodes log positions from all is h = openings_are_separate nodes log h.reached positions from all is (as_opening nodes log positions h)

pub stored_are_separate : StoredStepsAreSeparate
stored_are_separate nodes log positions from all stands h = stored_openings_are_separate nodes log h.reached positions from all stands (as_opening nodes log.entries positions h)
