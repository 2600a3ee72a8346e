-- The next variable after a step, by the variables that its bits or its clauses name.
use Rattle.std.proofs.Common.{◌≡◌, ℕ, zero, suc, ◌+◌, ◌<◌, ◌≤◌, true, false, List, [], ◌∷◌, ◌++◌, length, take, drop, Option, Some, None, Result, Ok, Err, refl, sym, ap, ◌∙◌, subst, ⊎_elim, arith}
use Rattle.std.specs.Prelude.{Contains, slice_get}
use Rattle.std.proofs.lemmas.Bool.{cases_lt}
use Rattle.std.proofs.lemmas.List.{take-append-drop, length-take-le}
use Rattle.std.proofs.lemmas.List.Elements.{Contains-append_right}
use Rattle.std.proofs.lemmas.Option.{slice_get-get_or}
use Rattle.cnf_base.specs.Literals.{Literal, positive_of, negative_of, negated}
use Rattle.cnf_base.specs.Assignments.{fresh_bits}
use Rattle.cnf_base.specs.Gates.{gate_clauses, gates_clauses}
use Rattle.cnf_base.specs.declared.gate.GateKind.{GateKind}
use Rattle.cnf_base.specs.declared.gate.GateKind.TheVariants.{And, Xor, Ite}
use Rattle.cnf_base.proofs.Lists.{Contains-nil, Contains-first, Contains-later, each_member, slice_get-append_left}
use Rattle.smt_terms.specs.declared.node.Node.{Node}
use Rattle.smt_terms.specs.Terms.{IsTermList}
use Rattle.theory_lemmas.specs.declared.fault.LemmaFault.{LemmaFault}
use Rattle.theory_lemmas.specs.Clauses.{clause_of}
use Rattle.bit_blast.specs.Circuits.{equality}
use Rattle.proof_log.specs.declared.entry.RuleUse.{RuleUse}
use Rattle.proof_log.specs.declared.entry.Entry.{Entry}
use Rattle.proof_log.specs.declared.entry.Entry.TheVariants as step
use Rattle.proof_log.specs.Logs.{LogState, start, clause_in, rewrite_after, lemma_after, selector_clause, after, state_of, IsLog}
use Rattle.proof_log.proofs.Growth.{steps_rows}
use Rattle.proof_log.proofs.Ordered.{log_is_ordered, steps_length}
use Rattle.proof_log.proofs.Staying.{state_from-append}
use Rattle.reached_steps.proofs.Steps.{before_step, first_steps, made, leaf_step, encode_step, selector_step, equal_step}
use Rattle.opening_positions.specs.Reading.{IsBehind, IsAt, leaf_of, adds_gates}
use Rattle.opening_positions.proofs.Listed.{member_cases}

-- ---- the highest variable

-- what is behind literals that are all below a number, and among which is the one below it, unless there is nothing new
pub behind_is : (L : Literal → Type 0) (old n new : ℕ) → IsBehind L old n → old ≤ new → ((l : Literal) → L l → l.variable < new) → (old < new → (l : Literal) × L l × (suc l.variable ≡ new)) → n ≡ new
behind_is L old n new h le below last =
    let a : n ≤ new = h.lowest new le below in
    ⊎_elim
    (λ lt. (let w = last lt in let b = h.each w.0 w.1 in let e = w.2 in omega (arith, a, b, e)))
    (λ ge. (let b = h.above in omega (arith, a, b, ge)))
    (cases_lt old new)

-- ---- new bits

fresh_below : (g n : ℕ) (l : Literal) → Contains (fresh_bits g n) l → l.variable < g + n
fresh_below g zero l h = absurd (Contains-nil l h)
fresh_below g (suc n) l h = ⊎_elim
    (λ e. subst (λ (z : Literal). z.variable < g + suc n) e (omega arith))
    (λ k. (let lt = fresh_below (suc g) n l k in omega (arith, lt)))
    (member_cases (positive_of g) l (fresh_bits (suc g) n) h)

fresh_last : (g n : ℕ) → (l : Literal) × Contains (fresh_bits g (suc n)) l × (suc l.variable ≡ g + suc n)
fresh_last g zero = (positive_of g, Contains-first (positive_of g) [], omega arith)
fresh_last g (suc n) =
    let k = fresh_last (suc g) n in
    let e = k.2 in
    (k.0, Contains-later (positive_of g) k.0 (fresh_bits (suc g) (suc n)) k.1, omega (arith, e))

fresh_named : (g n : ℕ) → 0 < n → (l : Literal) × Contains (fresh_bits g n) l × (suc l.variable ≡ g + n)
fresh_named g zero lt = absurd (omega (arith, lt))
fresh_named g (suc n) lt = fresh_last g n

-- ---- the gates of clauses

first_clause : (g : ℕ) (k : GateKind) (rest : List (List Literal)) → (c : List Literal) × Contains (gate_clauses g k ++ rest) c × Contains c (negative_of g)
first_clause g (And a b) rest = (negative_of g ∷ a ∷ [], (0, omega arith, refl), (0, omega arith, refl))
first_clause g (Xor a b) rest = (negative_of g ∷ a ∷ b ∷ [], (0, omega arith, refl), (0, omega arith, refl))
first_clause g (Ite c a b) rest = (negative_of g ∷ negated c ∷ a ∷ [], (0, omega arith, refl), (0, omega arith, refl))

gates_named : (g : ℕ) (ks : List GateKind) → 0 < length ks → (c : List Literal) × (l : Literal) × Contains (gates_clauses g ks) c × Contains c l × (suc l.variable ≡ g + length ks)
gates_named g [] lt = absurd (omega (arith, lt))
gates_named g (k ∷ []) lt = let f = first_clause g k [] in (f.0, negative_of g, f.1, f.2, omega arith)
gates_named g (k ∷ (j ∷ ks)) lt =
    let r = gates_named (suc g) (j ∷ ks) (omega arith) in
    let e = r.4 in
    (r.0, r.1, Contains-append_right (gate_clauses g k) (gates_clauses (suc g) (j ∷ ks)) r.0 r.2, r.3, omega (arith, e))

-- a literal of a clause of the row of a position
in_row : (rows : List (List (List Literal))) (at : ℕ) (row : List (List Literal)) (c : List Literal) (l : Literal) → slice_get rows at ≡ Some row → Contains row c → Contains c l → IsAt rows at l
in_row rows at row c l e h m = (record { pos = at; part = h.0 }, c, refl, ap (λ o. clause_in o h.0) e ∙ slice_get-get_or row h.0 c h.1 ∙ ap Some h.2, m)

-- ---- steps

rewrite_next : (s : LogState) (r : RuleUse) (o : Option (List Literal)) → (rewrite_after s r o).next ≡ s.next
rewrite_next s r None = refl
rewrite_next s r (Some b) = refl

pub lemma_next : (s : LogState) (o : Result (List Literal) LemmaFault) → (lemma_after s o).next ≡ s.next
lemma_next s (Err f) = refl
lemma_next s (Ok c) = refl

none_after : (nodes : List Node) (s : LogState) (e : Entry) → leaf_of e ≡ None → adds_gates e ≡ false → (after nodes s e).next ≡ s.next
none_after nodes s (step.Leaf t) h k = let f : ⊥ = cc in absurd f
none_after nodes s (step.Encode t) h k = let f : ⊥ = cc in absurd f
none_after nodes s (step.Selector a t) h k = let f : ⊥ = cc in absurd f
none_after nodes s (step.Equal t u) h k = let f : ⊥ = cc in absurd f
none_after nodes s (step.Rewrite r) h k = rewrite_next s r (s.bits r.to)
none_after nodes s (step.Lemma l) h k = lemma_next s (clause_of nodes s.bits s.equals l)
none_after nodes s (step.Node n) h k = refl
none_after nodes s (step.Chain c hints) h k = refl

module _ (nodes : List Node) (log : List Entry) (all : IsTermList nodes) (is : IsLog nodes log) where
  -- the clauses of the position of a step stand there from that step on
  row_then : (p part : ℕ) → p < length log → clause_in (slice_get (state_of nodes log).clauses (suc p)) part ≡ clause_in (slice_get (before_step nodes log (suc p)).clauses (suc p)) part
  row_then p part lt =
      let both : take (suc p) log ++ drop (suc p) log ≡ log = take-append-drop (suc p) log in
      let r = steps_rows nodes (before_step nodes log (suc p)) (drop (suc p) log) in
      let n : length (before_step nodes log (suc p)).clauses ≡ 1 + length (take (suc p) log) = steps_length nodes start (take (suc p) log) in
      let m = length-take-le (suc p) log (omega (arith, lt)) in
      let low : suc p < length (before_step nodes log (suc p)).clauses = omega (arith, n, m) in
      ap (λ (l : List Entry). clause_in (slice_get (state_of nodes l).clauses (suc p)) part) (sym both)
      ∙ ap (λ (s : LogState). clause_in (slice_get s.clauses (suc p)) part) (state_from-append nodes start (take (suc p) log) (drop (suc p) log))
      ∙ ap (λ (rows : List (List (List Literal))). clause_in (slice_get rows (suc p)) part) r.1
      ∙ ap (λ (o : Option (List (List Literal))). clause_in o part) (slice_get-append_left (before_step nodes log (suc p)).clauses r.0 (suc p) low)

  -- its literals are of variables that there are after it
  literal_below : (p : ℕ) (l : Literal) → p < length log → IsAt (state_of nodes log).clauses (suc p) l → l.variable < (before_step nodes log (suc p)).next
  literal_below p l lt h =
      let there = sym (row_then p h.0.part lt) ∙ ap (λ n. clause_in (slice_get (state_of nodes log).clauses n) h.0.part) (sym h.2) ∙ h.3 in
      let below = (log_is_ordered nodes (take (suc p) log) all (first_steps nodes start log (suc p) is)).clauses (record { pos = suc p; part = h.0.part }) h.1 there in
      each_member (λ (z : Literal). z.variable < (before_step nodes log (suc p)).next) h.1 l below h.4

  gates_next : (p n : ℕ) (gates : List GateKind) → p < length log → (before_step nodes log (suc p)).next ≡ (before_step nodes log p).next + length gates
      → slice_get (state_of nodes log).clauses (suc p) ≡ Some (gates_clauses (before_step nodes log p).next gates)
      → IsBehind (IsAt (state_of nodes log).clauses (suc p)) (before_step nodes log p).next n → n ≡ (before_step nodes log (suc p)).next
  gates_next p n gates lt next row h =
      behind_is (IsAt (state_of nodes log).clauses (suc p)) (before_step nodes log p).next n (before_step nodes log (suc p)).next h (omega (arith, next)) (λ l k. literal_below p l lt k)
      (λ less.
      let g = gates_named (before_step nodes log p).next gates (omega (arith, next, less)) in
      (g.1, in_row (state_of nodes log).clauses (suc p) (gates_clauses (before_step nodes log p).next gates) g.0 g.1 row g.2 g.3, g.4 ∙ sym next))

  pub next_gates : (p n : ℕ) (e : Entry) → slice_get log p ≡ Some e → adds_gates e ≡ true → IsBehind (IsAt (state_of nodes log).clauses (suc p)) (before_step nodes log p).next n → n ≡ (before_step nodes log (suc p)).next
  next_gates p n (step.Encode t) at k h =
      let r = encode_step nodes log all is p t at in
      gates_next p n r.block.gates r.within r.next r.row h
  next_gates p n (step.Equal t u) at k h =
      let r = equal_step nodes log all is p t u at in
      gates_next p n (equality r.left r.right (before_step nodes log p).next).gates r.within r.next r.row h
  next_gates p n (step.Selector a t) at k h =
      let r = selector_step nodes log all is p a t at in
      let x = (before_step nodes log p).next in
      let next = r.next in
      behind_is (IsAt (state_of nodes log).clauses (suc p)) x n (before_step nodes log (suc p)).next h (omega (arith, next)) (λ l m. literal_below p l r.within m)
      (λ less. (negative_of x, in_row (state_of nodes log).clauses (suc p) (selector_clause x r.bit ∷ []) (selector_clause x r.bit) (negative_of x) r.row (Contains-first (selector_clause x r.bit) []) (Contains-first (negative_of x) (r.bit ∷ [])), sym next))
  next_gates p n (step.Node x) at k h = let f : ⊥ = cc in absurd f
  next_gates p n (step.Leaf t) at k h = let f : ⊥ = cc in absurd f
  next_gates p n (step.Chain c hints) at k h = let f : ⊥ = cc in absurd f
  next_gates p n (step.Rewrite r) at k h = let f : ⊥ = cc in absurd f
  next_gates p n (step.Lemma l) at k h = let f : ⊥ = cc in absurd f

  leaf_next : (p n t : ℕ) (b : List Literal) → slice_get log p ≡ Some (step.Leaf t) → (state_of nodes log).bits t ≡ Some b → IsBehind (Contains b) (before_step nodes log p).next n → n ≡ (before_step nodes log (suc p)).next
  leaf_next p n t b at bits h =
      let r = leaf_step nodes log all is p t at in
      let g = (before_step nodes log p).next in
      let both : Some b ≡ Some (fresh_bits g r.width) = sym bits ∙ r.bits in
      let same : b ≡ fresh_bits g r.width = cc in
      let next = r.next in
      behind_is (Contains (fresh_bits g r.width)) g n (before_step nodes log (suc p)).next (subst (λ (c : List Literal). IsBehind (Contains c) g n) same h) (omega (arith, next))
      (λ l m. (let lt = fresh_below g r.width l m in omega (arith, lt, next)))
      (λ less. (let w = fresh_named g r.width (omega (arith, next, less)) in (w.0, w.1, w.2 ∙ sym next)))

  pub next_leaf : (p n t : ℕ) (e : Entry) (b : List Literal) → slice_get log p ≡ Some e → leaf_of e ≡ Some t → (state_of nodes log).bits t ≡ Some b → IsBehind (Contains b) (before_step nodes log p).next n → n ≡ (before_step nodes log (suc p)).next
  next_leaf p n t (step.Leaf u) b at k bits h = let q : u ≡ t = cc in leaf_next p n t b (subst (λ x. slice_get log p ≡ Some (step.Leaf x)) q at) bits h
  next_leaf p n t (step.Node x) b at k bits h = let f : ⊥ = cc in absurd f
  next_leaf p n t (step.Encode u) b at k bits h = let f : ⊥ = cc in absurd f
  next_leaf p n t (step.Selector a u) b at k bits h = let f : ⊥ = cc in absurd f
  next_leaf p n t (step.Equal u v) b at k bits h = let f : ⊥ = cc in absurd f
  next_leaf p n t (step.Chain c hints) b at k bits h = let f : ⊥ = cc in absurd f
  next_leaf p n t (step.Rewrite r) b at k bits h = let f : ⊥ = cc in absurd f
  next_leaf p n t (step.Lemma l) b at k bits h = let f : ⊥ = cc in absurd f

  pub leaf_bits : (p t : ℕ) (e : Entry) → slice_get log p ≡ Some e → leaf_of e ≡ Some t → (b : List Literal) × ((state_of nodes log).bits t ≡ Some b)
  leaf_bits p t (step.Leaf u) at k =
      let q : u ≡ t = cc in
      let r = leaf_step nodes log all is p t (subst (λ x. slice_get log p ≡ Some (step.Leaf x)) q at) in
      (fresh_bits (before_step nodes log p).next r.width, r.bits)
  leaf_bits p t (step.Node x) at k = let f : ⊥ = cc in absurd f
  leaf_bits p t (step.Encode u) at k = let f : ⊥ = cc in absurd f
  leaf_bits p t (step.Selector a u) at k = let f : ⊥ = cc in absurd f
  leaf_bits p t (step.Equal u v) at k = let f : ⊥ = cc in absurd f
  leaf_bits p t (step.Chain c hints) at k = let f : ⊥ = cc in absurd f
  leaf_bits p t (step.Rewrite r) at k = let f : ⊥ = cc in absurd f
  leaf_bits p t (step.Lemma l) at k = let f : ⊥ = cc in absurd f

  pub next_none : (p : ℕ) (e : Entry) → slice_get log p ≡ Some e → leaf_of e ≡ None → adds_gates e ≡ false → (before_step nodes log p).next ≡ (before_step nodes log (suc p)).next
  next_none p e at h k =
      let m = made nodes start log p e is at in
      sym (none_after nodes (before_step nodes log p) e h k) ∙ ap (λ (s : LogState). s.next) (sym m.leaves)
