-- More terms change nothing of a lemma that has its shape.
use Rattle.std.proofs.Common.{◌≡◌, ℕ, ◌<◌, ◌≤◌, Bool, List, [], ◌∷◌, ◌++◌, length, Option, Some, None, refl, sym, ap, ◌∙◌, subst, arith, length-append}
use Rattle.std.specs.Prelude.{◌&&◌, if◌then◌else◌, nat_lt, position}
use Rattle.std.specs.List.{position_or_len}
use Rattle.std.proofs.lemmas.Bool.{lt-ltb}
use Rattle.std.proofs.lemmas.List.{get_or_append_left}
use Rattle.std.proofs.lemmas.List.Quantifiers.{position-Some}
use Rattle.std.proofs.lemmas.List.Sums.{position_or_len_is}
use Rattle.smt_terms.specs.declared.node.Node.{Node}
use Rattle.smt_terms.specs.Same.{same_op, same_node, same_sort}
use Rattle.smt_terms.specs.Nodes.{no_node, node_at}
use Rattle.smt_terms.specs.Ranks.{index_sort}
use Rattle.smt_terms.specs.Terms.{sort_of}
use Rattle.smt_terms.proofs.Growing.{node_longer, sort_longer}
use Rattle.theory_terms.specs.declared.shape.Shape.{Shape}
use Rattle.theory_terms.specs.declared.shape.Shape.TheVariants.{Filling, Equating}
use Rattle.theory_terms.specs.declared.lemma.Move.{Move}
use Rattle.theory_terms.specs.declared.lemma.Move.TheVariants as by
use Rattle.theory_terms.specs.declared.lemma.Start.{Start}
use Rattle.theory_terms.specs.declared.lemma.Start.TheVariants.{Term, Const}
use Rattle.theory_terms.specs.declared.lemma.Access.{Access}
use Rattle.theory_terms.specs.declared.lemma.Lemma.{Lemma}
use Rattle.theory_terms.specs.declared.lemma.Lemma.TheVariants as lemma
use Rattle.theory_terms.specs.declared.atom.Atom.{Atom}
use Rattle.theory_terms.specs.declared.atom.Atom.TheVariants.{Same}
use Rattle.theory_terms.specs.declared.atom.Landing.{Landing}
use Rattle.theory_terms.specs.declared.atom.Watch.{Watch}
use Rattle.theory_terms.specs.Shapes.{shape_of, shape_at, term_of}
use Rattle.theory_terms.specs.Lemmas.{start_of, is_index, constant_start, landing_of, store_turn, then_turn, else_turn, sides_turn, turn_of, Trip, longer, then_trip, trip_of, Arrival, arrive, from_landing, arrival_of, arrays_atoms, pairs_atoms, is_applying, congruence_atoms, witness_node, select_node, watch_of, watch_at, watch, watch_atoms, witness_atoms, atoms_of}
use Rattle.theory_terms.specs.Named.{mover}
use Rattle.theory_terms.proofs.Trips.{going_is, arrival_is, meeting_is}
use Rattle.theory_terms.proofs.Held.{turn_held, start_held, congruence_held, witness_held}

-- the first place stays the first
position_longer : {X : Type 0} (p : X → Bool) (xs ys : List X) (i : ℕ) (d : X) → position p xs ≡ Some i → position p (xs ++ ys) ≡ Some i
position_longer p xs ys i d e =
    let found = position-Some p xs i d e in
    let lt : i < length xs = found.0 in
    let within : i < length (xs ++ ys) = omega (arith, length-append xs ys) in
    let le : i ≤ length (xs ++ ys) = omega arith in
    let first : position_or_len p (xs ++ ys) ≡ i =
    position_or_len_is p (xs ++ ys) i d le
    (λ k less. ap p (get_or_append_left xs ys d k (omega arith)) ∙ found.2 k less)
    (λ _. ap p (get_or_append_left xs ys d i lt) ∙ found.1) in
    ap (λ k. if nat_lt k (length (xs ++ ys)) then Some k else None) first ∙ ap (λ b. if b then Some i else None) (lt-ltb i (length (xs ++ ys)) within)

-- a watch that there is
record IsWatching (nodes : List Node) (a b : ℕ) (w : Watch) : Type 0 where
  witness : term_of nodes (witness_node a b) ≡ Some w.witness
  left : term_of nodes (select_node a w.witness) ≡ Some w.left
  right : term_of nodes (select_node b w.witness) ≡ Some w.right

module _ (nodes : List Node) (a b : ℕ) (w : Watch) where
  watching : (k : ℕ) → term_of nodes (witness_node a b) ≡ Some k → (l r : Option ℕ) → term_of nodes (select_node a k) ≡ l → term_of nodes (select_node b k) ≡ r → watch_of k l r ≡ Some w → IsWatching nodes a b w
  watching k h None r p q e = let z : ⊥ = cc in absurd z
  watching k h (Some l) None p q e = let z : ⊥ = cc in absurd z
  watching k h (Some l) (Some r) p q e =
      let same : record { witness = k; left = l; right = r } ≡ w = cc in
      let all : IsWatching nodes a b (record { witness = k; left = l; right = r }) = record { witness = h; left = p; right = q } in
      subst (IsWatching nodes a b) same all

  watching_at : (o : Option ℕ) → term_of nodes (witness_node a b) ≡ o → watch_at nodes a b o ≡ Some w → IsWatching nodes a b w
  watching_at None h e = let z : ⊥ = cc in absurd z
  watching_at (Some k) h e = watching k h (term_of nodes (select_node a k)) (term_of nodes (select_node b k)) refl refl e

  watch_is_there : watch nodes a b ≡ Some w → IsWatching nodes a b w
  watch_is_there e = watching_at (term_of nodes (witness_node a b)) refl e

-- the atoms of a congruence by the two nodes
abbrev congruence_of : ℕ → ℕ → Node → Node → Option (List Atom)
congruence_of t u n m = if is_applying (shape_of n.op n.args) && same_op n.op m.op then pairs_atoms n.args m.args (Same t u ∷ []) else None

module _ (nodes more : List Node) where
  within : (t : ℕ) → t < length nodes → t < length (nodes ++ more)
  within t lt = omega (arith, length-append nodes more)

  shape_longer : (t : ℕ) → t < length nodes → shape_at (nodes ++ more) t ≡ shape_at nodes t
  shape_longer t lt = ap (λ (n : Node). shape_of n.op n.args) (node_longer nodes more t lt)

  -- ---- accesses

  turn_same : (i here : ℕ) (m : Move) → mover m < length nodes → turn_of (nodes ++ more) i here m ≡ turn_of nodes i here m
  turn_same i here (by.Store t) lt = ap (store_turn here i t) (shape_longer t lt)
  turn_same i here (by.Then t) lt = ap (then_turn here t) (shape_longer t lt)
  turn_same i here (by.Else t) lt = ap (else_turn here t) (shape_longer t lt)
  turn_same i here (by.Sides t) lt = ap (sides_turn here t) (shape_longer t lt)

  trip_longer : (i here : ℕ) (ms : List Move) (r : Trip) → trip_of nodes i here ms ≡ Some r → trip_of (nodes ++ more) i here ms ≡ Some r
  trip_longer i here [] r e = e
  trip_longer i here (m ∷ ms) r e =
      let g = going_is (turn_of nodes i here m) (λ to. trip_of nodes i to ms) r e in
      let turn : turn_of (nodes ++ more) i here m ≡ Some g.turn = turn_same i here m (turn_held nodes i here m g.turn g.turns) ∙ g.turns in
      ap (λ o. then_trip o (λ to. trip_of (nodes ++ more) i to ms)) turn ∙ ap (longer g.turn.unless) (trip_longer i g.turn.to ms g.rest g.goes) ∙ ap Some (sym g.is)

  index_longer : (k j : ℕ) → k < length nodes → j < length nodes → is_index (nodes ++ more) k j ≡ is_index nodes k j
  index_longer k j lk lj =
      let p : nat_lt k (length (nodes ++ more)) ≡ nat_lt k (length nodes) = lt-ltb k (length (nodes ++ more)) (within k lk) ∙ sym (lt-ltb k (length nodes) lk) in
      let q : nat_lt j (length (nodes ++ more)) ≡ nat_lt j (length nodes) = lt-ltb j (length (nodes ++ more)) (within j lj) ∙ sym (lt-ltb j (length nodes) lj) in
      ap (λ b. b && nat_lt j (length (nodes ++ more)) && same_sort (index_sort (sort_of (nodes ++ more) k)) (sort_of (nodes ++ more) j)) p
      ∙ ap (λ b. nat_lt k (length nodes) && b && same_sort (index_sort (sort_of (nodes ++ more) k)) (sort_of (nodes ++ more) j)) q
      ∙ ap (λ s. nat_lt k (length nodes) && nat_lt j (length nodes) && same_sort (index_sort s) (sort_of (nodes ++ more) j)) (sort_longer nodes more k lk)
      ∙ ap (λ s. nat_lt k (length nodes) && nat_lt j (length nodes) && same_sort (index_sort (sort_of nodes k)) s) (sort_longer nodes more j lj)

  constant_same : (k j : ℕ) (s : Shape) → k < length nodes → j < length nodes → constant_start (nodes ++ more) k j s ≡ constant_start nodes k j s
  constant_same k j (Filling x) lk lj =
      let l : Landing = record { array = k; index = j; value = x } in
      ap (λ b. if b then Some l else None) (index_longer k j lk lj)
  constant_same k j s lk lj = refl

  landing_longer : (s : Start) (l : Landing) → landing_of nodes s ≡ Some l → landing_of (nodes ++ more) s ≡ Some l
  landing_longer (Term t) l e = ap (start_of t) (shape_longer t (start_held nodes (Term t) l e)) ∙ e
  landing_longer (Const k j) l e =
      let h = start_held nodes (Const k j) l e in
      ap (constant_start (nodes ++ more) k j) (shape_longer k h.0) ∙ constant_same k j (shape_at nodes k) h.0 h.1 ∙ e

  arrival_longer : (a : Access) (p : Arrival) → arrival_of nodes a ≡ Some p → arrival_of (nodes ++ more) a ≡ Some p
  arrival_longer a p e =
      let c = arrival_is nodes a p e in
      ap (λ o. from_landing (nodes ++ more) o a.path) (landing_longer a.start c.start c.starts)
      ∙ ap (arrive c.start) (trip_longer c.start.index c.start.array a.path c.trip c.comes)
      ∙ ap Some (sym c.is)

  arrays_longer : (a b : Access) (atoms : List Atom) → arrays_atoms (arrival_of nodes a) (arrival_of nodes b) ≡ Some atoms → arrays_atoms (arrival_of (nodes ++ more) a) (arrival_of (nodes ++ more) b) ≡ Some atoms
  arrays_longer a b atoms e =
      let m = meeting_is (arrival_of nodes a) (arrival_of nodes b) atoms e in
      ap (λ o. arrays_atoms o (arrival_of (nodes ++ more) b)) (arrival_longer a m.left m.first ∙ sym m.first)
      ∙ ap (arrays_atoms (arrival_of nodes a)) (arrival_longer b m.right m.second ∙ sym m.second)
      ∙ e

  -- ---- applications

  congruence_longer : (t u : ℕ) (atoms : List Atom) → congruence_atoms nodes t u ≡ Some atoms → congruence_atoms (nodes ++ more) t u ≡ Some atoms
  congruence_longer t u atoms e =
      let h = congruence_held nodes t u atoms e in
      ap (λ n. congruence_of t u n (node_at (nodes ++ more) u)) (node_longer nodes more t h.0)
      ∙ ap (congruence_of t u (node_at nodes t)) (node_longer nodes more u h.1)
      ∙ e

  -- ---- witnesses

  place_longer : (n : Node) (t : ℕ) → term_of nodes n ≡ Some t → term_of (nodes ++ more) n ≡ Some t
  place_longer n t e = position_longer (same_node n) nodes more t no_node e

  watch_longer : (a b : ℕ) (w : Watch) → watch nodes a b ≡ Some w → watch (nodes ++ more) a b ≡ Some w
  watch_longer a b w e =
      let h = watch_is_there nodes a b w e in
      ap (watch_at (nodes ++ more) a b) (place_longer (witness_node a b) w.witness h.witness)
      ∙ ap (λ l. watch_of w.witness l (term_of (nodes ++ more) (select_node b w.witness))) (place_longer (select_node a w.witness) w.left h.left)
      ∙ ap (watch_of w.witness (Some w.left)) (place_longer (select_node b w.witness) w.right h.right)

  watch_atoms_longer : (t a b : ℕ) (o : Option Watch) (atoms : List Atom) → watch nodes a b ≡ o → watch_atoms t o ≡ Some atoms → watch_atoms t (watch (nodes ++ more) a b) ≡ Some atoms
  watch_atoms_longer t a b None atoms h e = let z : ⊥ = cc in absurd z
  watch_atoms_longer t a b (Some w) atoms h e = ap (watch_atoms t) (watch_longer a b w h) ∙ e

  witness_longer : (t : ℕ) (k : Shape) (atoms : List Atom) → witness_atoms nodes t k ≡ Some atoms → witness_atoms (nodes ++ more) t k ≡ Some atoms
  witness_longer t (Equating a b) atoms e = watch_atoms_longer t a b (watch nodes a b) atoms refl e
  witness_longer t k atoms e = e

  -- ---- lemmas

  pub lemma_longer : (l : Lemma) (atoms : List Atom) → atoms_of nodes l ≡ Some atoms → atoms_of (nodes ++ more) l ≡ Some atoms
  lemma_longer (lemma.Congruence t u) atoms e = congruence_longer t u atoms e
  lemma_longer (lemma.Arrays a b) atoms e = arrays_longer a b atoms e
  lemma_longer (lemma.Witness t) atoms e = ap (witness_atoms (nodes ++ more) t) (shape_longer t (witness_held nodes t atoms e)) ∙ witness_longer t (shape_at nodes t) atoms e
