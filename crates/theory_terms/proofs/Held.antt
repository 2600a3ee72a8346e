-- The terms that a lemma names are held.
use Rattle.std.proofs.Common.{◌≡◌, ℕ, ◌<◌, Bool, true, false, ◌&&◌, List, [], ◌∷◌, length, Some, None, refl, sym, ap, ◌∙◌, ⊎_elim}
use Rattle.std.specs.Prelude.{if◌then◌else◌, nat_lt}
use Rattle.std.specs.List.{AllByRecursion}
use Rattle.std.proofs.lemmas.Bool.{and_parts, cases_lt, ltb-true}
use Rattle.std.proofs.lemmas.List.{get_or_past}
use Rattle.smt_terms.specs.declared.operator.Operator.TheVariants as plain
use Rattle.smt_terms.specs.declared.node.Op.{Op}
use Rattle.smt_terms.specs.declared.node.Op.TheVariants.{Plain}
use Rattle.smt_terms.specs.declared.node.Node.{Node}
use Rattle.smt_terms.specs.Nodes.{no_node, node_at}
use Rattle.smt_terms.specs.Same.{same_op, op_same, same_sort}
use Rattle.smt_terms.specs.Ranks.{index_sort}
use Rattle.smt_terms.specs.Terms.{sort_of}
use Rattle.theory_terms.specs.declared.shape.Shape.{Shape}
use Rattle.theory_terms.specs.declared.shape.Shape.TheVariants.{Filling}
use Rattle.theory_terms.specs.declared.lemma.Move.{Move}
use Rattle.theory_terms.specs.declared.lemma.Move.TheVariants as by
use Rattle.theory_terms.specs.declared.lemma.Start.{Start}
use Rattle.theory_terms.specs.declared.lemma.Start.TheVariants.{Term, Const}
use Rattle.theory_terms.specs.declared.lemma.Access.{Access}
use Rattle.theory_terms.specs.declared.lemma.Lemma.{Lemma}
use Rattle.theory_terms.specs.declared.lemma.Lemma.TheVariants as lemma
use Rattle.theory_terms.specs.declared.atom.Atom.{Atom}
use Rattle.theory_terms.specs.declared.atom.Atom.TheVariants.{Same}
use Rattle.theory_terms.specs.declared.atom.Landing.{Landing}
use Rattle.theory_terms.specs.declared.atom.Turn.{Turn}
use Rattle.theory_terms.specs.Shapes.{shape_of, shape_at}
use Rattle.theory_terms.specs.Lemmas.{start_of, is_index, constant_start, landing_of, store_turn, then_turn, else_turn, sides_turn, turn_of, Trip, trip_of, Arrival, arrival_of, pairs_atoms, is_applying, congruence_atoms, witness_atoms, atoms_of}
use Rattle.theory_terms.specs.Named.{mover, IsHeldStart, IsHeldAccess, AreHeld}
use Rattle.theory_terms.proofs.Shapes.{shape_within}
use Rattle.theory_terms.proofs.Trips.{going_is, arrival_is, meeting_is}

module _ (nodes : List Node) where
  -- ---- accesses

  -- a term that is no access, move or comparison has no turn
  pub turn_held : (i here : ℕ) (m : Move) (w : Turn) → turn_of nodes i here m ≡ Some w → mover m < length nodes
  turn_held i here (by.Store t) w e = shape_within nodes t (λ o. let z : None ≡ Some w = sym (ap (store_turn here i t) o) ∙ e in let y : ⊥ = cc in y)
  turn_held i here (by.Then t) w e = shape_within nodes t (λ o. let z : None ≡ Some w = sym (ap (then_turn here t) o) ∙ e in let y : ⊥ = cc in y)
  turn_held i here (by.Else t) w e = shape_within nodes t (λ o. let z : None ≡ Some w = sym (ap (else_turn here t) o) ∙ e in let y : ⊥ = cc in y)
  turn_held i here (by.Sides t) w e = shape_within nodes t (λ o. let z : None ≡ Some w = sym (ap (sides_turn here t) o) ∙ e in let y : ⊥ = cc in y)

  moves_held : (i here : ℕ) (ms : List Move) (r : Trip) → trip_of nodes i here ms ≡ Some r → AllByRecursion (λ m. mover m < length nodes) ms
  moves_held i here [] r e = tt
  moves_held i here (m ∷ ms) r e =
      let g = going_is (turn_of nodes i here m) (λ to. trip_of nodes i to ms) r e in
      (turn_held i here m g.turn g.turns, moves_held i g.turn.to ms g.rest g.goes)

  index_held : (k j : ℕ) → is_index nodes k j ≡ true → (k < length nodes) × (j < length nodes)
  index_held k j h =
      let p = and_parts (nat_lt k (length nodes) && nat_lt j (length nodes)) (same_sort (index_sort (sort_of nodes k)) (sort_of nodes j)) h in
      let q = and_parts (nat_lt k (length nodes)) (nat_lt j (length nodes)) p.0 in
      (ltb-true k (length nodes) q.0, ltb-true j (length nodes) q.1)

  constant_held : (k j : ℕ) (l : Landing) (s : Shape) → constant_start nodes k j s ≡ Some l → (k < length nodes) × (j < length nodes)
  constant_held k j l (Filling x) e = go (is_index nodes k j) refl e where
    go : (b : Bool) → is_index nodes k j ≡ b → (if b then Some (record { array = k; index = j; value = x }) else None) ≡ Some l → (k < length nodes) × (j < length nodes)
    go true h q = index_held k j h
    go false h q = let z : ⊥ = cc in absurd z
  constant_held k j l s e = let z : ⊥ = cc in absurd z

  pub start_held : (s : Start) (l : Landing) → landing_of nodes s ≡ Some l → IsHeldStart nodes s
  start_held (Term t) l e = shape_within nodes t (λ o. let z : None ≡ Some l = sym (ap (start_of t) o) ∙ e in let y : ⊥ = cc in y)
  start_held (Const k j) l e = constant_held k j l (shape_at nodes k) e

  access_held : (a : Access) (p : Arrival) → arrival_of nodes a ≡ Some p → IsHeldAccess nodes a
  access_held a p e =
      let c = arrival_is nodes a p e in
      (start_held a.start c.start c.starts, moves_held c.start.index c.start.array a.path c.trip c.comes)

  -- ---- applications

  applying_held : (t : ℕ) → is_applying (shape_at nodes t) ≡ true → t < length nodes
  applying_held t e = shape_within nodes t (λ o. let z : false ≡ true = sym (ap is_applying o) ∙ e in let y : ⊥ = cc in y)

  -- a number past the end has no operator of an application
  other_held : (t u : ℕ) → is_applying (shape_at nodes t) ≡ true → (node_at nodes t).op ≡ (node_at nodes u).op → u < length nodes
  other_held t u e same =
      ⊎_elim
      (λ lt. lt)
      (λ le.
      let past : (node_at nodes u).op ≡ Plain plain.True = ap (λ (n : Node). n.op) (get_or_past nodes u no_node le) in
      let z : false ≡ true = sym (ap (λ (o : Op). is_applying (shape_of o (node_at nodes t).args)) (same ∙ past)) ∙ e in
      let y : ⊥ = cc in absurd y)
      (cases_lt u (length nodes))

  pub congruence_held : (t u : ℕ) (atoms : List Atom) → congruence_atoms nodes t u ≡ Some atoms → (t < length nodes) × (u < length nodes)
  congruence_held t u atoms e = go (is_applying (shape_at nodes t) && same_op (node_at nodes t).op (node_at nodes u).op) refl e where
    go : (b : Bool) → (is_applying (shape_at nodes t) && same_op (node_at nodes t).op (node_at nodes u).op) ≡ b → (if b then pairs_atoms (node_at nodes t).args (node_at nodes u).args (Same t u ∷ []) else None) ≡ Some atoms → (t < length nodes) × (u < length nodes)
    go true h q =
        let p = and_parts (is_applying (shape_at nodes t)) (same_op (node_at nodes t).op (node_at nodes u).op) h in
        (applying_held t p.0, other_held t u p.0 (op_same _ _ p.1))
    go false h q = let z : ⊥ = cc in absurd z

  -- ---- lemmas

  pub witness_held : (t : ℕ) (atoms : List Atom) → witness_atoms nodes t (shape_at nodes t) ≡ Some atoms → t < length nodes
  witness_held t atoms e = shape_within nodes t (λ o. let z : None ≡ Some atoms = sym (ap (witness_atoms nodes t) o) ∙ e in let y : ⊥ = cc in y)

  pub lemma_held : (l : Lemma) (atoms : List Atom) → atoms_of nodes l ≡ Some atoms → AreHeld nodes l
  lemma_held (lemma.Congruence t u) atoms e = congruence_held t u atoms e
  lemma_held (lemma.Arrays a b) atoms e =
      let m = meeting_is (arrival_of nodes a) (arrival_of nodes b) atoms e in
      (access_held a m.left m.first, access_held b m.right m.second)
  lemma_held (lemma.Witness t) atoms e = witness_held t atoms e
