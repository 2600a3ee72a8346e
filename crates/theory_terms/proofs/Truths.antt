-- Each term that a lemma says to be true or false is a Bool.
use Rattle.std.proofs.Common.{◌≡◌, ℕ, Bool, true, false, ◌&&◌, List, [], ◌∷◌, ◌++◌, Option, Some, None, refl, sym, subst}
use Rattle.std.specs.Prelude.{if◌then◌else◌}
use Rattle.std.specs.List.{AllByRecursion}
use Rattle.cnf_base.proofs.Lists.{each_append}
use Rattle.smt_terms.specs.declared.sort.Sort.TheVariants as sort
use Rattle.smt_terms.specs.declared.node.Node.{Node}
use Rattle.smt_terms.specs.Same.{same_op}
use Rattle.smt_terms.specs.Nodes.{node_at}
use Rattle.smt_terms.specs.Terms.{sort_of, IsTermList}
use Rattle.smt_terms.specs.Values.{no_value, Interpretation, value}
use Rattle.smt_terms.proofs.Evaluating.{value_is_evaluation}
use Rattle.theory_terms.specs.declared.shape.Shape.{Shape}
use Rattle.theory_terms.specs.declared.shape.Shape.TheVariants.{Storing, Choosing, Equating}
use Rattle.theory_terms.specs.declared.lemma.Move.{Move}
use Rattle.theory_terms.specs.declared.lemma.Move.TheVariants as by
use Rattle.theory_terms.specs.declared.lemma.Access.{Access}
use Rattle.theory_terms.specs.declared.lemma.Lemma.{Lemma}
use Rattle.theory_terms.specs.declared.lemma.Lemma.TheVariants as lemma
use Rattle.theory_terms.specs.declared.atom.Atom.{Atom}
use Rattle.theory_terms.specs.declared.atom.Atom.TheVariants.{Same, Differ, Holds, Fails}
use Rattle.theory_terms.specs.declared.atom.Turn.{Turn}
use Rattle.theory_terms.specs.declared.atom.Watch.{Watch}
use Rattle.theory_terms.specs.Shapes.{shape_at}
use Rattle.theory_terms.specs.Lemmas.{store_turn, then_turn, else_turn, sides_turn, turn_of, Trip, trip_of, Arrival, arrival_of, arrays_atoms, put_front, pairs_atoms, is_applying, congruence_atoms, watch, watch_atoms, witness_atoms, atoms_of}
use Rattle.theory_terms.specs.Named.{NamesTruth}
use Rattle.theory_terms.proofs.Shapes.{FactsOf, facts}
use Rattle.theory_terms.proofs.Trips.{between_unless, going_is, arrival_is, meeting_is}

-- some interpretation; the sorts of terms do not depend on it
abbrev false_throughout : Interpretation
false_throughout = record { constants = λ d. no_value; functions = λ d vs. no_value }

module _ (nodes : List Node) (terms : IsTermList nodes) where
  known : (t : ℕ) (k : Shape) → shape_at nodes t ≡ k → FactsOf false_throughout (sort_of nodes) (value false_throughout nodes) t (node_at nodes t) k
  known t k e =
      subst (FactsOf false_throughout (sort_of nodes) (value false_throughout nodes) t (node_at nodes t)) e
      (facts false_throughout nodes (value false_throughout nodes) terms (value_is_evaluation false_throughout nodes terms) t)

  choice_truth : (t c a b : ℕ) → shape_at nodes t ≡ Choosing c a b → sort_of nodes c ≡ sort.Bool
  choice_truth t c a b e = let f = known t (Choosing c a b) e in f.test_sort

  equal_truth : (t a b : ℕ) → shape_at nodes t ≡ Equating a b → sort_of nodes t ≡ sort.Bool
  equal_truth t a b e = let f = known t (Equating a b) e in f.sort

  -- ---- moves

  store_truth : (i here t : ℕ) (w : Turn) (k : Shape) → store_turn here i t k ≡ Some w → NamesTruth nodes w.unless
  store_truth i here t w (Storing b j x) q = subst (NamesTruth nodes) (sym (between_unless here t b (Same i j) w q)) tt
  store_truth i here t w k q = let f : ⊥ = cc in absurd f

  then_truth : (here t : ℕ) (w : Turn) (k : Shape) → shape_at nodes t ≡ k → then_turn here t k ≡ Some w → NamesTruth nodes w.unless
  then_truth here t w (Choosing c a b) e q = subst (NamesTruth nodes) (sym (between_unless here t a (Fails c) w q)) (choice_truth t c a b e)
  then_truth here t w k e q = let f : ⊥ = cc in absurd f

  else_truth : (here t : ℕ) (w : Turn) (k : Shape) → shape_at nodes t ≡ k → else_turn here t k ≡ Some w → NamesTruth nodes w.unless
  else_truth here t w (Choosing c a b) e q = subst (NamesTruth nodes) (sym (between_unless here t b (Holds c) w q)) (choice_truth t c a b e)
  else_truth here t w k e q = let f : ⊥ = cc in absurd f

  sides_truth : (here t : ℕ) (w : Turn) (k : Shape) → shape_at nodes t ≡ k → sides_turn here t k ≡ Some w → NamesTruth nodes w.unless
  sides_truth here t w (Equating a b) e q = subst (NamesTruth nodes) (sym (between_unless here a b (Fails t) w q)) (equal_truth t a b e)
  sides_truth here t w k e q = let f : ⊥ = cc in absurd f

  turn_truth : (i here : ℕ) (m : Move) (w : Turn) → turn_of nodes i here m ≡ Some w → NamesTruth nodes w.unless
  turn_truth i here (by.Store t) w q = store_truth i here t w (shape_at nodes t) q
  turn_truth i here (by.Then t) w q = then_truth here t w (shape_at nodes t) refl q
  turn_truth i here (by.Else t) w q = else_truth here t w (shape_at nodes t) refl q
  turn_truth i here (by.Sides t) w q = sides_truth here t w (shape_at nodes t) refl q

  trip_truths : (i here : ℕ) (ms : List Move) (r : Trip) → trip_of nodes i here ms ≡ Some r → AllByRecursion (NamesTruth nodes) r.unless
  trip_truths i here [] r e =
      let same : [] ≡ r.unless = cc in
      subst (AllByRecursion (NamesTruth nodes)) same tt
  trip_truths i here (m ∷ ms) r e =
      let g = going_is (turn_of nodes i here m) (λ to. trip_of nodes i to ms) r e in
      let all : AllByRecursion (NamesTruth nodes) (g.turn.unless ∷ g.rest.unless) = (turn_truth i here m g.turn g.turns, trip_truths i g.turn.to ms g.rest g.goes) in
      subst (λ (t : Trip). AllByRecursion (NamesTruth nodes) t.unless) (sym g.is) all

  arrival_truths : (a : Access) (p : Arrival) → arrival_of nodes a ≡ Some p → AllByRecursion (NamesTruth nodes) p.unless
  arrival_truths a p e =
      let c = arrival_is nodes a p e in
      subst (λ (q : Arrival). AllByRecursion (NamesTruth nodes) q.unless) (sym c.is) (trip_truths c.start.index c.start.array a.path c.trip c.comes)

  -- ---- lemmas

  arrays_truths : (a b : Access) (atoms : List Atom) → arrays_atoms (arrival_of nodes a) (arrival_of nodes b) ≡ Some atoms → AllByRecursion (NamesTruth nodes) atoms
  arrays_truths a b atoms e =
      let m = meeting_is (arrival_of nodes a) (arrival_of nodes b) atoms e in
      let moves = each_append (NamesTruth nodes) m.left.unless m.right.unless (arrival_truths a m.left m.first) (arrival_truths b m.right m.second) in
      subst (AllByRecursion (NamesTruth nodes)) (sym m.is)
      (each_append (NamesTruth nodes) (m.left.unless ++ m.right.unless) (Differ m.left.landing.index m.right.landing.index ∷ Same m.left.landing.value m.right.landing.value ∷ []) moves (tt, (tt, tt)))

  pairs_truths : (xs ys : List ℕ) (last atoms : List Atom) → AllByRecursion (NamesTruth nodes) last → pairs_atoms xs ys last ≡ Some atoms → AllByRecursion (NamesTruth nodes) atoms
  pairs_truths [] [] last atoms h e = let same : last ≡ atoms = cc in subst (AllByRecursion (NamesTruth nodes)) same h
  pairs_truths [] (y ∷ ys) last atoms h e = let z : ⊥ = cc in absurd z
  pairs_truths (x ∷ xs) [] last atoms h e = let z : ⊥ = cc in absurd z
  pairs_truths (x ∷ xs) (y ∷ ys) last atoms h e = go (pairs_atoms xs ys last) (λ rest q. pairs_truths xs ys last rest h q) e where
    go : (o : Option (List Atom)) → ((rest : List Atom) → o ≡ Some rest → AllByRecursion (NamesTruth nodes) rest) → put_front (Differ x y) o ≡ Some atoms → AllByRecursion (NamesTruth nodes) atoms
    go None ih q = let z : ⊥ = cc in absurd z
    go (Some rest) ih q =
        let same : Differ x y ∷ rest ≡ atoms = cc in
        let all : AllByRecursion (NamesTruth nodes) (Differ x y ∷ rest) = (tt, ih rest refl) in
        subst (AllByRecursion (NamesTruth nodes)) same all

  congruence_truths : (t u : ℕ) (atoms : List Atom) → congruence_atoms nodes t u ≡ Some atoms → AllByRecursion (NamesTruth nodes) atoms
  congruence_truths t u atoms e = go (is_applying (shape_at nodes t) && same_op (node_at nodes t).op (node_at nodes u).op) e where
    go : (b : Bool) → (if b then pairs_atoms (node_at nodes t).args (node_at nodes u).args (Same t u ∷ []) else None) ≡ Some atoms → AllByRecursion (NamesTruth nodes) atoms
    go true q = pairs_truths (node_at nodes t).args (node_at nodes u).args (Same t u ∷ []) atoms (tt, tt) q
    go false q = let z : ⊥ = cc in absurd z

  watch_truths : (t : ℕ) (o : Option Watch) (atoms : List Atom) → sort_of nodes t ≡ sort.Bool → watch_atoms t o ≡ Some atoms → AllByRecursion (NamesTruth nodes) atoms
  watch_truths t None atoms s e = let z : ⊥ = cc in absurd z
  watch_truths t (Some w) atoms s e =
      let same : Holds t ∷ Differ w.left w.right ∷ [] ≡ atoms = cc in
      let all : AllByRecursion (NamesTruth nodes) (Holds t ∷ Differ w.left w.right ∷ []) = (s, (tt, tt)) in
      subst (AllByRecursion (NamesTruth nodes)) same all

  witness_truths : (t : ℕ) (k : Shape) (atoms : List Atom) → shape_at nodes t ≡ k → witness_atoms nodes t k ≡ Some atoms → AllByRecursion (NamesTruth nodes) atoms
  witness_truths t (Equating a b) atoms e q = watch_truths t (watch nodes a b) atoms (equal_truth t a b e) q
  witness_truths t k atoms e q = let z : ⊥ = cc in absurd z

  pub lemma_truths : (l : Lemma) (atoms : List Atom) → atoms_of nodes l ≡ Some atoms → AllByRecursion (NamesTruth nodes) atoms
  lemma_truths (lemma.Congruence t u) atoms e = congruence_truths t u atoms e
  lemma_truths (lemma.Arrays a b) atoms e = arrays_truths a b atoms e
  lemma_truths (lemma.Witness t) atoms e = witness_truths t (shape_at nodes t) atoms refl e
