-- The evaluation in which witnesses are the assignment's words, and the theorem on interpretations that are built.
use Rattle.std.proofs.Common.{◌≡◌, ℕ, zero, suc, ◌<◌, Bool, true, false, not, ◌&&◌, List, [], ◌∷◌, length, Option, refl, sym, ap, ◌∙◌, subst, arith}
use Rattle.std.specs.Prelude.{if◌then◌else◌, map}
use Rattle.std.specs.List.{AllByRecursion}
use Rattle.std.proofs.lemmas.Bool.{and_parts}
use Rattle.std.proofs.Math.Nat.{mod-eq_of_lt}
use Rattle.smt_terms.specs.declared.sort.Sort.{Sort}
use Rattle.smt_terms.specs.declared.sort.Sort.TheVariants as sort
use Rattle.smt_terms.specs.declared.operator.Operator.TheVariants as plain
use Rattle.smt_terms.specs.declared.node.Op.{Op}
use Rattle.smt_terms.specs.declared.node.Op.TheVariants.{Plain, ConstantArray}
use Rattle.smt_terms.specs.declared.node.Node.{Node}
use Rattle.smt_terms.specs.Nodes.{node_at, at_term}
use Rattle.smt_terms.specs.Terms.{sort_of, IsTerm, IsTermList}
use Rattle.smt_terms.specs.Values.{Value, VWord, HasSort, read_at, Interpretation, no_value, op_value, value}
use Rattle.smt_terms.specs.Evaluations.{is_witness, IsEvaluation, each_true, has_no_witness}
use Rattle.smt_terms.proofs.Recursion.{at_term_is}
use Rattle.smt_terms.proofs.Typing.{value_is, typed_op, typed_args, read_has_sort}
use Rattle.theory_terms.specs.declared.shape.Shape.TheVariants.{Witnessing, Other}
use Rattle.theory_terms.specs.Shapes.{IsPlain, shape_of, shape_at}
use Rattle.theory_terms.proofs.Shapes.{WitnessFacts, FactsOf, facts, shape_within}
use Rattle.access_tables.specs.Ready.{IsReady}
use Rattle.access_tables.specs.Built.{IsCoherent, IsBuilt, Agrees}
use Rattle.access_tables.proofs.Building.{Fine, each_fine}

pub read_same : (s : Sort) (x : Value) → IsPlain s → HasSort s x → read_at s x ≡ x
read_same sort.Bool x p h = rw h.1 refl
read_same (sort.Word n) x p h = rw h.1 (ap (VWord n) (mod-eq_of_lt h.2))
read_same (sort.Array n m) x p h = absurd p

module _ (M : Interpretation) (nodes : List Node) (terms : IsTermList nodes) (val : ℕ → Value) where
  abbrev pub step : ℕ → Op → List Value → Value
  step t op vs = if is_witness op then read_at (sort_of nodes t) (val t) else op_value M op vs

  -- the values where each witness is the assignment's word
  abbrev pub chosen_value : ℕ → Value
  chosen_value t = at_term no_value step nodes t

  chosen_is : (t : ℕ) → IsTerm nodes t → chosen_value t ≡ step t (node_at nodes t).op (map chosen_value (node_at nodes t).args)
  chosen_is t h = at_term_is no_value step nodes t h.earlier

  typed_step : (t : ℕ) (op : Op) (vs : List Value) (b : Bool) → is_witness op ≡ b → HasSort (sort_of nodes t) (op_value M op vs) → HasSort (sort_of nodes t) (step t op vs)
  typed_step t op vs true e h = rw e (read_has_sort (sort_of nodes t) (val t))
  typed_step t op vs false e h = rw e h

  chosen_typed : (n t : ℕ) → t < n → t < length nodes → HasSort (sort_of nodes t) (chosen_value t)
  chosen_typed zero t lt within = absurd (omega arith)
  chosen_typed (suc n) t lt within =
      let h = terms t within in
      let node = node_at nodes t in
      let each = typed_args (sort_of nodes) chosen_value t (λ a la. chosen_typed n a (omega arith) (omega arith)) node.args h.earlier in
      let own = typed_op M node.op (map (sort_of nodes) node.args) (map chosen_value node.args) (sort_of nodes t) h.rank each in
      let stepped = typed_step t node.op (map chosen_value node.args) (is_witness node.op) refl own in
      subst (HasSort (sort_of nodes t)) (sym (chosen_is t h)) stepped

  pub chosen_evaluates : IsEvaluation M nodes chosen_value
  chosen_evaluates = record {
    means = λ t lt w. chosen_is t (terms t lt) ∙ ap (λ b. if b then read_at (sort_of nodes t) (val t) else op_value M (node_at nodes t).op (map chosen_value (node_at nodes t).args)) w;
    sorted = λ t lt. chosen_typed (suc t) t (omega arith) lt;
  }

  witness_op : (op : Op) (args : List ℕ) (x y : ℕ) → shape_of op args ≡ Witnessing x y → is_witness op ≡ true
  witness_op (Plain plain.Witness) args x y e = refl
  witness_op (Plain plain.Ite) (a ∷ b ∷ c ∷ []) x y e = let f : ⊥ = cc in absurd f
  witness_op (Plain plain.Equal) (a ∷ b ∷ []) x y e = let f : ⊥ = cc in absurd f
  witness_op (Plain plain.Select) (a ∷ b ∷ []) x y e = let f : ⊥ = cc in absurd f
  witness_op (Plain plain.Store) (a ∷ b ∷ c ∷ []) x y e = let f : ⊥ = cc in absurd f
  witness_op (ConstantArray k) (a ∷ []) x y e = let f : ⊥ = cc in absurd f
  witness_op op args x y e = let f : ⊥ = cc in absurd f

  pub chosen_witness : (t a b : ℕ) → shape_at nodes t ≡ Witnessing a b → IsPlain (sort_of nodes t) → HasSort (sort_of nodes t) (val t) → chosen_value t ≡ val t
  chosen_witness t a b e p h =
      let lt = shape_within nodes t (λ o. let z : Witnessing a b ≡ Other = sym e ∙ o in let y : ⊥ = cc in y) in
      chosen_is t (terms t lt) ∙ ap (λ b'. if b' then read_at (sort_of nodes t) (val t) else op_value M (node_at nodes t).op (map chosen_value (node_at nodes t).args)) (witness_op (node_at nodes t).op (node_at nodes t).args a b e) ∙ read_same (sort_of nodes t) (val t) p h

  free_args : (n : ℕ) → ((a : ℕ) → a < n → has_no_witness nodes a ≡ true → chosen_value a ≡ value M nodes a) → (args : List ℕ) → AllByRecursion (λ a. a < n) args → each_true (map (has_no_witness nodes) args) ≡ true → map chosen_value args ≡ map (value M nodes) args
  free_args n ih [] lt h = refl
  free_args n ih (a ∷ args) lt h =
      let p = and_parts (has_no_witness nodes a) (each_true (map (has_no_witness nodes) args)) h in
      rw (ih a lt.0 p.0, free_args n ih args lt.1 p.1) refl

  not_witness : (b : Bool) → not b ≡ true → b ≡ false
  not_witness true h = let f : ⊥ = cc in absurd f
  not_witness false h = refl

  free_upto : (n t : ℕ) → t < n → t < length nodes → has_no_witness nodes t ≡ true → chosen_value t ≡ value M nodes t
  free_upto zero t lt within h = absurd (omega arith)
  free_upto (suc n) t lt within h =
      let k = terms t within in
      let node = node_at nodes t in
      let is : has_no_witness nodes t ≡ (not (is_witness node.op) && each_true (map (has_no_witness nodes) node.args)) = at_term_is true (λ u op bs. not (is_witness op) && each_true bs) nodes t k.earlier in
      let p = and_parts (not (is_witness node.op)) (each_true (map (has_no_witness nodes) node.args)) (sym is ∙ h) in
      let args = free_args t (λ a la. free_upto n a (omega arith) (omega arith)) node.args k.earlier p.1 in
      chosen_evaluates.means t within (not_witness (is_witness node.op) p.0) ∙ ap (op_value M node.op) args ∙ sym (value_is M nodes t k)

  -- a term without witnesses has its own value
  pub free_value : (t : ℕ) → t < length nodes → has_no_witness nodes t ≡ true → chosen_value t ≡ value M nodes t
  free_value t lt h = free_upto (suc t) t (omega arith) lt h

module _
    (nodes : List Node) (image : ℕ → Option ℕ) (Here : ℕ → Type 0) (val : ℕ → Value) (at : ℕ → ℕ → ℕ) (M : Interpretation)
    (terms : IsTermList nodes) (ready : IsReady nodes image Here val) (coherent : IsCoherent nodes image Here val at) (built : IsBuilt nodes image Here val at M) where
  witness_plain : (t a b : ℕ) → Here t → shape_at nodes t ≡ Witnessing a b → chosen_value M nodes terms val t ≡ val t
  witness_plain t a b h e =
      let f = facts M nodes (chosen_value M nodes terms val) terms (chosen_evaluates M nodes terms val) t in
      let w : WitnessFacts (sort_of nodes) t a b = subst (FactsOf M (sort_of nodes) (chosen_value M nodes terms val) t (node_at nodes t)) e f in
      let p : IsPlain (sort_of nodes t) = subst IsPlain (sym w.sort) tt in
      chosen_witness M nodes terms val t a b e p (ready.sorted t h p)

  each : (t : ℕ) → Here t → Fine M nodes (chosen_value M nodes terms val) terms (chosen_evaluates M nodes terms val) image Here val ready at coherent built witness_plain t
  each t h = each_fine M nodes (chosen_value M nodes terms val) terms (chosen_evaluates M nodes terms val) image Here val ready at coherent built witness_plain t h

  own_value : (t : ℕ) → Here t → has_no_witness nodes t ≡ true → chosen_value M nodes terms val t ≡ value M nodes t
  own_value t h free = free_value M nodes terms val t (ready.held t h) free

  pub agrees : Agrees nodes Here val at M
  agrees = record {
    terms = λ t h p free. sym (own_value t h free) ∙ (each t h).0 p;
    arrays = λ t n m h s free. let w = (each t h).1 n m s in (w.0, sym (own_value t h free) ∙ w.1, w.2);
  }
