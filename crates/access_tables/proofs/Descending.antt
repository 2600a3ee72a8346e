-- Where no term has an image, no way leads back.
use Rattle.std.proofs.Common.{◌≡◌, ℕ, ◌+◌, ◌*◌, ◌<◌, ◌≤◌, Bool, true, false, List, [], ◌∷◌, length, Option, Some, None, refl, sym, ap, ◌∙◌, subst, ⊎_elim, arith}
use Rattle.std.specs.Prelude.{if◌then◌else◌, map, get_or, Contains}
use Rattle.std.proofs.lemmas.Bool.{cases_lt}
use Rattle.std.proofs.lemmas.List.{get_or_past}
use Rattle.std.proofs.lemmas.List.Elements.{Contains-append_cases}
use Rattle.smt_terms.specs.declared.operator.Operator.TheVariants as plain
use Rattle.smt_terms.specs.declared.node.Op.{Op}
use Rattle.smt_terms.specs.declared.node.Op.TheVariants.{Plain, ConstantArray}
use Rattle.smt_terms.specs.declared.node.Node.{Node}
use Rattle.smt_terms.specs.Operators.{same_operator}
use Rattle.smt_terms.specs.Nodes.{no_node, node_at, at_term}
use Rattle.smt_terms.specs.Terms.{IsTermList}
use Rattle.smt_terms.proofs.Recursion.{at_term_is}
use Rattle.theory_terms.specs.declared.shape.Shape.{Shape}
use Rattle.theory_terms.specs.declared.shape.Shape.TheVariants.{Selecting, Storing, Filling, Choosing, Equating, Witnessing, Applying, Declaring, Other}
use Rattle.theory_terms.specs.declared.atom.Watch.{Watch}
use Rattle.theory_terms.specs.Shapes.{shape_of, shape_at}
use Rattle.theory_terms.specs.Lemmas.{watch}
use Rattle.theory_terms.proofs.Shapes.{shape_within}
use Rattle.theory_terms.proofs.Sound.{watch_is}
use Rattle.term_reach.specs.Reach.{arguments, IsRank, IsAcyclic}
use Rattle.access_tables.specs.Leading.{selects_of, watched, leads}
use Rattle.access_tables.proofs.Building.{args_at}

abbrev is_equal : Op → Bool
is_equal (Plain o) = same_operator o plain.Equal
is_equal _ = false

abbrev total : List ℕ → ℕ
total [] = 0
total (h ∷ hs) = h + total hs

abbrev step : ℕ → Op → List ℕ → ℕ
step u op hs = if is_equal op then 4 + 2 * total hs else 1 + total hs

-- a number that falls along arguments, and from an equality to the selects of its sides at their witness
abbrev height : List Node → ℕ → ℕ
height nodes t = at_term 0 step nodes t

selecting_op : (op : Op) (args : List ℕ) (a i : ℕ) → shape_of op args ≡ Selecting a i → is_equal op ≡ false
selecting_op (Plain plain.Select) args a i e = refl
selecting_op (Plain plain.Ite) (x ∷ y ∷ z ∷ []) a i e = let f : ⊥ = cc in absurd f
selecting_op (Plain plain.Equal) (x ∷ y ∷ []) a i e = let f : ⊥ = cc in absurd f
selecting_op (Plain plain.Store) (x ∷ y ∷ z ∷ []) a i e = let f : ⊥ = cc in absurd f
selecting_op (Plain plain.Witness) (x ∷ y ∷ []) a i e = let f : ⊥ = cc in absurd f
selecting_op (ConstantArray k) (x ∷ []) a i e = let f : ⊥ = cc in absurd f
selecting_op op args a i e = let f : ⊥ = cc in absurd f

witnessing_op : (op : Op) (args : List ℕ) (a b : ℕ) → shape_of op args ≡ Witnessing a b → is_equal op ≡ false
witnessing_op (Plain plain.Witness) args a b e = refl
witnessing_op (Plain plain.Ite) (x ∷ y ∷ z ∷ []) a b e = let f : ⊥ = cc in absurd f
witnessing_op (Plain plain.Equal) (x ∷ y ∷ []) a b e = let f : ⊥ = cc in absurd f
witnessing_op (Plain plain.Store) (x ∷ y ∷ z ∷ []) a b e = let f : ⊥ = cc in absurd f
witnessing_op (Plain plain.Select) (x ∷ y ∷ []) a b e = let f : ⊥ = cc in absurd f
witnessing_op (ConstantArray k) (x ∷ []) a b e = let f : ⊥ = cc in absurd f
witnessing_op op args a b e = let f : ⊥ = cc in absurd f

equating_op : (op : Op) (args : List ℕ) (a b : ℕ) → shape_of op args ≡ Equating a b → is_equal op ≡ true
equating_op (Plain plain.Equal) args a b e = refl
equating_op (Plain plain.Ite) (x ∷ y ∷ z ∷ []) a b e = let f : ⊥ = cc in absurd f
equating_op (Plain plain.Witness) (x ∷ y ∷ []) a b e = let f : ⊥ = cc in absurd f
equating_op (Plain plain.Store) (x ∷ y ∷ z ∷ []) a b e = let f : ⊥ = cc in absurd f
equating_op (Plain plain.Select) (x ∷ y ∷ []) a b e = let f : ⊥ = cc in absurd f
equating_op (ConstantArray k) (x ∷ []) a b e = let f : ⊥ = cc in absurd f
equating_op op args a b e = let f : ⊥ = cc in absurd f

in_one : (a u : ℕ) → Contains (a ∷ []) u → a ≡ u
in_one a u c = let first : c.0 ≡ 0 = (let lt = c.1 in omega (arith, lt)) in ap (λ j. get_or (a ∷ []) j u) (sym first) ∙ c.2

none_in : (u : ℕ) → Contains [] u → ⊥
none_in u c = let lt = c.1 in omega (arith, lt)

in_total : (h : ℕ → ℕ) (args : List ℕ) (u : ℕ) → Contains args u → h u ≤ total (map h args)
in_total h [] u c = absurd (none_in u c)
in_total h (a ∷ args) u c = ⊎_elim
    (λ (p : Contains (a ∷ []) u). (let same = ap h (in_one a u p) in omega (arith, same)))
    (λ (p : Contains args u). (let less = in_total h args u p in omega (arith, less)))
    (Contains-append_cases (a ∷ []) args u c)

module _ (nodes : List Node) (terms : IsTermList nodes) where
  height_is : (t : ℕ) → t < length nodes → height nodes t ≡ step t (node_at nodes t).op (map (height nodes) (node_at nodes t).args)
  height_is t lt = at_term_is 0 step nodes t (terms t lt).earlier

  stepped : (t : ℕ) (b : Bool) → t < length nodes → is_equal (node_at nodes t).op ≡ b
      → height nodes t ≡ (if b then 4 + 2 * total (map (height nodes) (node_at nodes t).args) else 1 + total (map (height nodes) (node_at nodes t).args))
  stepped t b lt e = height_is t lt ∙ ap (λ x. if x then 4 + 2 * total (map (height nodes) (node_at nodes t).args) else 1 + total (map (height nodes) (node_at nodes t).args)) e

  below : (t : ℕ) (b : Bool) → t < length nodes → is_equal (node_at nodes t).op ≡ b → total (map (height nodes) (node_at nodes t).args) < height nodes t
  below t true lt e = let h = stepped t true lt e in omega (arith, h)
  below t false lt e = let h = stepped t false lt e in omega (arith, h)

  argument_below : (t u : ℕ) → Contains (node_at nodes t).args u → height nodes u < height nodes t
  argument_below t u c = ⊎_elim
      (λ lt. (let less = in_total (height nodes) (node_at nodes t).args u c in let more = below t (is_equal (node_at nodes t).op) lt refl in omega (arith, less, more)))
      (λ le. absurd (none_in u (subst (λ (n : Node). Contains n.args u) (get_or_past nodes t no_node le) c)))
      (cases_lt t (length nodes))

  select_height : (l a i : ℕ) → shape_at nodes l ≡ Selecting a i → height nodes l ≡ 1 + (height nodes a + height nodes i)
  select_height l a i e =
      let lt = shape_within nodes l (λ o. let z : Selecting a i ≡ Other = sym e ∙ o in let y : ⊥ = cc in y) in
      let h = stepped l false lt (selecting_op (node_at nodes l).op (node_at nodes l).args a i e) in
      let args : total (map (height nodes) (node_at nodes l).args) ≡ height nodes a + (height nodes i + 0) = ap (λ xs. total (map (height nodes) xs)) (args_at nodes l (Selecting a i) e) in
      omega (arith, h, args)

  witness_height : (w a b : ℕ) → shape_at nodes w ≡ Witnessing a b → w < length nodes → height nodes w ≡ 1 + (height nodes a + height nodes b)
  witness_height w a b e lt =
      let h = stepped w false lt (witnessing_op (node_at nodes w).op (node_at nodes w).args a b e) in
      let args : total (map (height nodes) (node_at nodes w).args) ≡ height nodes a + (height nodes b + 0) = ap (λ xs. total (map (height nodes) xs)) (args_at nodes w (Witnessing a b) e) in
      omega (arith, h, args)

  equal_height : (t a b : ℕ) → shape_at nodes t ≡ Equating a b → height nodes t ≡ 4 + 2 * (height nodes a + height nodes b)
  equal_height t a b e =
      let lt = shape_within nodes t (λ o. let z : Equating a b ≡ Other = sym e ∙ o in let y : ⊥ = cc in y) in
      let h = stepped t true lt (equating_op (node_at nodes t).op (node_at nodes t).args a b e) in
      let args : total (map (height nodes) (node_at nodes t).args) ≡ height nodes a + (height nodes b + 0) = ap (λ xs. total (map (height nodes) xs)) (args_at nodes t (Equating a b) e) in
      omega (arith, h, args)

  select_below : (t a b u : ℕ) → shape_at nodes t ≡ Equating a b → (o : Option Watch) → watch nodes a b ≡ o → Contains (selects_of o) u → height nodes u < height nodes t
  select_below t a b u e None p c = absurd (none_in u c)
  select_below t a b u e (Some w) p c =
      let i = watch_is nodes a b w p in
      let whole = equal_height t a b e in
      let witness = witness_height w.witness a b i.witness i.within in
      let left = select_height w.left a w.witness i.left in
      let right = select_height w.right b w.witness i.right in
      ⊎_elim
      (λ (q : Contains (w.left ∷ []) u). (let same = ap (height nodes) (in_one w.left u q) in omega (arith, whole, witness, left, same)))
      (λ (q : Contains (w.right ∷ []) u). (let same = ap (height nodes) (in_one w.right u q) in omega (arith, whole, witness, right, same)))
      (Contains-append_cases (w.left ∷ []) (w.right ∷ []) u c)

  watched_below : (t u : ℕ) (k : Shape) → shape_at nodes t ≡ k → Contains (watched nodes k) u → height nodes u < height nodes t
  watched_below t u (Equating a b) e c = select_below t a b u e (watch nodes a b) refl c
  watched_below t u (Selecting a i) e c = absurd (none_in u c)
  watched_below t u (Storing b j x) e c = absurd (none_in u c)
  watched_below t u (Filling x) e c = absurd (none_in u c)
  watched_below t u (Choosing x a b) e c = absurd (none_in u c)
  watched_below t u (Witnessing a b) e c = absurd (none_in u c)
  watched_below t u (Applying d) e c = absurd (none_in u c)
  watched_below t u (Declaring d q) e c = absurd (none_in u c)
  watched_below t u Other e c = absurd (none_in u c)

  falls : IsRank (leads nodes (λ t. None)) (height nodes)
  falls t u c = ⊎_elim
      (λ (p : Contains (arguments nodes t) u). argument_below t u p)
      (λ (p : Contains (watched nodes (shape_at nodes t)) u). watched_below t u (shape_at nodes t) refl p)
      (Contains-append_cases (arguments nodes t) (watched nodes (shape_at nodes t)) u c)

  pub no_way_back : IsAcyclic (leads nodes (λ t. None))
  no_way_back = (height nodes, falls)
