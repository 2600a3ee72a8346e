-- What the rule on arguments brings, and the rule on a select of a store.
use Rattle.std.proofs.Common.{◌≡◌, ℕ, zero, suc, ◌<◌, Bool, true, false, List, [], ◌∷◌, length, get_or, refl, sym, ap, ◌∙◌, subst, arith, Option, Some, None, Ok}
use Rattle.std.specs.Prelude.{◌==◌, ◌&&◌, ◌||◌, Contains, option_to_list}
use Rattle.std.specs.Cmp.Lexicographic.{pointwise}
use Rattle.std.proofs.lemmas.Bool.{eqb-true, and_parts}
use Rattle.std.proofs.lemmas.Grind.{get_or_default_zero}
use Rattle.smt_terms.specs.declared.sort.Sort.{Sort}
use Rattle.smt_terms.specs.declared.sort.Sort.TheVariants as sort
use Rattle.smt_terms.specs.declared.operator.Operator.TheVariants as plain
use Rattle.smt_terms.specs.declared.node.Op.{Op}
use Rattle.smt_terms.specs.declared.node.Op.TheVariants.{Plain, ConstantArray}
use Rattle.smt_terms.specs.declared.node.Node.{Node}
use Rattle.smt_terms.specs.declared.rank.Demand.TheVariants.{Any, AnyArray, Exactly}
use Rattle.smt_terms.specs.Same.{same_op, op_same, sort_same}
use Rattle.smt_terms.specs.Nodes.{node_at}
use Rattle.smt_terms.specs.Ranks.{rank_of, is_array, is_plain, index_sort, element_sort, truth}
use Rattle.smt_terms.specs.Terms.{sort_of, IsTermList, AreDifferent}
use Rattle.smt_terms.specs.Values.{Interpretation, no_value, value}
use Rattle.smt_terms.proofs.Arities.{AtMost}
use Rattle.smt_terms.proofs.Evaluating.{value_is_evaluation}
use Rattle.theory_terms.specs.declared.shape.Shape.TheVariants.{Selecting, Equating}
use Rattle.theory_terms.specs.Shapes.{shape_of, shape_at, operator_shape}
use Rattle.term_reach.specs.Reach.{arguments, IsWay}
use Rattle.term_reach.proofs.Ways.{reaches_itself}
use Rattle.bv_rules.specs.Reading.{op_at, arg}
use Rattle.bv_rules.specs.Arguments.{at_some, reaches, commutes_in, has_reached, leads}
use Rattle.bv_rules.specs.Matches.{AreImages}
use Rattle.bv_rules.specs.Rules.{is, of_terms, unequal, reads}
use Rattle.bv_rules.proofs.Known.{Context, or_cases, never, two_at}
use Rattle.array_images.specs.Brought.{IsUnder, followed, Becomes, HasIndex, IsBrought, AreBrought}
use Rattle.array_images.proofs.Ranked.{AtLeast, arg_in, arg_of}
use Rattle.array_images.proofs.Under.{some_in, reaches_next, becomes_itself, under_brought, brought_on, over_brought}
use Rattle.array_images.proofs.Parts.{op_of, arg_under, arg_held}

any_interpretation : Interpretation
any_interpretation = record { constants = λ d. no_value; functions = λ d vs. no_value }

context : (nodes : List Node) → IsTermList nodes → Context
context nodes list = record { M = any_interpretation; nodes = nodes; v = value any_interpretation nodes; terms = list; evaluation = value_is_evaluation any_interpretation nodes list }

-- the arguments of two lists, one by one
each_pair : (p : ℕ → ℕ → Bool) (xs ys : List ℕ) → pointwise p xs ys ≡ true → (k : ℕ) → k < length ys → (k < length xs) × (p (get_or xs k 0) (get_or ys k 0) ≡ true)
each_pair p [] [] h k lt = absurd (omega (arith, lt))
each_pair p [] (y ∷ ys) h k lt = never h
each_pair p (x ∷ xs) [] h k lt = absurd (omega (arith, lt))
each_pair p (x ∷ xs) (y ∷ ys) h zero lt = (omega arith, (and_parts (p x y) (pointwise p xs ys) h).0)
each_pair p (x ∷ xs) (y ∷ ys) h (suc k) lt =
    let r = each_pair p xs ys (and_parts (p x y) (pointwise p xs ys) h).1 k (omega (arith, lt)) in
    (let less = r.0 in omega (arith, less), r.1)

no_plain_array : (s : Sort) → is_plain s ≡ true → is_array s ≡ true → ⊥
no_plain_array sort.Bool p a = never a
no_plain_array (sort.Word n) p a = never a
no_plain_array (sort.Array n m) p a = never p

-- ---- where images lead

module _ (nodes : List Node) (image : ℕ → Option ℕ) where
  pub reaches_becomes : (n a b : ℕ) → reaches image n a b ≡ true → Becomes image a b
  reaches_becomes zero a b h = subst (Becomes image a) (eqb-true a b h) (becomes_itself nodes image a)
  reaches_becomes (suc n) a b h =
      or_cases (a == b) (at_some (image a) (λ c. reaches image n c b)) h
      (λ e. subst (Becomes image a) (eqb-true a b e) (becomes_itself nodes image a))
      (λ e. step (image a) (λ c. reaches_becomes n c b) refl e)
    where
      step : (o : Option ℕ) → ((c : ℕ) → reaches image n c b ≡ true → Becomes image c b) → image a ≡ o → at_some o (λ c. reaches image n c b) ≡ true → Becomes image a b
      step None ih p e = never e
      step (Some c) ih p e = reaches_next (followed image) a c b (subst (λ o. Contains (option_to_list o) c) (sym p) (0, omega arith, refl)) (ih c e)

  -- what a term brings it brings through images too
  pub becomes_brought : AreBrought nodes image → (t a b : ℕ) → Becomes image a b → IsBrought nodes image t a → IsBrought nodes image t b
  becomes_brought are t a b r h = go a r.0 r.1 h
    where
      go : (x : ℕ) (way : List ℕ) → IsWay (followed image) x way b → IsBrought nodes image t x → IsBrought nodes image t b
      go x [] e k = subst (IsBrought nodes image t) e k
      go x (y ∷ way) w k = go y way w.1 (brought_on nodes image t x y k (are x y (some_in (image x) y w.0)))

  -- images keep the sort, and arrays have none
  pub becomes_array : AreImages nodes image → (a b : ℕ) → Becomes image a b → is_array (sort_of nodes b) ≡ true → a ≡ b
  becomes_array are a b r array = go a r.0 r.1
    where
      keeps : (x : ℕ) (way : List ℕ) → IsWay (followed image) x way b → sort_of nodes b ≡ sort_of nodes x
      keeps x [] e = ap (sort_of nodes) (sym e)
      keeps x (y ∷ way) w = keeps y way w.1 ∙ (are x y (some_in (image x) y w.0)).sort

      go : (x : ℕ) (way : List ℕ) → IsWay (followed image) x way b → x ≡ b
      go x [] e = e
      go x (y ∷ way) w = absurd (no_plain_array (sort_of nodes x) (are x y (some_in (image x) y w.0)).plain (ap is_array (sym (keeps x (y ∷ way) w)) ∙ array))

-- ---- selects and equalities

record IsSelect (nodes : List Node) (s : ℕ) : Type 0 where
  args : (node_at nodes s).args ≡ arg nodes 0 s ∷ arg nodes 1 s ∷ []
  shape : shape_at nodes s ≡ Selecting (arg nodes 0 s) (arg nodes 1 s)
  array : is_array (sort_of nodes (arg nodes 0 s)) ≡ true

select_at : (nodes : List Node) (list : IsTermList nodes) (s : ℕ) → s < length nodes → op_at nodes s ≡ Plain plain.Select → IsSelect nodes s
unfolding context
select_at nodes list s lt e =
    let q = two_at (context nodes list) AnyArray (λ a. Exactly (index_sort a)) (λ a _. Ok (element_sort a)) (Plain plain.Select) s refl lt e in
    record { args = q.args; shape = ap (λ p. shape_of p (node_at nodes s).args) e ∙ ap (operator_shape plain.Select) q.args; array = q.left }

record IsEqual (nodes : List Node) (s : ℕ) : Type 0 where
  args : (node_at nodes s).args ≡ arg nodes 0 s ∷ arg nodes 1 s ∷ []
  same : sort_of nodes (arg nodes 0 s) ≡ sort_of nodes (arg nodes 1 s)

equal_at : (nodes : List Node) (list : IsTermList nodes) (s : ℕ) → s < length nodes → op_at nodes s ≡ Plain plain.Equal → IsEqual nodes s
unfolding context
equal_at nodes list s lt e =
    let q = two_at (context nodes list) Any (λ a. Exactly a) (λ a _. truth) (Plain plain.Equal) s refl lt e in
    record { args = q.args; same = sort_same (sort_of nodes (arg nodes 0 s)) (sort_of nodes (arg nodes 1 s)) q.right }

select_op : (o : Op) (args : List ℕ) (a i : ℕ) → shape_of o args ≡ Selecting a i → o ≡ Plain plain.Select
select_op (Plain plain.Select) args a i e = refl
select_op (Plain plain.Ite) (x ∷ y ∷ z ∷ []) a i e = let f : ⊥ = cc in absurd f
select_op (Plain plain.Equal) (x ∷ y ∷ []) a i e = let f : ⊥ = cc in absurd f
select_op (Plain plain.Store) (x ∷ y ∷ z ∷ []) a i e = let f : ⊥ = cc in absurd f
select_op (Plain plain.Witness) (x ∷ y ∷ []) a i e = let f : ⊥ = cc in absurd f
select_op (ConstantArray k) (x ∷ []) a i e = let f : ⊥ = cc in absurd f
select_op op args a i e = let f : ⊥ = cc in absurd f

equal_op : (o : Op) (args : List ℕ) (a b : ℕ) → shape_of o args ≡ Equating a b → o ≡ Plain plain.Equal
equal_op (Plain plain.Equal) args a b e = refl
equal_op (Plain plain.Ite) (x ∷ y ∷ z ∷ []) a b e = let f : ⊥ = cc in absurd f
equal_op (Plain plain.Select) (x ∷ y ∷ []) a b e = let f : ⊥ = cc in absurd f
equal_op (Plain plain.Store) (x ∷ y ∷ z ∷ []) a b e = let f : ⊥ = cc in absurd f
equal_op (Plain plain.Witness) (x ∷ y ∷ []) a b e = let f : ⊥ = cc in absurd f
equal_op (ConstantArray k) (x ∷ []) a b e = let f : ⊥ = cc in absurd f
equal_op op args a b e = let f : ⊥ = cc in absurd f

commuting_most : (o : Op) → commutes_in o ≡ true → AtMost 2 (rank_of o)
commuting_most (Plain plain.Bvand) h = λ r s. tt
commuting_most (Plain plain.Bvor) h = λ r s. tt
commuting_most (Plain plain.Bvxor) h = λ r s. tt
commuting_most (Plain plain.Bvadd) h = λ r s. tt
commuting_most (Plain plain.Bvmul) h = λ r s. tt
commuting_most (Plain plain.And) h = λ r s. tt
commuting_most (Plain plain.Or) h = λ r s. tt
commuting_most _ h = let q : ⊥ = cc in absurd q

commuting_least : (o : Op) → commutes_in o ≡ true → AtLeast 2 (rank_of o)
commuting_least (Plain plain.Bvand) h = λ r s. tt
commuting_least (Plain plain.Bvor) h = λ r s. tt
commuting_least (Plain plain.Bvxor) h = λ r s. tt
commuting_least (Plain plain.Bvadd) h = λ r s. tt
commuting_least (Plain plain.Bvmul) h = λ r s. tt
commuting_least (Plain plain.And) h = λ r s. tt
commuting_least (Plain plain.Or) h = λ r s. tt
commuting_least _ h = let q : ⊥ = cc in absurd q

node_by : (a b : Node) → a.op ≡ b.op → a.args ≡ b.args → a ≡ b
node_by a b x y = λ i. record { op = x i; args = y i }

module _ (nodes : List Node) (list : IsTermList nodes) (different : AreDifferent nodes) (image : ℕ → Option ℕ) (images : AreImages nodes image) (are : AreBrought nodes image)
    (t u : ℕ) (lt : t < length nodes) (lu : u < length nodes) (no : is_array (sort_of nodes u) ≡ false) where
  abbrev B : ℕ → Type 0
  B = IsBrought nodes image t

  -- ---- a select of a store

  -- a select whose index is what the index of another becomes
  selecting : op_at nodes t ≡ Plain plain.Select → (i : ℕ) → Becomes image (arg nodes 1 t) i → HasIndex nodes image t i
  selecting e i becomes = record {
    select = t;
    array = arg nodes 0 t;
    old = arg nodes 1 t;
    under = reaches_itself (arguments nodes) t;
    shape = (select_at nodes list t lt e).shape;
    becomes = becomes;
  }

  index_is : op_at nodes u ≡ Plain plain.Select → (a i : ℕ) → shape_at nodes u ≡ Selecting a i → arg nodes 1 u ≡ i
  index_is e a i shape =
      let own = (select_at nodes list u lu e).shape in
      let z : Selecting (arg nodes 0 u) (arg nodes 1 u) ≡ Selecting a i = sym own ∙ shape in cc

  no_equality : op_at nodes u ≡ Plain plain.Select → (a b : ℕ) → shape_at nodes u ≡ Equating a b → IsUnder nodes t u
  no_equality e a b shape =
      let z : Selecting (arg nodes 0 u) (arg nodes 1 u) ≡ Equating a b = sym (select_at nodes list u lu e).shape ∙ shape in
      let y : ⊥ = cc in absurd y

  pub read : (is nodes plain.Select t && (is nodes plain.Store (arg nodes 0 t) && reads nodes (arg nodes 0 t) (arg nodes 1 t) u)) ≡ true → B u
  read h =
      let s = arg nodes 0 t in
      let j = arg nodes 1 t in
      let b = arg nodes 0 s in
      let kept = (arg nodes 1 s == j) && (u == arg nodes 2 s) in
      let passed = unequal nodes (arg nodes 1 s) j && of_terms nodes plain.Select b j u in
      let p = and_parts (is nodes plain.Select t) (is nodes plain.Store s && (kept || passed)) h in
      let q = and_parts (is nodes plain.Store s) (kept || passed) p.1 in
      let out = op_of nodes list plain.Select t p.0 in
      let store = op_of nodes list plain.Store s q.0 in
      let held = arg_held nodes list t lt (Plain plain.Select) out 2 0 (λ x y. tt) (omega arith) in
      let array = arg_under nodes list t lt (Plain plain.Select) out 2 0 (λ x y. tt) (omega arith) in
      let index = arg_under nodes list t lt (Plain plain.Select) out 2 1 (λ x y. tt) (omega arith) in
      let below : (k : ℕ) → k < 3 → B (arg nodes k s) = λ k less. brought_on nodes image t s (arg nodes k s)
      (under_brought nodes image t s array)
      (under_brought nodes image s (arg nodes k s) (arg_under nodes list s held (Plain plain.Store) store 3 k (λ x y z. tt) less)) in
      or_cases kept passed q.1
      (λ e. subst B (sym (eqb-true u (arg nodes 2 s) (and_parts (arg nodes 1 s == j) (u == arg nodes 2 s) e).1)) (below 2 (omega arith)))
      (λ e. read_below b j out (below 0 (omega arith)) (under_brought nodes image t j index) (and_parts (unequal nodes (arg nodes 1 s) j) (of_terms nodes plain.Select b j u) e).1 refl)
    where
      read_below : (b j : ℕ) → op_at nodes t ≡ Plain plain.Select → B b → B j → of_terms nodes plain.Select b j u ≡ true → arg nodes 1 t ≡ j → B u
      read_below b j out left right e same =
          let p = and_parts (is nodes plain.Select u) ((arg nodes 0 u == b) && (arg nodes 1 u == j)) e in
          let q = and_parts (arg nodes 0 u == b) (arg nodes 1 u == j) p.1 in
          let op = op_of nodes list plain.Select u p.0 in
          let first : arg nodes 0 u ≡ b = eqb-true (arg nodes 0 u) b q.0 in
          let second : arg nodes 1 u ≡ j = eqb-true (arg nodes 1 u) j q.1 in
          over_brought nodes image t u
          (λ a c. (let k = arg_of nodes list u lu (Plain plain.Select) op 2 (λ x y. tt) a c in subst B k.2 (go first second k.0 k.1)))
          (λ is. never (sym no ∙ is))
          (λ a b shape is. no_equality op a b shape)
          (λ a i shape. selecting out i (subst (Becomes image (arg nodes 1 t)) (same ∙ sym second ∙ index_is op a i shape) (becomes_itself nodes image (arg nodes 1 t))))
        where
          go : arg nodes 0 u ≡ b → arg nodes 1 u ≡ j → (k : ℕ) → k < 2 → B (arg nodes k u)
          go first second zero less = subst B (sym first) left
          go first second (suc zero) less = subst B (sym second) right
          go first second (suc (suc k)) less = absurd (omega (arith, less))

  -- ---- the rule on arguments

  -- an argument that an argument of t becomes
  becomes_arg : (x a : ℕ) → Contains (arguments nodes t) x → Becomes image x a → B a
  becomes_arg x a c becomes = becomes_brought nodes image are t x a becomes (under_brought nodes image t x (reaches_next (arguments nodes) t x x c (reaches_itself (arguments nodes) x)))

  module _ (same : op_at nodes t ≡ op_at nodes u) where
    straight : pointwise (leads nodes image) (node_at nodes t).args (node_at nodes u).args ≡ true → B u
    straight h = over_brought nodes image t u args (λ is. never (sym no ∙ is)) equality select
      where
        pair : (k : ℕ) → k < length (arguments nodes u) → (k < length (arguments nodes t)) × Becomes image (arg nodes k t) (arg nodes k u)
        pair k less =
            let p = each_pair (leads nodes image) (node_at nodes t).args (node_at nodes u).args h k less in
            (p.0, reaches_becomes nodes image (length nodes) (arg nodes k t) (arg nodes k u) p.1)

        args : (a : ℕ) → Contains (arguments nodes u) a → B a
        args a c =
            let p = pair c.0 c.1 in
            let is : arg nodes c.0 u ≡ a = sym (get_or_default_zero (arguments nodes u) c.0 a c.1) ∙ c.2 in
            subst B is (becomes_arg (arg nodes c.0 t) (arg nodes c.0 u) (c.0, p.0, get_or_default_zero (arguments nodes t) c.0 (arg nodes c.0 t) p.0) p.1)

        equality : (a b : ℕ) → shape_at nodes u ≡ Equating a b → is_array (sort_of nodes a) ≡ true → IsUnder nodes t u
        equality a b shape is =
            let op = equal_op (node_at nodes u).op (node_at nodes u).args a b shape in
            let old = equal_at nodes list t lt (same ∙ op) in
            let new = equal_at nodes list u lu op in
            let own : shape_at nodes u ≡ Equating (arg nodes 0 u) (arg nodes 1 u) = ap (λ p. shape_of p (node_at nodes u).args) op ∙ ap (operator_shape plain.Equal) new.args in
            let left : arg nodes 0 u ≡ a = (let z : Equating (arg nodes 0 u) (arg nodes 1 u) ≡ Equating a b = sym own ∙ shape in cc) in
            let long : length (arguments nodes u) ≡ 2 = ap length new.args in
            let first = becomes_array nodes image images (arg nodes 0 t) (arg nodes 0 u) (pair 0 (omega (arith, long))).1 (ap (λ x. is_array (sort_of nodes x)) left ∙ is) in
            let second = becomes_array nodes image images (arg nodes 1 t) (arg nodes 1 u) (pair 1 (omega (arith, long))).1 (ap is_array (sym new.same) ∙ ap (λ x. is_array (sort_of nodes x)) left ∙ is) in
            let all : (node_at nodes t).args ≡ (node_at nodes u).args = old.args ∙ (λ i. first i ∷ second i ∷ []) ∙ sym new.args in
            let one : t ≡ u = different t u lt lu (node_by (node_at nodes t) (node_at nodes u) same all) in
            subst (IsUnder nodes t) one (reaches_itself (arguments nodes) t)

        select : (a i : ℕ) → shape_at nodes u ≡ Selecting a i → HasIndex nodes image t i
        select a i shape =
            let op = select_op (node_at nodes u).op (node_at nodes u).args a i shape in
            let long : length (arguments nodes u) ≡ 2 = ap length (select_at nodes list u lu op).args in
            selecting (same ∙ op) i (subst (Becomes image (arg nodes 1 t)) (index_is op a i shape) (pair 1 (omega (arith, long))).1)

    crossed : commutes_in (op_at nodes t) ≡ true → leads nodes image (arg nodes 0 t) (arg nodes 1 u) ≡ true → leads nodes image (arg nodes 1 t) (arg nodes 0 u) ≡ true → B u
    crossed h l r = over_brought nodes image t u args (λ is. never (sym no ∙ is)) equality select
      where
        turns : commutes_in (op_at nodes u) ≡ true
        turns = ap commutes_in (sym same) ∙ h

        from : (k : ℕ) → k < 2 → Contains (arguments nodes t) (arg nodes k t)
        from k less = arg_in nodes list t lt (op_at nodes t) refl 2 k (commuting_least (op_at nodes t) h) less

        each : (k : ℕ) → k < 2 → B (arg nodes k u)
        each zero less = becomes_arg (arg nodes 1 t) (arg nodes 0 u) (from 1 (omega arith)) (reaches_becomes nodes image (length nodes) (arg nodes 1 t) (arg nodes 0 u) r)
        each (suc zero) less = becomes_arg (arg nodes 0 t) (arg nodes 1 u) (from 0 (omega arith)) (reaches_becomes nodes image (length nodes) (arg nodes 0 t) (arg nodes 1 u) l)
        each (suc (suc k)) less = absurd (omega (arith, less))

        args : (a : ℕ) → Contains (arguments nodes u) a → B a
        args a c = let k = arg_of nodes list u lu (op_at nodes u) refl 2 (commuting_most (op_at nodes u) turns) a c in subst B k.2 (each k.0 k.1)

        equality : (a b : ℕ) → shape_at nodes u ≡ Equating a b → is_array (sort_of nodes a) ≡ true → IsUnder nodes t u
        equality a b shape is = never (ap commutes_in (sym (equal_op (node_at nodes u).op (node_at nodes u).args a b shape)) ∙ turns)

        select : (a i : ℕ) → shape_at nodes u ≡ Selecting a i → HasIndex nodes image t i
        select a i shape = never (ap commutes_in (sym (select_op (node_at nodes u).op (node_at nodes u).args a i shape)) ∙ turns)

  pub inner : has_reached nodes image t u ≡ true → B u
  inner h =
      let each = pointwise (leads nodes image) (node_at nodes t).args (node_at nodes u).args in
      let left = leads nodes image (arg nodes 0 t) (arg nodes 1 u) in
      let right = leads nodes image (arg nodes 1 t) (arg nodes 0 u) in
      let p = and_parts (same_op (op_at nodes t) (op_at nodes u)) (each || (commutes_in (op_at nodes t) && (left && right))) h in
      let same = op_same (op_at nodes t) (op_at nodes u) p.0 in
      or_cases each (commutes_in (op_at nodes t) && (left && right)) p.1
      (λ e. straight same e)
      (λ e. (let q = and_parts (commutes_in (op_at nodes t)) (left && right) e in let r = and_parts left right q.1 in crossed same q.0 r.0 r.1))
