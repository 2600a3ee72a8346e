-- What is made of a shape is of that shape.
use Rattle.std.proofs.Common.{◌≡◌, ℕ, zero, suc, ◌+◌, ◌-◌, ◌^◌, ◌<◌, ◌≤◌, Bool, true, false, List, [], ◌∷◌, ◌++◌, length, map, take, refl, sym, ap, ◌∙◌, subst, arith, append_assoc, append-nil, length-append, ⊎_elim, inl, inr, Option, Some, None, Result, Ok, Err}
use Rattle.std.specs.Prelude.{◌==◌, ◌&&◌, ◌||◌, nat_lt, if◌then◌else◌, position, slice_index_or, Contains}
use Rattle.std.specs.List.{AllByRecursion}
use Rattle.std.proofs.lemmas.Bool.{eq-eqb, lt-ltb, ltb-false, and_parts, cases_lt}
use Rattle.smt_terms.specs.declared.sort.Sort.{Sort}
use Rattle.smt_terms.specs.declared.sort.Sort.TheVariants as sort
use Rattle.smt_terms.specs.declared.operator.Operator.{Operator}
use Rattle.smt_terms.specs.declared.operator.Operator.TheVariants as plain
use Rattle.smt_terms.specs.declared.node.Op.{Op}
use Rattle.smt_terms.specs.declared.node.Op.TheVariants as op
use Rattle.smt_terms.specs.declared.node.Node.{Node}
use Rattle.smt_terms.specs.declared.fault.MakeFault.{MakeFault}
use Rattle.smt_terms.specs.declared.fault.MakeFault.TheVariants.{TermLimit, WrongSort}
use Rattle.smt_terms.specs.declared.fault.MakeError.{MakeError}
use Rattle.smt_terms.specs.declared.fault.MakeError.TheVariants.{NoMemory, Fault}
use Rattle.smt_terms.specs.Same.{same_op, same_node, node_itself}
use Rattle.smt_terms.specs.Nodes.{leaf, node_at}
use Rattle.smt_terms.specs.Ranks.{width_of, literal_sort, word_sort, and_then}
use Rattle.smt_terms.specs.Terms.{TermsValue, AreTerms, Agrees, declaration_of, op_rank, op_sort, or_bool, sort_of, node_sort, numbered, make, Makes, with_node, cut_at}
use Rattle.smt_terms.proofs.Growing.{node_longer, sorts_longer, sort_longer, node_sort_is}
use Rattle.smt_terms.proofs.Typing.{sort_is}
use Rattle.smt_terms.proofs.Made.{made, terms_made}
use Rattle.bv_rules.specs.Reading.{commutes, is_number, is_ones, op_at, arg}
use Rattle.bv_rules.specs.Rules.{is, with_term, of_term, number}
use Rattle.bv_rewrite.specs.declared.shape.Shape.{Shape}
use Rattle.bv_rewrite.specs.declared.shape.Shape.TheVariants as shape
use Rattle.bv_rewrite.specs.Shapes.{has_shape}
use Rattle.bv_rewrite.specs.Weights.{operator_weight, op_weight, total, weight, shape_weight}
use Rattle.bv_rewrite.proofs.Lighter.{weight_is, weight_longer}
use Rattle.bv_rewrite.specs.Making.{on_one, on_two, word_node, made_beside, made_shape, IsOnOne, IsOnTwo, IsRanked, IsOfShape}

-- ---- one node

-- the operator may be used, its arguments are held, and it gives this sort for them
pub record IsReady (nodes : List Node) (n : Node) (s : Sort) : Type 0 where
  pub agrees : Agrees nodes n.op
  pub held : AllByRecursion (λ a. a < length nodes) n.args
  pub rank : op_rank n.op (map (sort_of nodes) n.args) ≡ Ok s

pub record IsThere (v w : TermsValue) (n : Node) (s : Sort) (u : ℕ) : Type 0 where
  pub terms : AreTerms w
  pub more : List Node
  pub grown : w.nodes ≡ v.nodes ++ more
  pub limit : w.limit ≡ v.limit
  pub held : u < length w.nodes
  pub node : node_at w.nodes u ≡ n
  pub sort : sort_of w.nodes u ≡ s
  pub weight : weight w.nodes u ≡ op_weight n.op + total (map (weight v.nodes) n.args)
  pub new : (k : ℕ) → length v.nodes ≤ k → k < length w.nodes → u ≡ k

agrees : (nodes : List Node) (o : Op) → declaration_of o ≡ None → Agrees nodes o
agrees nodes o e t d p q = let z : None ≡ Some d = sym e ∙ q in let f : ⊥ = cc in absurd f

rank_is : (v : TermsValue) (n : Node) (s : Sort) → IsReady v.nodes n s → node_sort v.nodes n ≡ Ok s
rank_is v n s r = node_sort_is v.nodes n r.held ∙ r.rank

weights_longer : (nodes more : List Node) (args : List ℕ) → AllByRecursion (λ a. a < length nodes) args → map (weight (nodes ++ more)) args ≡ map (weight nodes) args
weights_longer nodes more [] h = refl
weights_longer nodes more (a ∷ args) h = λ i. weight_longer nodes more a h.0 i ∷ weights_longer nodes more args h.1 i

pub there : (v w : TermsValue) (n : Node) (s : Sort) (u : ℕ) → AreTerms v → IsReady v.nodes n s → make v n ≡ Ok (u, w) → IsThere v w n s u
there v w n s u terms r e =
    let m = made v w n u e in
    let all = terms_made v w n u terms r.agrees m in
    let grown : (more : List Node) × (w.nodes ≡ v.nodes ++ more) × (w.limit ≡ v.limit) =
    ⊎_elim (λ q. ([], ap (λ x. x.nodes) q ∙ sym (append-nil v.nodes), ap (λ x. x.limit) q)) (λ new. (n ∷ [], ap (λ x. x.nodes) new.pushed, ap (λ x. x.limit) new.pushed)) m.grown in
    let kept : map (sort_of w.nodes) n.args ≡ map (sort_of v.nodes) n.args = ap (λ l. map (sort_of l) n.args) grown.1 ∙ sorts_longer v.nodes grown.0 n.args r.held in
    let is : sort_of w.nodes u ≡ s =
    sort_is w.nodes u (all.list u m.within)
    ∙ ap (λ x. op_sort x.op (map (sort_of w.nodes) x.args)) m.node
    ∙ ap (op_sort n.op) kept
    ∙ ap or_bool r.rank in
    let weights : map (weight w.nodes) n.args ≡ map (weight v.nodes) n.args = ap (λ l. map (weight l) n.args) grown.1 ∙ weights_longer v.nodes grown.0 n.args r.held in
    let heavy : weight w.nodes u ≡ op_weight n.op + total (map (weight v.nodes) n.args) =
    weight_is w.nodes u all.list m.within
    ∙ ap (λ x. op_weight x.op + total (map (weight w.nodes) x.args)) m.node
    ∙ ap (λ ws. op_weight n.op + total ws) weights in
    let new : (k : ℕ) → length v.nodes ≤ k → k < length w.nodes → u ≡ k = λ k le lt. ⊎_elim
    (λ q. absurd (none_new k le (subst (λ x. k < length x.nodes) q lt)))
    (λ one. one.number ∙ only_new k le (subst (λ x. k < length x.nodes) one.pushed lt))
    m.grown in
    record { terms = all; more = grown.0; grown = grown.1; limit = grown.2; held = m.within; node = m.node; sort = is; weight = heavy; new = new }
  where
    none_new : (k : ℕ) → length v.nodes ≤ k → k < length v.nodes → ⊥
    none_new k le lt = omega (arith, le, lt)

    only_new : (k : ℕ) → length v.nodes ≤ k → k < length (v.nodes ++ n ∷ []) → length v.nodes ≡ k
    only_new k le lt = let l = length-append v.nodes (n ∷ []) in omega (arith, l, le, lt)

-- nothing but the limit refuses it
pub refused : (v : TermsValue) (n : Node) (s : Sort) (f : MakeFault) → IsReady v.nodes n s → make v n ≡ Err f → f ≡ TermLimit
unfolding make
refused v n s f r e = go (position (same_node n) v.nodes) (ap (λ q. and_then q (λ _. numbered v n (position (same_node n) v.nodes))) (sym (rank_is v n s r)) ∙ e)
  where
    go : (o : Option ℕ) → numbered v n o ≡ Err f → f ≡ TermLimit
    go (Some t) q = let z : ⊥ = cc in absurd z
    go None q = at_end (nat_lt (length v.nodes) v.limit) q
      where
        at_end : (b : Bool) → if◌then◌else◌ {A = Result (ℕ × TermsValue) MakeFault} b (Ok (length v.nodes, with_node v n)) (Err TermLimit) ≡ Err f → f ≡ TermLimit
        at_end true q = let z : ⊥ = cc in absurd z
        at_end false q = let z : TermLimit ≡ f = cc in sym z

-- and where it does, there is no room
pub refused_full : (v : TermsValue) (n : Node) (s : Sort) (f : MakeFault) → IsReady v.nodes n s → make v n ≡ Err f → v.limit ≤ length v.nodes
unfolding make
refused_full v n s f r e = go (position (same_node n) v.nodes) (ap (λ q. and_then q (λ _. numbered v n (position (same_node n) v.nodes))) (sym (rank_is v n s r)) ∙ e)
  where
    go : (o : Option ℕ) → numbered v n o ≡ Err f → v.limit ≤ length v.nodes
    go (Some t) q = let z : ⊥ = cc in absurd z
    go None q = at_end (nat_lt (length v.nodes) v.limit) refl q
      where
        at_end : (b : Bool) → nat_lt (length v.nodes) v.limit ≡ b → if◌then◌else◌ {A = Result (ℕ × TermsValue) MakeFault} b (Ok (length v.nodes, with_node v n)) (Err TermLimit) ≡ Err f → v.limit ≤ length v.nodes
        at_end true i q = let z : ⊥ = cc in absurd z
        at_end false i q = ltb-false (length v.nodes) v.limit i

-- terms that were added are forgotten
pub forgotten : (v w : TermsValue) (n : Node) (u : ℕ) → make v n ≡ Ok (u, w) → cut_at w (length v.nodes) ≡ v
forgotten v w n u e =
    ⊎_elim
    (λ q. ap (λ x. cut_at x (length v.nodes)) q ∙ ap (λ l. record { nodes = l; limit = v.limit }) (take_all v.nodes))
    (λ new. ap (λ x. cut_at x (length v.nodes)) new.pushed ∙ ap (λ l. record { nodes = l; limit = v.limit }) (take_front v.nodes (n ∷ [])))
    (made v w n u e).grown
  where
    take_front : (xs ys : List Node) → take (length xs) (xs ++ ys) ≡ xs
    take_front [] ys = refl
    take_front (x ∷ xs) ys = ap (λ l. x ∷ l) (take_front xs ys)

    take_all : (xs : List Node) → take (length xs) xs ≡ xs
    take_all [] = refl
    take_all (x ∷ xs) = ap (λ l. x ∷ l) (take_all xs)

one_short : (v : TermsValue) → v.limit ≤ length v.nodes → v.limit ≤ length v.nodes + 1
one_short v h = omega (arith, h)

-- one node is one term more at most
one_more : (v w : TermsValue) (n : Node) (u : ℕ) → make v n ≡ Ok (u, w) → length w.nodes ≤ length v.nodes + 1
one_more v w n u e = ⊎_elim
    (λ q. (let same : length w.nodes ≡ length v.nodes = ap (λ x. length x.nodes) q in omega (arith, same)))
    (λ new. (let more : length w.nodes ≡ length (v.nodes ++ n ∷ []) = ap (λ x. length x.nodes) new.pushed in let k = length-append v.nodes (n ∷ []) in omega (arith, more, k)))
    (made v w n u e).grown

-- a refusal of the second of two nodes
pub beside_stopped : (v w z : TermsValue) (o : Operator) (x y : ℕ) (other : Node) (e : MakeError) → make v other ≡ Ok (y, w) → Makes (make w (on_two (op.Plain o) x y)) (Err e) w z → Makes (made_beside v o x other) (Err e) v (cut_at z (length v.nodes))
beside_stopped v w z o x y other NoMemory p h = ap (λ t. cut_at t (length v.nodes)) h ∙ forgotten v w other y p
beside_stopped v w z o x y other (Fault f) p h =
    (ap (λ r. and_then r (λ q. make q.1 (on_two (op.Plain o) x q.0))) p ∙ h.0, ap (λ t. cut_at t (length v.nodes)) h.1 ∙ forgotten v w other y p)

-- so many terms are still there
pub still_there : (v w z : TermsValue) (n m : Node) (y : ℕ) (e : MakeError) → make v n ≡ Ok (y, w) → Makes (make w m) (Err e) w z → length v.nodes ≤ length z.nodes
still_there v w z n m y e p h = subst (λ t. length v.nodes ≤ length t.nodes) (sym (same e h)) (⊎_elim (λ q. rw q (omega arith)) (λ new. rw new.pushed (let k = length-append v.nodes (n ∷ []) in omega (arith, k))) (made v w n y p).grown)
  where
    same : (e : MakeError) → Makes (make w m) (Err e) w z → z ≡ w
    same NoMemory h = h
    same (Fault f) h = h.1

-- ---- nodes of a shape

one_ready : (nodes : List Node) (s : Sort) (o : Op) (x : ℕ) → declaration_of o ≡ None → IsOnOne nodes s o x → IsReady nodes (on_one o x) s
one_ready nodes s o x p h = record { agrees = agrees nodes o p; held = (h.0, tt); rank = h.1 }

two_ready : (nodes : List Node) (s : Sort) (o : Op) (x y : ℕ) → declaration_of o ≡ None → IsOnTwo nodes s o x y → IsReady nodes (on_two o x y) s
two_ready nodes s o x y p h = record { agrees = agrees nodes o p; held = (h.0, (h.1, tt)); rank = h.2 }

word_ready : (nodes : List Node) (s : Sort) (n k : ℕ) → literal_sort n k ≡ Ok s → IsReady nodes (word_node n k) s
word_ready nodes s n k h = record { agrees = agrees nodes (op.Word n k) refl; held = tt; rank = h }

of_shape : (v w : TermsValue) (n : Node) (s : Sort) (z : Shape) (u : ℕ) → IsThere v w n s u → has_shape w.nodes z u ≡ true → op_weight n.op + total (map (weight v.nodes) n.args) ≡ shape_weight v.nodes z → IsOfShape v w s z u
of_shape v w n s z u t h g = record { terms = t.terms; more = t.more; grown = t.grown; limit = t.limit; held = t.held; sort = t.sort; has = h; weight = t.weight ∙ g; needed = λ k le lt. inl (t.new k le lt) }

both : (a b : Bool) → a ≡ true → b ≡ true → (a && b) ≡ true
both a b p q = λ i. p i && q i

op_itself : (n : Node) → same_op n.op n.op ≡ true
op_itself n = (and_parts (same_op n.op n.op) _ (node_itself n)).0

same_here : (nodes : List Node) (u : ℕ) (n : Node) → node_at nodes u ≡ n → same_op (op_at nodes u) n.op ≡ true
same_here nodes u n e = ap (λ m. same_op m.op n.op) e ∙ op_itself n

arg_here : (nodes : List Node) (u j x : ℕ) (n : Node) → node_at nodes u ≡ n → slice_index_or n.args j 0 ≡ x → (arg nodes j u == x) ≡ true
arg_here nodes u j x n e q = eq-eqb (arg nodes j u) x (ap (λ m. slice_index_or m.args j 0) e ∙ q)

-- the operator on a term and another that was made first
record IsBeside (v w : TermsValue) (o : Operator) (x : ℕ) (other : Node) (s : Sort) (u : ℕ) : Type 0 where
  y : ℕ
  mid : TermsValue
  first : IsThere v mid other (sort_of mid.nodes y) y
  last : IsThere mid w (on_two (op.Plain o) x y) s u

pairs : (a b : ℕ) (v w : TermsValue) → (let r : Result (ℕ × TermsValue) MakeFault = Ok (a, v) in r) ≡ Ok (b, w) → (a ≡ b) × (v ≡ w)
pairs a b v w e = let q : (let p : ℕ × TermsValue = (a, v) in p) ≡ (b, w) = cc in (ap (λ p. p.0) q, ap (λ p. p.1) q)

module _ (v : TermsValue) (o : Operator) (x : ℕ) (other : Node) (s r : Sort) (terms : AreTerms v) (lt : x < length v.nodes) (ready : IsReady v.nodes other r) (rank : op_rank (op.Plain o) (sort_of v.nodes x ∷ r ∷ []) ≡ Ok s) where
  second_ready : (y : ℕ) (mid : TermsValue) → IsThere v mid other r y → IsReady mid.nodes (on_two (op.Plain o) x y) s
  second_ready y mid t =
      let sx : sort_of mid.nodes x ≡ sort_of v.nodes x = ap (λ l. sort_of l x) t.grown ∙ sort_longer v.nodes t.more x lt in
      let lx : x < length mid.nodes = let n = ap length t.grown ∙ length-append v.nodes t.more in omega (arith, n, lt) in
      two_ready mid.nodes s (op.Plain o) x y refl (lx, t.held, (λ i. op_rank (op.Plain o) (sx i ∷ t.sort i ∷ [])) ∙ rank)

  beside : (w : TermsValue) (u : ℕ) → made_beside v o x other ≡ Ok (u, w) → IsBeside v w o x other s u
  beside w u e = go (make v other) refl e
    where
      go : (m : Result (ℕ × TermsValue) MakeFault) → make v other ≡ m → and_then m (λ q. make q.1 (on_two (op.Plain o) x q.0)) ≡ Ok (u, w) → IsBeside v w o x other s u
      go (Ok q) p h =
          let t = there v q.1 other r q.0 terms ready p in
          let l = there q.1 w (on_two (op.Plain o) x q.0) s u t.terms (second_ready q.0 q.1 t) h in
          record { y = q.0; mid = q.1; first = subst (λ z. IsThere v q.1 other z q.0) (sym t.sort) t; last = l }
      go (Err f) p h = let z : ⊥ = cc in absurd z

  beside_refused : (f : MakeFault) → made_beside v o x other ≡ Err f → f ≡ TermLimit
  beside_refused f e = go (make v other) refl e
    where
      go : (m : Result (ℕ × TermsValue) MakeFault) → make v other ≡ m → and_then m (λ q. make q.1 (on_two (op.Plain o) x q.0)) ≡ Err f → f ≡ TermLimit
      go (Ok q) p h = let t = there v q.1 other r q.0 terms ready p in refused q.1 (on_two (op.Plain o) x q.0) s f (second_ready q.0 q.1 t) h
      go (Err g) p h = let z : g ≡ f = cc in sym z ∙ refused v other r g ready p

  beside_full : (f : MakeFault) → made_beside v o x other ≡ Err f → v.limit ≤ length v.nodes + 1
  beside_full f e = go (make v other) refl e
    where
      go : (m : Result (ℕ × TermsValue) MakeFault) → make v other ≡ m → and_then m (λ q. make q.1 (on_two (op.Plain o) x q.0)) ≡ Err f → v.limit ≤ length v.nodes + 1
      go (Ok q) p h =
          let t = there v q.1 other r q.0 terms ready p in
          let full = refused_full q.1 (on_two (op.Plain o) x q.0) s f (second_ready q.0 q.1 t) h in
          let few = one_more v q.1 other q.0 p in
          let same = t.limit in
          omega (arith, full, few, same)
      go (Err g) p h = let full = refused_full v other r g ready p in omega (arith, full)

  -- the whole list of terms behind both
  beside_shape : (w : TermsValue) (z : Shape) (u : ℕ) (b : IsBeside v w o x other s u) → has_shape w.nodes z u ≡ true → operator_weight o + (weight v.nodes x + (op_weight other.op + total (map (weight v.nodes) other.args))) ≡ shape_weight v.nodes z → IsOfShape v w s z u
  beside_shape w z u b h g =
      let f = b.first in
      let l = b.last in
      record {
        terms = l.terms;
        more = f.more ++ l.more;
        grown = l.grown ∙ ap (λ xs. xs ++ l.more) f.grown ∙ append_assoc v.nodes f.more l.more;
        limit = l.limit ∙ f.limit;
        held = l.held;
        sort = l.sort;
        has = h;
        weight =
            l.weight
            ∙ (λ i. operator_weight o + total (kept i ∷ f.weight i ∷ []))
            ∙ flat (operator_weight o) (weight v.nodes x) (op_weight other.op + total (map (weight v.nodes) other.args))
            ∙ g;
        needed = λ k le lt. ⊎_elim (λ less. inr (second k (f.new k le less))) (λ more. inl (l.new k more lt)) (cases_lt k (length b.mid.nodes));
      }
    where
      second : (k : ℕ) → b.y ≡ k → Contains (node_at w.nodes u).args k
      second k e =
          let there : Contains (x ∷ b.y ∷ []) k = (1, omega arith, e) in
          subst (λ (n : Node). Contains n.args k) (sym b.last.node) there

      kept : weight b.mid.nodes x ≡ weight v.nodes x
      kept = ap (λ l. weight l x) b.first.grown ∙ weight_longer v.nodes b.first.more x lt

      flat : (a c d : ℕ) → a + total (c ∷ d ∷ []) ≡ a + (c + d)
      flat a c d = omega arith

  -- what stands at the second argument
  other_here : (w : TermsValue) (u : ℕ) (b : IsBeside v w o x other s u) → node_at w.nodes (arg w.nodes 1 u) ≡ other
  other_here w u b =
      let e : arg w.nodes 1 u ≡ b.y = ap (λ m. slice_index_or m.args 1 0) b.last.node in
      ap (node_at w.nodes) e
      ∙ ap (λ l. node_at l b.y) b.last.grown
      ∙ node_longer b.mid.nodes b.last.more b.y b.first.held
      ∙ b.first.node

-- the arguments stand as they are written, so the test holds in the first order
in_order : (a b : Bool) → a ≡ true → (a || b) ≡ true
in_order a b e = ap (λ c. c || b) e

-- ---- shapes

ones_op : (n : ℕ) (o : Op) → o ≡ op.Word n (2 ^ n - 1) → is_ones o ≡ true
ones_op n o e = ap is_ones e ∙ eq-eqb (2 ^ n - 1) (2 ^ n - 1) refl

number_op : (n k : ℕ) (o : Op) → o ≡ op.Word n k → is_number k o ≡ true
number_op n k o e = ap (is_number k) e ∙ eq-eqb k k refl

truth_weight : (b : Bool) → op_weight (op.Plain (if b then plain.True else plain.False)) + 0 ≡ 1
truth_weight true = refl
truth_weight false = refl

truth_ready : (nodes : List Node) (b : Bool) (s : Sort) → s ≡ sort.Bool → IsReady nodes (leaf (op.Plain (if b then plain.True else plain.False))) s
truth_ready nodes true s e = record { agrees = agrees nodes (op.Plain plain.True) refl; held = tt; rank = ap Ok (sym e) }
truth_ready nodes false s e = record { agrees = agrees nodes (op.Plain plain.False) refl; held = tt; rank = ap Ok (sym e) }

-- the operator on x and a term of which a test holds
with_here : (nodes : List Node) (o : Operator) (x u : ℕ) (n : Node) → node_at nodes u ≡ n → n.op ≡ op.Plain o → slice_index_or n.args 0 0 ≡ x → (p : ℕ → Bool) → p (arg nodes 1 u) ≡ true → with_term nodes o x p u ≡ true
with_here nodes o x u n e q a p h =
    let f = (arg nodes 0 u == x) && p (arg nodes 1 u) in
    let g = commutes o && ((arg nodes 1 u == x) && p (arg nodes 0 u)) in
    both (is nodes o u) (f || g) (ap (same_op (op_at nodes u)) (sym q) ∙ same_here nodes u n e)
    (in_order f g (both (arg nodes 0 u == x) (p (arg nodes 1 u)) (arg_here nodes u 0 x n e a) h))

ones_sort : (n : ℕ) (s : Sort) → word_sort n ≡ Ok s → literal_sort n (2 ^ n - 1) ≡ Ok s
ones_sort n s e = ap (λ t. if t then word_sort n else Err (WrongSort 0)) (lt-ltb (2 ^ n - 1) (2 ^ n) (let h = power_positive n in omega (arith, h))) ∙ e
  where
    power_positive : (n : ℕ) → 0 < 2 ^ n
    power_positive zero = omega arith
    power_positive (suc n) = let h = power_positive n in omega (arith, h)

pub made_of_shape : (v w : TermsValue) (s : Sort) (z : Shape) (u : ℕ) → AreTerms v → IsRanked v.nodes s z → made_shape v s z ≡ Ok (u, w) → IsOfShape v w s z u
made_of_shape v w s (shape.Term x) u terms r e =
    let p = pairs x u v w e in
    record {
      terms = subst AreTerms p.1 terms;
      more = [];
      grown = ap (λ q. q.nodes) (sym p.1) ∙ sym (append-nil v.nodes);
      limit = ap (λ q. q.limit) (sym p.1);
      held = rw (← p.0, ← p.1) r.0;
      sort = (λ i. sort_of (sym p.1 i).nodes (sym p.0 i)) ∙ r.1;
      has = eq-eqb u x (sym p.0);
      weight = λ i. weight (sym p.1 i).nodes (sym p.0 i);
      needed = λ k le lt. absurd (none_more k le (subst (λ q. k < length q.nodes) (sym p.1) lt));
    }
  where
    none_more : (k : ℕ) → length v.nodes ≤ k → k < length v.nodes → ⊥
    none_more k le lt = omega (arith, le, lt)
made_of_shape v w s (shape.Truth b) u terms r e =
    let n = leaf (op.Plain (if b then plain.True else plain.False)) in
    let t = there v w n s u terms (truth_ready v.nodes b s r) e in
    of_shape v w n s (shape.Truth b) u t (same_here w.nodes u n t.node) (truth_weight b)
made_of_shape v w s (shape.Word k) u terms r e =
    let n = word_node (width_of s) k in
    let t = there v w n s u terms (word_ready v.nodes s (width_of s) k r) e in
    of_shape v w n s (shape.Word k) u t (number_op (width_of s) k (op_at w.nodes u) (ap (λ m. m.op) t.node)) refl
made_of_shape v w s shape.Ones u terms r e =
    let n = word_node (width_of s) (2 ^ width_of s - 1) in
    let t = there v w n s u terms (word_ready v.nodes s (width_of s) (2 ^ width_of s - 1) (ones_sort (width_of s) s r)) e in
    of_shape v w n s shape.Ones u t (ones_op (width_of s) (op_at w.nodes u) (ap (λ m. m.op) t.node)) refl
made_of_shape v w s (shape.One o x) u terms r e =
    let n = on_one (op.Plain o) x in
    let t = there v w n s u terms (one_ready v.nodes s (op.Plain o) x refl r) e in
    of_shape v w n s (shape.One o x) u t (both (is w.nodes o u) (arg w.nodes 0 u == x) (same_here w.nodes u n t.node) (arg_here w.nodes u 0 x n t.node refl)) (omega arith)
made_of_shape v w s (shape.Two o x y) u terms r e =
    let n = on_two (op.Plain o) x y in
    let t = there v w n s u terms (two_ready v.nodes s (op.Plain o) x y refl r) e in
    of_shape v w n s (shape.Two o x y) u t
    (both (is w.nodes o u) ((arg w.nodes 0 u == x) && (arg w.nodes 1 u == y)) (same_here w.nodes u n t.node)
    (both (arg w.nodes 0 u == x) (arg w.nodes 1 u == y) (arg_here w.nodes u 0 x n t.node refl) (arg_here w.nodes u 1 y n t.node refl)))
    (omega arith)
made_of_shape v w s (shape.WithWord o x k) u terms r e =
    let m = width_of (sort_of v.nodes x) in
    let ready = word_ready v.nodes (sort_of v.nodes x) m k r.1 in
    let b = beside v o x (word_node m k) s (sort_of v.nodes x) terms r.0.0 ready r.0.2 w u e in
    let n = on_two (op.Plain o) x b.y in
    let other = ap (λ q. q.op) (other_here v o x (word_node m k) s (sort_of v.nodes x) terms r.0.0 ready r.0.2 w u b) in
    beside_shape v o x (word_node m k) s (sort_of v.nodes x) terms r.0.0 ready r.0.2 w (shape.WithWord o x k) u b
    (with_here w.nodes o x u n b.last.node refl refl (number w.nodes k) (number_op m k (op_at w.nodes (arg w.nodes 1 u)) other))
    (omega arith)
made_of_shape v w s (shape.WithNegated x y) u terms r e =
    let neg = on_one (op.Plain plain.Bvneg) y in
    let ready = one_ready v.nodes (sort_of v.nodes y) (op.Plain plain.Bvneg) y refl r.1 in
    let b = beside v plain.Bvadd x neg s (sort_of v.nodes y) terms r.0.0 ready r.0.2 w u e in
    let n = on_two (op.Plain plain.Bvadd) x b.y in
    let other = other_here v plain.Bvadd x neg s (sort_of v.nodes y) terms r.0.0 ready r.0.2 w u b in
    let c = arg w.nodes 1 u in
    beside_shape v plain.Bvadd x neg s (sort_of v.nodes y) terms r.0.0 ready r.0.2 w (shape.WithNegated x y) u b
    (with_here w.nodes plain.Bvadd x u n b.last.node refl refl (of_term w.nodes plain.Bvneg y)
    (both (is w.nodes plain.Bvneg c) (arg w.nodes 0 c == y) (same_here w.nodes c neg other) (arg_here w.nodes c 0 y neg other refl)))
    (omega arith)
made_of_shape v w s (shape.Bits i j x) u terms r e =
    let n = on_one (op.Extract i j) x in
    let t = there v w n s u terms (one_ready v.nodes s (op.Extract i j) x refl r.0) e in
    of_shape v w n s (shape.Bits i j x) u t (both (same_op (op_at w.nodes u) (op.Extract i j)) (arg w.nodes 0 u == x) (same_here w.nodes u n t.node) (arg_here w.nodes u 0 x n t.node refl)) (omega arith)

pub shape_refused : (v : TermsValue) (s : Sort) (z : Shape) (f : MakeFault) → AreTerms v → IsRanked v.nodes s z → made_shape v s z ≡ Err f → f ≡ TermLimit
shape_refused v s (shape.Term x) f terms r e = let z : ⊥ = cc in absurd z
shape_refused v s (shape.Truth b) f terms r e = refused v (leaf (op.Plain (if b then plain.True else plain.False))) s f (truth_ready v.nodes b s r) e
shape_refused v s (shape.Word k) f terms r e = refused v (word_node (width_of s) k) s f (word_ready v.nodes s (width_of s) k r) e
shape_refused v s shape.Ones f terms r e = refused v (word_node (width_of s) (2 ^ width_of s - 1)) s f (word_ready v.nodes s (width_of s) (2 ^ width_of s - 1) (ones_sort (width_of s) s r)) e
shape_refused v s (shape.One o x) f terms r e = refused v (on_one (op.Plain o) x) s f (one_ready v.nodes s (op.Plain o) x refl r) e
shape_refused v s (shape.Two o x y) f terms r e = refused v (on_two (op.Plain o) x y) s f (two_ready v.nodes s (op.Plain o) x y refl r) e
shape_refused v s (shape.WithWord o x k) f terms r e =
    let m = width_of (sort_of v.nodes x) in
    beside_refused v o x (word_node m k) s (sort_of v.nodes x) terms r.0.0 (word_ready v.nodes (sort_of v.nodes x) m k r.1) r.0.2 f e
shape_refused v s (shape.WithNegated x y) f terms r e =
    beside_refused v plain.Bvadd x (on_one (op.Plain plain.Bvneg) y) s (sort_of v.nodes y) terms r.0.0 (one_ready v.nodes (sort_of v.nodes y) (op.Plain plain.Bvneg) y refl r.1) r.0.2 f e
shape_refused v s (shape.Bits i j x) f terms r e = refused v (on_one (op.Extract i j) x) s f (one_ready v.nodes s (op.Extract i j) x refl r.0) e

-- there is room for one term at most where the limit refuses a shape
pub shape_full : (v : TermsValue) (s : Sort) (z : Shape) (f : MakeFault) → AreTerms v → IsRanked v.nodes s z → made_shape v s z ≡ Err f → v.limit ≤ length v.nodes + 1
shape_full v s (shape.Term x) f terms r e = let z : ⊥ = cc in absurd z
shape_full v s (shape.Truth b) f terms r e = one_short v (refused_full v (leaf (op.Plain (if b then plain.True else plain.False))) s f (truth_ready v.nodes b s r) e)
shape_full v s (shape.Word k) f terms r e = one_short v (refused_full v (word_node (width_of s) k) s f (word_ready v.nodes s (width_of s) k r) e)
shape_full v s shape.Ones f terms r e = one_short v (refused_full v (word_node (width_of s) (2 ^ width_of s - 1)) s f (word_ready v.nodes s (width_of s) (2 ^ width_of s - 1) (ones_sort (width_of s) s r)) e)
shape_full v s (shape.One o x) f terms r e = one_short v (refused_full v (on_one (op.Plain o) x) s f (one_ready v.nodes s (op.Plain o) x refl r) e)
shape_full v s (shape.Two o x y) f terms r e = one_short v (refused_full v (on_two (op.Plain o) x y) s f (two_ready v.nodes s (op.Plain o) x y refl r) e)
shape_full v s (shape.WithWord o x k) f terms r e =
    let m = width_of (sort_of v.nodes x) in
    beside_full v o x (word_node m k) s (sort_of v.nodes x) terms r.0.0 (word_ready v.nodes (sort_of v.nodes x) m k r.1) r.0.2 f e
shape_full v s (shape.WithNegated x y) f terms r e =
    beside_full v plain.Bvadd x (on_one (op.Plain plain.Bvneg) y) s (sort_of v.nodes y) terms r.0.0 (one_ready v.nodes (sort_of v.nodes y) (op.Plain plain.Bvneg) y refl r.1) r.0.2 f e
shape_full v s (shape.Bits i j x) f terms r e = one_short v (refused_full v (on_one (op.Extract i j) x) s f (one_ready v.nodes s (op.Extract i j) x refl r.0) e)
