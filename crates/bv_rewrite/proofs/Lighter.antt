-- Each rule but that on arguments takes a term to one of less weight.
use Rattle.std.proofs.Common.{◌≡◌, ℕ, ◌+◌, ◌-◌, ◌*◌, ◌<◌, ◌++◌, Bool, true, false, List, [], ◌∷◌, length, map, refl, ap, ◌∙◌, subst, arith, Option, Some, None, Result, Ok}
use Rattle.std.specs.Prelude.{◌==◌, ◌&&◌, ◌||◌, nat_lt, nat_le, not}
use Rattle.std.specs.List.{list_all, AllByRecursion}
use Rattle.std.proofs.lemmas.Bool.{and_parts, eqb-true}
use Rattle.smt_terms.specs.declared.sort.Sort.{Sort}
use Rattle.smt_terms.specs.declared.sort.Sort.TheVariants as sort
use Rattle.smt_terms.specs.declared.operator.Operator.{Operator}
use Rattle.smt_terms.specs.declared.operator.Operator.TheVariants as plain
use Rattle.smt_terms.specs.declared.node.Op.{Op}
use Rattle.smt_terms.specs.declared.node.Op.TheVariants as op
use Rattle.smt_terms.specs.declared.node.Node.{Node}
use Rattle.smt_terms.specs.declared.rank.Demand.{Demand}
use Rattle.smt_terms.specs.declared.rank.Demand.TheVariants.{Any, AnyWord, AnyArray, Exactly}
use Rattle.smt_terms.specs.declared.fault.MakeFault.{MakeFault}
use Rattle.smt_terms.specs.Nodes.{node_at}
use Rattle.smt_terms.specs.Ranks.{width_of, index_sort, element_sort, truth, two_words, word_sort, extract_sort, operator_rank, rank_of, Gives, Takes}
use Rattle.smt_terms.specs.Scalars.{is_fixed}
use Rattle.smt_terms.specs.Terms.{IsTermList}
use Rattle.smt_terms.specs.Values.{Value, VBool, VWord, VArray, value}
use Rattle.smt_terms.proofs.Evaluating.{value_is_evaluation}
use Rattle.smt_terms.proofs.Recursion.{at_term_is, at_term_longer}
use Rattle.bv_rules.specs.declared.rule.Rule.{Rule}
use Rattle.bv_rules.specs.declared.rule.Rule.TheVariants.{BvnotTwice, BvnegTwice, AndSame, AndZero, AndOnes, OrSame, OrZero, OrOnes, XorSame, XorZero, XorOnes, AddZero, AddOpposite, Subtract, AddSame, MultiplyZero, MultiplyOne, MultiplyPower, DivideOne, DivideZero, DividePower, RemainderZero, RemainderOne, RemainderPower, ShiftZero, ShiftPast, ExtractAll, ExtractExtract, ExtractConcat, Idle, Less, AtMost, Greater, EqualSame, NotTwice, Connective, Choice, SelectStore, Fold, Inner}
use Rattle.bv_rules.specs.Reading.{commutes, is_extract, high_in, low_in, is_idle, op_at, arg}
use Rattle.bv_rules.specs.Arguments.{is_literal, any_interpretation, has_literals, folded_value}
use Rattle.bv_rules.specs.Rules.{width_at, is, of_term, zero as zero_word, one, ones, power, exponent, past, unequal, extraction, high, low}
use Rattle.bv_rules.proofs.Known.{Context, op_is, one_at, two_at, three_at}
use Rattle.bv_rewrite.specs.declared.shape.Shape.{Shape}
use Rattle.bv_rewrite.specs.declared.shape.Shape.TheVariants as shape
use Rattle.bv_rewrite.specs.declared.shape.Kind.{Kind}
use Rattle.bv_rewrite.specs.declared.shape.Kind.TheVariants as kind
use Rattle.bv_rewrite.specs.declared.shape.Power.{Power}
use Rattle.bv_rewrite.specs.declared.shape.Power.TheVariants as by
use Rattle.bv_rewrite.specs.Shapes.{kind_shape, power_shape, given, or_else}
use Rattle.bv_rewrite.specs.Becoming.{value_shape, on_shape, twice_shape, beside_power, past_width, turned_shape, decided_shape, part_shape, read_shape, becomes}
use Rattle.bv_rewrite.specs.Weights.{operator_weight, op_weight, total, weight, shape_weight}

-- each operator weighs something
operator_heavy : (o : Operator) → 0 < operator_weight o
operator_heavy plain.Bvadd = omega arith
operator_heavy plain.Bvsub = omega arith
operator_heavy plain.Bvmul = omega arith
operator_heavy plain.Bvudiv = omega arith
operator_heavy plain.Bvurem = omega arith
operator_heavy plain.Bvugt = omega arith
operator_heavy plain.Bvuge = omega arith
operator_heavy plain.Bvsgt = omega arith
operator_heavy plain.Bvsge = omega arith
operator_heavy _ = omega arith

op_heavy : (o : Op) → 0 < op_weight o
op_heavy (op.Plain o) = operator_heavy o
op_heavy _ = omega arith

-- a term over held ones weighs what its node does
pub weight_is : (nodes : List Node) (t : ℕ) → IsTermList nodes → t < length nodes → weight nodes t ≡ op_weight (op_at nodes t) + total (map (weight nodes) (node_at nodes t).args)
weight_is nodes t terms lt = at_term_is 1 (λ u o ws. op_weight o + total ws) nodes t (terms t lt).earlier

pub weight_longer : (nodes more : List Node) (t : ℕ) → t < length nodes → weight (nodes ++ more) t ≡ weight nodes t
weight_longer nodes more t lt = at_term_longer 1 (λ u o ws. op_weight o + total ws) nodes more t lt

pub heavy : (nodes : List Node) (t : ℕ) → IsTermList nodes → t < length nodes → 0 < weight nodes t
heavy nodes t terms lt = let h = op_heavy (op_at nodes t) in omega (arith, weight_is nodes t terms lt, h)

module _ (nodes : List Node) (terms : IsTermList nodes) (t : ℕ) (lt : t < length nodes) where
  k : Context
  k = record { M = any_interpretation; nodes = nodes; v = value any_interpretation nodes; terms = terms; evaluation = value_is_evaluation any_interpretation nodes terms }

  abbrev w : ℕ → ℕ
  w x = weight nodes x

  -- what a shape weighs, where there is one
  abbrev Lighter : Option Shape → Type 0
  Lighter o = (z : Shape) → o ≡ Some z → shape_weight nodes z < w t

  lighter_some : (z : Shape) → shape_weight nodes z < w t → Lighter (Some z)
  lighter_some z h y e = let q : z ≡ y = cc in subst (λ x. shape_weight nodes x < w t) q h

  lighter_none : Lighter None
  lighter_none y e = let q : ⊥ = cc in absurd q

  lighter_given : (b : Bool) (o : Option Shape) → (b ≡ true → Lighter o) → Lighter (given b o)
  lighter_given true o h = h refl
  lighter_given false o h = lighter_none

  lighter_or : (a b : Option Shape) → Lighter a → Lighter b → Lighter (or_else a b)
  lighter_or (Some z) b f g = f
  lighter_or None b f g = g

  -- ---- weights of arguments

  on_args : (u : ℕ) (o : Op) (args : List ℕ) → u < length nodes → op_at nodes u ≡ o → (node_at nodes u).args ≡ args → w u ≡ op_weight o + total (map w args)
  on_args u o args l p q = weight_is nodes u terms l ∙ (λ i. op_weight (p i) + total (map w (q i)))

  -- x and y are the arguments, in one order or the other
  record Pair (o : Operator) (x y : ℕ) : Type 0 where
    sum : w t ≡ operator_weight o + (w x + w y)
    first : 0 < w x
    second : 0 < w y

  lighter_on : (o : Operator) (d : Demand) (e : Sort → Demand) (g : Sort → Sort → Result Sort MakeFault) (f : ℕ → ℕ → Option Shape) → operator_rank o ≡ (Takes d λ p. Takes (e p) λ q. Gives (g p q))
      → ((x y : ℕ) → Pair o x y → Lighter (f x y)) → Lighter (on_shape nodes o f t)
  unfolding k
  lighter_on o d e g f r each =
      let a = arg nodes 0 t in
      let b = arg nodes 1 t in
      lighter_given (is nodes o t) (or_else (f a b) (given (commutes o) (f b a))) λ i.
      let q = two_at k d e g (op.Plain o) t r lt (op_is k o t i) in
      let s = on_args t (op.Plain o) (a ∷ b ∷ []) lt (op_is k o t i) q.args in
      let ha = heavy nodes a terms q.first in
      let hb = heavy nodes b terms q.second in
      lighter_or (f a b) (given (commutes o) (f b a)) (each a b (record { sum = omega (arith, s); first = ha; second = hb }))
      (lighter_given (commutes o) (f b a) λ _. each b a (record { sum = omega (arith, s); first = hb; second = ha }))

  lighter_words : (o : Operator) (h : Sort → Result Sort MakeFault) (f : ℕ → ℕ → Option Shape) → operator_rank o ≡ two_words h → ((x y : ℕ) → Pair o x y → Lighter (f x y)) → Lighter (on_shape nodes o f t)
  lighter_words o h f r each = lighter_on o AnyWord (λ p. Exactly p) (λ p _. h p) f r each

  -- ---- lines of the table

  kind_lighter : (o : Operator) (r : Kind) (x y : ℕ) → Pair o x y → (r ≡ kind.Doubled → (operator_weight o ≡ 2) × (x ≡ y)) → shape_weight nodes (kind_shape r x) < w t
  kind_lighter o kind.Same x y p d = let h = operator_heavy o in omega (arith, p.sum, h, p.second)
  kind_lighter o kind.Zero x y p d = let h = operator_heavy o in omega (arith, p.sum, h, p.first, p.second)
  kind_lighter o kind.Ones x y p d = let h = operator_heavy o in omega (arith, p.sum, h, p.first, p.second)
  kind_lighter o kind.Doubled x y p d = let q = d refl in let e : w x ≡ w y = ap w q.1 in omega (arith, p.sum, p.first, q.0, e)

  lighter_where : (o : Operator) (b : ℕ → ℕ → Bool) (r : Kind) → operator_rank o ≡ two_words Ok → (r ≡ kind.Doubled → ⊥) → Lighter (on_shape nodes o (λ x y. given (b x y) (Some (kind_shape r x))) t)
  lighter_where o b r p n = lighter_words o Ok (λ x y. given (b x y) (Some (kind_shape r x))) p λ x y q. lighter_given (b x y) (Some (kind_shape r x)) λ _. lighter_some (kind_shape r x) (kind_lighter o r x y q (λ d. absurd (n d)))

  power_lighter : (o : Operator) (r : Power) (x c e : ℕ) → operator_weight o ≡ 2 → Pair o x c → shape_weight nodes (power_shape r x e) < w t
  power_lighter o by.ShiftedLeft x c e h p = omega (arith, p.sum, h, p.second)
  power_lighter o by.ShiftedRight x c e h p = omega (arith, p.sum, h, p.second)
  power_lighter o by.Masked x c e h p = omega (arith, p.sum, h, p.second)

  lighter_power : (o : Operator) (r : Power) → operator_rank o ≡ two_words Ok → operator_weight o ≡ 2 → Lighter (beside_power nodes o r t)
  lighter_power o r p h =
      lighter_words o Ok (λ x c. given (power nodes c) (Some (power_shape r x (exponent nodes c)))) p λ x c q.
      lighter_given (power nodes c) (Some (power_shape r x (exponent nodes c))) λ _. lighter_some (power_shape r x (exponent nodes c)) (power_lighter o r x c (exponent nodes c) h q)

  lighter_truth : (o : Operator) (b : ℕ → ℕ → Bool) (c : Bool) → operator_rank o ≡ two_words (λ _. truth) → Lighter (on_shape nodes o (λ x y. given (b x y) (Some (shape.Truth c))) t)
  lighter_truth o b c p =
      lighter_words o (λ _. truth) (λ x y. given (b x y) (Some (shape.Truth c))) p λ x y q.
      lighter_given (b x y) (Some (shape.Truth c)) λ _. lighter_some (shape.Truth c) (let h = operator_heavy o in omega (arith, q.sum, q.first, q.second, h))

  lighter_turned : (o r : Operator) → operator_rank o ≡ two_words (λ _. truth) → operator_weight r < operator_weight o → Lighter (turned_shape nodes o r t)
  lighter_turned o r p h = lighter_words o (λ _. truth) (λ x y. Some (shape.Two r y x)) p λ x y q. lighter_some (shape.Two r y x) (omega (arith, q.sum, h))

  -- an operator on one term
  record Single (o : Op) (u : ℕ) : Type 0 where
    sum : w u ≡ op_weight o + w (arg nodes 0 u)
    held : arg nodes 0 u < length nodes

  single : (d : Demand) (g : Sort → Result Sort MakeFault) (o : Op) (u : ℕ) → rank_of o ≡ (Takes d λ p. Gives (g p)) → u < length nodes → op_at nodes u ≡ o → Single o u
  unfolding k
  single d g o u r l e =
      let q = one_at k d g o u r l e in
      let s = on_args u o (arg nodes 0 u ∷ []) l e q.args in
      record { sum = omega (arith, s); held = q.held }

  lighter_twice : (o : Operator) (d : Demand) (g : Sort → Result Sort MakeFault) → operator_rank o ≡ (Takes d λ p. Gives (g p)) → Lighter (twice_shape nodes o t)
  unfolding k
  lighter_twice o d g r =
      let a = arg nodes 0 t in
      let x = arg nodes 0 a in
      lighter_given (is nodes o t) (given (is nodes o a) (Some (shape.Term x))) λ i. lighter_given (is nodes o a) (Some (shape.Term x)) λ j.
      let p = single d g (op.Plain o) t r lt (op_is k o t i) in
      let q = single d g (op.Plain o) a r p.held (op_is k o a j) in
      let h = operator_heavy o in
      lighter_some (shape.Term x) (omega (arith, p.sum, q.sum, h))

  lighter_decided : (o m d : Operator) (b : Bool) → operator_rank o ≡ operator_rank plain.And → Lighter (on_shape nodes o (decided_shape nodes m d b) t)
  lighter_decided o m d b p =
      lighter_on o (Exactly sort.Bool) (λ _. Exactly sort.Bool) (λ _ _. truth) (decided_shape nodes m d b) p λ x y q.
      let h = operator_heavy o in
      lighter_or (given ((x == y) || is nodes m y) (Some (shape.Term x))) (given (is nodes d y) (Some (shape.Truth b)))
      (lighter_given ((x == y) || is nodes m y) (Some (shape.Term x)) λ _. lighter_some (shape.Term x) (omega (arith, q.sum, q.second, h)))
      (lighter_given (is nodes d y) (Some (shape.Truth b)) λ _. lighter_some (shape.Truth b) (omega (arith, q.sum, q.first, q.second, h)))

  -- ---- parts of words

  extract_op : (o : Op) → is_extract o ≡ true → o ≡ op.Extract (high_in o) (low_in o)
  extract_op (op.Extract i j) z = refl
  extract_op _ z = let f : ⊥ = cc in absurd f

  part : (u : ℕ) → u < length nodes → extraction nodes u ≡ true → Single (op.Extract (high nodes u) (low nodes u)) u
  part u l z = single AnyWord (λ p. extract_sort (high nodes u) (low nodes u) (width_of p)) (op.Extract (high nodes u) (low nodes u)) u refl l (extract_op (op_at nodes u) z)

  lighter_all : Lighter (becomes nodes ExtractAll t)
  lighter_all =
      let x = arg nodes 0 t in
      let b = high nodes t + 1 == width_at nodes x in
      let c = low nodes t == 0 in
      lighter_given (extraction nodes t) (given b (given c (Some (shape.Term x)))) λ h. lighter_given b (given c (Some (shape.Term x))) λ f. lighter_given c (Some (shape.Term x)) λ g.
      let p = part t lt h in
      lighter_some (shape.Term x) (omega (arith, p.sum))

  lighter_extracts : Lighter (becomes nodes ExtractExtract t)
  lighter_extracts =
      let a = arg nodes 0 t in
      let z = shape.Bits (high nodes t + low nodes a) (low nodes t + low nodes a) (arg nodes 0 a) in
      lighter_given (extraction nodes t) (given (extraction nodes a) (Some z)) λ h. lighter_given (extraction nodes a) (Some z) λ f.
      let p = part t lt h in
      let q = part a p.held f in
      lighter_some z (omega (arith, p.sum, q.sum))

  lighter_joined : Lighter (becomes nodes ExtractConcat t)
  unfolding k
  lighter_joined =
      let a = arg nodes 0 t in
      let x = arg nodes 0 a in
      let y = arg nodes 1 a in
      let i = high nodes t in
      let j = low nodes t in
      let m = width_at nodes y in
      let low_part = shape.Bits i j y in
      let high_part = shape.Bits (i - m) (j - m) x in
      lighter_given (extraction nodes t) (given (is nodes plain.Concat a) (part_shape nodes i j m a)) λ h. lighter_given (is nodes plain.Concat a) (part_shape nodes i j m a) λ f.
      let p = part t lt h in
      let c = two_at k AnyWord (λ _. AnyWord) (λ r z. word_sort (width_of r + width_of z)) (op.Plain plain.Concat) a refl p.held (op_is k plain.Concat a f) in
      let s = on_args a (op.Plain plain.Concat) (x ∷ y ∷ []) p.held (op_is k plain.Concat a f) c.args in
      lighter_or (given (nat_lt i m) (Some low_part)) (given (nat_le m j) (Some high_part))
      (lighter_given (nat_lt i m) (Some low_part) λ z. lighter_some low_part (omega (arith, p.sum, s)))
      (lighter_given (nat_le m j) (Some high_part) λ z. lighter_some high_part (omega (arith, p.sum, s)))

  -- an operator that changes nothing has one argument
  idle_single : (o : Op) → op_at nodes t ≡ o → is_idle (width_at nodes (arg nodes 0 t)) o ≡ true → Single o t
  idle_single (op.ZeroExtend i) e h = single AnyWord (λ p. word_sort (width_of p + i)) (op.ZeroExtend i) t refl lt e
  idle_single (op.SignExtend i) e h = single AnyWord (λ p. word_sort (width_of p + i)) (op.SignExtend i) t refl lt e
  idle_single (op.RotateLeft i) e h = single AnyWord (λ p. word_sort (width_of p)) (op.RotateLeft i) t refl lt e
  idle_single (op.RotateRight i) e h = single AnyWord (λ p. word_sort (width_of p)) (op.RotateRight i) t refl lt e
  idle_single (op.Repeat i) e h = single AnyWord (λ p. word_sort (width_of p * i)) (op.Repeat i) t refl lt e
  idle_single _ e h = let z : ⊥ = cc in absurd z

  lighter_idle : Lighter (becomes nodes Idle t)
  lighter_idle =
      let x = arg nodes 0 t in
      lighter_given (is_idle (width_at nodes x) (op_at nodes t)) (Some (shape.Term x)) λ h.
      let p = idle_single (op_at nodes t) refl h in
      let g = op_heavy (op_at nodes t) in
      lighter_some (shape.Term x) (omega (arith, p.sum, g))

  -- ---- three arguments

  lighter_choice : Lighter (becomes nodes Choice t)
  unfolding k
  lighter_choice =
      let c = arg nodes 0 t in
      let x = arg nodes 1 t in
      let y = arg nodes 2 t in
      let yes = given (is nodes plain.True c) (Some (shape.Term x)) in
      let no = given (is nodes plain.False c) (Some (shape.Term y)) in
      let same = given (x == y) (Some (shape.Term x)) in
      lighter_given (is nodes plain.Ite t) (or_else yes (or_else no same)) λ i.
      let q = three_at k (Exactly sort.Bool) (λ _. Any) (λ _ p. Exactly p) (λ _ p _. Ok p) (op.Plain plain.Ite) t refl lt (op_is k plain.Ite t i) in
      let s = on_args t (op.Plain plain.Ite) (c ∷ x ∷ y ∷ []) lt (op_is k plain.Ite t i) q.args in
      lighter_or yes (or_else no same)
      (lighter_given (is nodes plain.True c) (Some (shape.Term x)) λ _. lighter_some (shape.Term x) (omega (arith, s)))
      (lighter_or no same
      (lighter_given (is nodes plain.False c) (Some (shape.Term y)) λ _. lighter_some (shape.Term y) (omega (arith, s)))
      (lighter_given (x == y) (Some (shape.Term x)) λ _. lighter_some (shape.Term x) (omega (arith, s))))

  lighter_read : Lighter (becomes nodes SelectStore t)
  unfolding k
  lighter_read =
      let v = arg nodes 0 t in
      let j = arg nodes 1 t in
      let a = arg nodes 0 v in
      let i = arg nodes 1 v in
      let x = arg nodes 2 v in
      let item = shape.Term x in
      let below = shape.Two plain.Select a j in
      lighter_given (is nodes plain.Select t) (given (is nodes plain.Store v) (read_shape nodes v j)) λ h. lighter_given (is nodes plain.Store v) (read_shape nodes v j) λ f.
      let outer = two_at k AnyArray (λ r. Exactly (index_sort r)) (λ r _. Ok (element_sort r)) (op.Plain plain.Select) t refl lt (op_is k plain.Select t h) in
      let store = three_at k AnyArray (λ r. Exactly (index_sort r)) (λ r _. Exactly (element_sort r)) (λ r _ _. Ok r) (op.Plain plain.Store) v refl outer.first (op_is k plain.Store v f) in
      let s = on_args t (op.Plain plain.Select) (v ∷ j ∷ []) lt (op_is k plain.Select t h) outer.args in
      let q = on_args v (op.Plain plain.Store) (a ∷ i ∷ x ∷ []) outer.first (op_is k plain.Store v f) store.args in
      lighter_or (given (i == j) (Some item)) (given (unequal nodes i j) (Some below))
      (lighter_given (i == j) (Some item) λ _. lighter_some item (omega (arith, s, q)))
      (lighter_given (unequal nodes i j) (Some below) λ _. lighter_some below (omega (arith, s, q)))

  -- ---- literals

  lighter_fold : Lighter (becomes nodes Fold t)
  lighter_fold =
      let args = (node_at nodes t).args in
      let all = list_all (λ a. is_literal (op_at nodes a)) args in
      lighter_given (has_literals nodes t) (value_shape (folded_value nodes t)) λ h.
      let p = and_parts (is_fixed (op_at nodes t)) (not (length args == 0) && all) h in
      let q = and_parts (not (length args == 0)) all p.1 in
      let s = weight_is nodes t terms lt in
      let g = op_heavy (op_at nodes t) in
      let m = some_weight args (terms t lt).earlier q.0 in
      literal_lighter (folded_value nodes t) (omega (arith, s, g, m))
    where
      some_weight : (args : List ℕ) → AllByRecursion (λ a. a < t) args → not (length args == 0) ≡ true → 0 < total (map w args)
      some_weight [] e h = let z : ⊥ = cc in absurd z
      some_weight (a ∷ args) e h = let l = e.0 in let g = heavy nodes a terms (omega (arith, l, lt)) in omega (arith, g)

      literal_lighter : (f : Value) → 1 < w t → Lighter (value_shape f)
      literal_lighter (VBool b) h = lighter_some (shape.Truth b) h
      literal_lighter (VWord n x) h = lighter_some (shape.Word x) h
      literal_lighter (VArray n m a) h = lighter_none

  -- ---- the table

  pub lighter : (rule : Rule) → Lighter (becomes nodes rule t)
  lighter BvnotTwice = lighter_twice plain.Bvnot AnyWord (λ p. word_sort (width_of p)) refl
  lighter BvnegTwice = lighter_twice plain.Bvneg AnyWord (λ p. word_sort (width_of p)) refl
  lighter AndSame = lighter_where plain.Bvand (λ x y. x == y) kind.Same refl (λ e. let z : ⊥ = cc in z)
  lighter AndZero = lighter_where plain.Bvand (λ x c. zero_word nodes c) kind.Zero refl (λ e. let z : ⊥ = cc in z)
  lighter AndOnes = lighter_where plain.Bvand (λ x c. ones nodes c) kind.Same refl (λ e. let z : ⊥ = cc in z)
  lighter OrSame = lighter_where plain.Bvor (λ x y. x == y) kind.Same refl (λ e. let z : ⊥ = cc in z)
  lighter OrZero = lighter_where plain.Bvor (λ x c. zero_word nodes c) kind.Same refl (λ e. let z : ⊥ = cc in z)
  lighter OrOnes = lighter_where plain.Bvor (λ x c. ones nodes c) kind.Ones refl (λ e. let z : ⊥ = cc in z)
  lighter XorSame = lighter_where plain.Bvxor (λ x y. x == y) kind.Zero refl (λ e. let z : ⊥ = cc in z)
  lighter XorZero = lighter_where plain.Bvxor (λ x c. zero_word nodes c) kind.Same refl (λ e. let z : ⊥ = cc in z)
  lighter XorOnes =
      lighter_words plain.Bvxor Ok (λ x c. given (ones nodes c) (Some (shape.One plain.Bvnot x))) refl λ x c q.
      lighter_given (ones nodes c) (Some (shape.One plain.Bvnot x)) λ _. lighter_some (shape.One plain.Bvnot x) (omega (arith, q.sum, q.second))
  lighter AddZero = lighter_where plain.Bvadd (λ x c. zero_word nodes c) kind.Same refl (λ e. let z : ⊥ = cc in z)
  lighter AddOpposite = lighter_where plain.Bvadd (λ x y. of_term nodes plain.Bvneg x y) kind.Zero refl (λ e. let z : ⊥ = cc in z)
  lighter Subtract = lighter_words plain.Bvsub Ok (λ x y. Some (shape.WithNegated x y)) refl λ x y q. lighter_some (shape.WithNegated x y) (omega (arith, q.sum))
  lighter AddSame =
      lighter_words plain.Bvadd Ok (λ x y. given (x == y) (Some (kind_shape kind.Doubled x))) refl λ x y q.
      lighter_given (x == y) (Some (kind_shape kind.Doubled x)) λ h. lighter_some (kind_shape kind.Doubled x) (kind_lighter plain.Bvadd kind.Doubled x y q (λ _. (refl, eqb-true x y h)))
  lighter MultiplyZero = lighter_where plain.Bvmul (λ x c. zero_word nodes c) kind.Zero refl (λ e. let z : ⊥ = cc in z)
  lighter MultiplyOne = lighter_where plain.Bvmul (λ x c. one nodes c) kind.Same refl (λ e. let z : ⊥ = cc in z)
  lighter MultiplyPower = lighter_power plain.Bvmul by.ShiftedLeft refl refl
  lighter DivideOne = lighter_where plain.Bvudiv (λ x c. one nodes c) kind.Same refl (λ e. let z : ⊥ = cc in z)
  lighter DivideZero = lighter_where plain.Bvudiv (λ x c. zero_word nodes c) kind.Ones refl (λ e. let z : ⊥ = cc in z)
  lighter DividePower = lighter_power plain.Bvudiv by.ShiftedRight refl refl
  lighter RemainderZero = lighter_where plain.Bvurem (λ x c. zero_word nodes c) kind.Same refl (λ e. let z : ⊥ = cc in z)
  lighter RemainderOne = lighter_where plain.Bvurem (λ x c. one nodes c) kind.Zero refl (λ e. let z : ⊥ = cc in z)
  lighter RemainderPower = lighter_power plain.Bvurem by.Masked refl refl
  lighter ShiftZero =
      let z : Operator → Option Shape = λ o. on_shape nodes o (λ x c. given (zero_word nodes c) (Some (kind_shape kind.Same x))) t in
      lighter_or (z plain.Bvshl) (or_else (z plain.Bvlshr) (z plain.Bvashr)) (lighter_where plain.Bvshl (λ x c. zero_word nodes c) kind.Same refl (λ e. let z : ⊥ = cc in z))
      (lighter_or (z plain.Bvlshr) (z plain.Bvashr) (lighter_where plain.Bvlshr (λ x c. zero_word nodes c) kind.Same refl (λ e. let z : ⊥ = cc in z)) (lighter_where plain.Bvashr (λ x c. zero_word nodes c) kind.Same refl (λ e. let z : ⊥ = cc in z)))
  lighter ShiftPast =
      lighter_or (past_width nodes plain.Bvshl t) (past_width nodes plain.Bvlshr t)
      (lighter_where plain.Bvshl (λ x c. past nodes c) kind.Zero refl (λ e. let z : ⊥ = cc in z))
      (lighter_where plain.Bvlshr (λ x c. past nodes c) kind.Zero refl (λ e. let z : ⊥ = cc in z))
  lighter ExtractAll = lighter_all
  lighter ExtractExtract = lighter_extracts
  lighter ExtractConcat = lighter_joined
  lighter Idle = lighter_idle
  lighter Less = lighter_truth plain.Bvult (λ x y. (x == y) || zero_word nodes y) false refl
  lighter AtMost = lighter_truth plain.Bvule (λ x y. (x == y) || zero_word nodes x) true refl
  lighter Greater =
      let f : Operator → Operator → Option Shape = λ o r. turned_shape nodes o r t in
      lighter_or (f plain.Bvugt plain.Bvult) (or_else (f plain.Bvuge plain.Bvule) (or_else (f plain.Bvsgt plain.Bvslt) (f plain.Bvsge plain.Bvsle))) (lighter_turned plain.Bvugt plain.Bvult refl (omega arith))
      (lighter_or (f plain.Bvuge plain.Bvule) (or_else (f plain.Bvsgt plain.Bvslt) (f plain.Bvsge plain.Bvsle)) (lighter_turned plain.Bvuge plain.Bvule refl (omega arith))
      (lighter_or (f plain.Bvsgt plain.Bvslt) (f plain.Bvsge plain.Bvsle) (lighter_turned plain.Bvsgt plain.Bvslt refl (omega arith)) (lighter_turned plain.Bvsge plain.Bvsle refl (omega arith))))
  lighter EqualSame =
      lighter_on plain.Equal Any (λ p. Exactly p) (λ _ _. truth) (λ x y. given (x == y) (Some (shape.Truth true))) refl λ x y q.
      lighter_given (x == y) (Some (shape.Truth true)) λ _. lighter_some (shape.Truth true) (omega (arith, q.sum, q.first, q.second))
  lighter NotTwice = lighter_twice plain.Not (Exactly sort.Bool) (λ _. truth) refl
  lighter Connective =
      lighter_or (on_shape nodes plain.And (decided_shape nodes plain.True plain.False false) t) (on_shape nodes plain.Or (decided_shape nodes plain.False plain.True true) t)
      (lighter_decided plain.And plain.True plain.False false refl)
      (lighter_decided plain.Or plain.False plain.True true refl)
  lighter Choice = lighter_choice
  lighter SelectStore = lighter_read
  lighter Fold = lighter_fold
  lighter Inner = lighter_none

pub lighter_shape : (nodes : List Node) (rule : Rule) (t : ℕ) (z : Shape) → IsTermList nodes → t < length nodes → becomes nodes rule t ≡ Some z → shape_weight nodes z < weight nodes t
lighter_shape nodes rule t z terms lt e = lighter nodes terms t lt rule z e
