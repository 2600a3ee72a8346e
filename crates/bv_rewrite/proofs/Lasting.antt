-- More terms change nothing of what a term becomes.
use Rattle.std.proofs.Common.{◌≡◌, ℕ, ◌-◌, ◌+◌, ◌<◌, Bool, List, ◌++◌, length, map, refl, ap, ◌∙◌, Option, Some}
use Rattle.std.specs.Prelude.{◌==◌, ◌&&◌, ◌||◌, nat_lt, nat_le, not}
use Rattle.std.specs.List.{list_all}
use Rattle.smt_terms.specs.declared.operator.Operator.{Operator}
use Rattle.smt_terms.specs.declared.operator.Operator.TheVariants as plain
use Rattle.smt_terms.specs.declared.node.Node.{Node}
use Rattle.smt_terms.specs.Nodes.{node_at}
use Rattle.smt_terms.specs.Scalars.{is_fixed}
use Rattle.smt_terms.specs.Terms.{IsTermList}
use Rattle.smt_terms.specs.Values.{op_value}
use Rattle.smt_terms.proofs.Growing.{node_longer}
use Rattle.bv_rules.specs.declared.reading.Constant.{Constant}
use Rattle.bv_rules.specs.declared.reading.Constant.TheVariants as bits
use Rattle.bv_rules.specs.declared.rule.Rule.{Rule}
use Rattle.bv_rules.specs.declared.rule.Rule.TheVariants.{BvnotTwice, BvnegTwice, AndSame, AndZero, AndOnes, OrSame, OrZero, OrOnes, XorSame, XorZero, XorOnes, AddZero, AddOpposite, Subtract, AddSame, MultiplyZero, MultiplyOne, MultiplyPower, DivideOne, DivideZero, DividePower, RemainderZero, RemainderOne, RemainderPower, ShiftZero, ShiftPast, ExtractAll, ExtractExtract, ExtractConcat, Idle, Less, AtMost, Greater, EqualSame, NotTwice, Connective, Choice, SelectStore, Fold, Inner}
use Rattle.bv_rules.specs.Reading.{commutes, is_constant, is_power, is_past, exponent_in, are_unequal, is_extract, high_in, low_in, is_idle, op_at, arg}
use Rattle.bv_rules.specs.Arguments.{is_literal, any_interpretation, literal_at}
use Rattle.bv_rules.specs.Rules.{width_at, of_term}
use Rattle.bv_rules.proofs.Longer.{arg_held, op_longer, arg_longer, width_longer, is_longer, by_op, of_longer, inner_longer, inner_is, inner_op, literals_longer, values_longer}
use Rattle.bv_rewrite.specs.declared.shape.Shape.{Shape}
use Rattle.bv_rewrite.specs.declared.shape.Shape.TheVariants as shape
use Rattle.bv_rewrite.specs.declared.shape.Kind.{Kind}
use Rattle.bv_rewrite.specs.declared.shape.Kind.TheVariants as kind
use Rattle.bv_rewrite.specs.declared.shape.Power.{Power}
use Rattle.bv_rewrite.specs.declared.shape.Power.TheVariants as by
use Rattle.bv_rewrite.specs.Shapes.{kind_shape, power_shape, given, or_else}
use Rattle.bv_rewrite.specs.Becoming.{value_shape, on_shape, twice_shape, beside_power, past_width, turned_shape, decided_shape, becomes}

module _ (nodes more : List Node) (terms : IsTermList nodes) where
  abbrev N : List Node
  N = nodes ++ more

  module _ (t : ℕ) (lt : t < length nodes) where
    same_on : (o : Operator) (f g : ℕ → ℕ → Option Shape) → ((x y : ℕ) → x < length nodes → y < length nodes → f x y ≡ g x y) → on_shape N o f t ≡ on_shape nodes o g t
    same_on o f g same =
        let a = arg_longer nodes more terms 0 t lt in
        let b = arg_longer nodes more terms 1 t lt in
        let first = (λ i. f (a i) (b i)) ∙ same (arg nodes 0 t) (arg nodes 1 t) (arg_held nodes more terms 0 t lt) (arg_held nodes more terms 1 t lt) in
        let second = (λ i. f (b i) (a i)) ∙ same (arg nodes 1 t) (arg nodes 0 t) (arg_held nodes more terms 1 t lt) (arg_held nodes more terms 0 t lt) in
        (λ i. given (is_longer nodes more terms o t lt i) (or_else (first i) (given (commutes o) (second i))))

    same_beside : (o : Operator) (z : Constant) (r : Kind) → on_shape N o (λ x c. given (is_constant z (op_at N c)) (Some (kind_shape r x))) t ≡ on_shape nodes o (λ x c. given (is_constant z (op_at nodes c)) (Some (kind_shape r x))) t
    same_beside o z r = same_on o (λ x c. given (is_constant z (op_at N c)) (Some (kind_shape r x))) (λ x c. given (is_constant z (op_at nodes c)) (Some (kind_shape r x))) (λ x c lx lc. ap (λ b. given b (Some (kind_shape r x))) (by_op nodes more terms (is_constant z) c lc))

    same_itself : (o : Operator) (r : Kind) → on_shape N o (λ x y. given (x == y) (Some (kind_shape r x))) t ≡ on_shape nodes o (λ x y. given (x == y) (Some (kind_shape r x))) t
    same_itself o r = same_on o (λ x y. given (x == y) (Some (kind_shape r x))) (λ x y. given (x == y) (Some (kind_shape r x))) (λ x y lx ly. refl)

    same_power : (o : Operator) (r : Power) → beside_power N o r t ≡ beside_power nodes o r t
    same_power o r =
        same_on o (λ x c. given (is_power (op_at N c)) (Some (power_shape r x (exponent_in (op_at N c))))) (λ x c. given (is_power (op_at nodes c)) (Some (power_shape r x (exponent_in (op_at nodes c)))))
        (λ x c lx lc. let e = op_longer nodes more terms c lc in (λ i. given (is_power (e i)) (Some (power_shape r x (exponent_in (e i))))))

    same_past : (o : Operator) → past_width N o t ≡ past_width nodes o t
    same_past o = same_on o (λ x c. given (is_past (op_at N c)) (Some (shape.Word 0))) (λ x c. given (is_past (op_at nodes c)) (Some (shape.Word 0))) (λ x c lx lc. ap (λ b. given b (Some (shape.Word 0))) (by_op nodes more terms is_past c lc))

    same_twice : (o : Operator) → twice_shape N o t ≡ twice_shape nodes o t
    same_twice o = λ i. given (is_longer nodes more terms o t lt i) (given (inner_is nodes more terms o 0 t lt i) (Some (shape.Term (inner_longer nodes more terms 0 0 t lt i))))

    same_turned : (o r : Operator) → turned_shape N o r t ≡ turned_shape nodes o r t
    same_turned o r = same_on o (λ x y. Some (shape.Two r y x)) (λ x y. Some (shape.Two r y x)) (λ x y lx ly. refl)

    same_decided : (o m d : Operator) (b : Bool) → on_shape N o (decided_shape N m d b) t ≡ on_shape nodes o (decided_shape nodes m d b) t
    same_decided o m d b =
        same_on o (decided_shape N m d b) (decided_shape nodes m d b)
        (λ p q lp lq. λ i. or_else (given ((p == q) || is_longer nodes more terms m q lq i) (Some (shape.Term p))) (given (is_longer nodes more terms d q lq i) (Some (shape.Truth b))))

    same_truth : (o : Operator) (b : Bool) (f g : ℕ → ℕ → Bool) → ((x y : ℕ) → x < length nodes → y < length nodes → f x y ≡ g x y) → on_shape N o (λ x y. given (f x y) (Some (shape.Truth b))) t ≡ on_shape nodes o (λ x y. given (g x y) (Some (shape.Truth b))) t
    same_truth o b f g h = same_on o (λ x y. given (f x y) (Some (shape.Truth b))) (λ x y. given (g x y) (Some (shape.Truth b))) (λ x y lx ly. ap (λ c. given c (Some (shape.Truth b))) (h x y lx ly))

    -- ---- arguments of arguments

    op : op_at N t ≡ op_at nodes t
    op = op_longer nodes more terms t lt

    first_op : op_at N (arg N 0 t) ≡ op_at nodes (arg nodes 0 t)
    first_op = inner_op nodes more terms 0 t lt

    first_width : width_at N (arg N 0 t) ≡ width_at nodes (arg nodes 0 t)
    first_width = ap (width_at N) (arg_longer nodes more terms 0 t lt) ∙ width_longer nodes more terms (arg nodes 0 t) (arg_held nodes more terms 0 t lt)

    same_joined : becomes N ExtractConcat t ≡ becomes nodes ExtractConcat t
    same_joined =
        let a = arg nodes 0 t in
        let la = arg_held nodes more terms 0 t lt in
        let w : width_at N (arg N 1 (arg N 0 t)) ≡ width_at nodes (arg nodes 1 a) = ap (width_at N) (inner_longer nodes more terms 1 0 t lt) ∙ width_longer nodes more terms (arg nodes 1 a) (arg_held nodes more terms 1 a la) in
        let x = inner_longer nodes more terms 0 0 t lt in
        let y = inner_longer nodes more terms 1 0 t lt in
        (λ i. given (is_extract (op i)) (given (inner_is nodes more terms plain.Concat 0 t lt i)
        (or_else (given (nat_lt (high_in (op i)) (w i)) (Some (shape.Bits (high_in (op i)) (low_in (op i)) (y i))))
        (given (nat_le (w i) (low_in (op i))) (Some (shape.Bits (high_in (op i) - w i) (low_in (op i) - w i) (x i)))))))

    same_choice : becomes N Choice t ≡ becomes nodes Choice t
    same_choice =
        let x = arg_longer nodes more terms 1 t lt in
        let y = arg_longer nodes more terms 2 t lt in
        (λ i. given (is_longer nodes more terms plain.Ite t lt i)
        (or_else (given (inner_is nodes more terms plain.True 0 t lt i) (Some (shape.Term (x i))))
        (or_else (given (inner_is nodes more terms plain.False 0 t lt i) (Some (shape.Term (y i)))) (given (x i == y i) (Some (shape.Term (x i)))))))

    same_read : becomes N SelectStore t ≡ becomes nodes SelectStore t
    same_read =
        let v = arg nodes 0 t in
        let lv = arg_held nodes more terms 0 t lt in
        let j = arg_longer nodes more terms 1 t lt in
        let a = inner_longer nodes more terms 0 0 t lt in
        let i = inner_longer nodes more terms 1 0 t lt in
        let x = inner_longer nodes more terms 2 0 t lt in
        let iop : op_at N (arg N 1 (arg N 0 t)) ≡ op_at nodes (arg nodes 1 v) = ap (op_at N) i ∙ op_longer nodes more terms (arg nodes 1 v) (arg_held nodes more terms 1 v lv) in
        let jop = inner_op nodes more terms 1 t lt in
        (λ z. given (is_longer nodes more terms plain.Select t lt z) (given (inner_is nodes more terms plain.Store 0 t lt z)
        (or_else (given (i z == j z) (Some (shape.Term (x z)))) (given (are_unequal (iop z) (jop z)) (Some (shape.Two plain.Select (a z) (j z)))))))

    same_fold : becomes N Fold t ≡ becomes nodes Fold t
    same_fold =
        let n = node_longer nodes more t lt in
        let args = (node_at nodes t).args in
        let early = (terms t lt).earlier in
        let all : list_all (λ a. is_literal (op_at N a)) (node_at N t).args ≡ list_all (λ a. is_literal (op_at nodes a)) args =
        ap (λ m. list_all (λ a. is_literal (op_at N a)) m.args) n ∙ literals_longer nodes more terms t t lt lt t args lt early in
        let values : map (literal_at N) (node_at N t).args ≡ map (literal_at nodes) args =
        ap (λ m. map (literal_at N) m.args) n ∙ values_longer nodes more terms t t lt lt t args lt early in
        (λ i. given (is_fixed (n i).op && (not (length (n i).args == 0) && all i)) (value_shape (op_value any_interpretation (n i).op (values i))))

    -- ---- the table

    same_shape : (rule : Rule) → becomes N rule t ≡ becomes nodes rule t
    same_shape BvnotTwice = same_twice plain.Bvnot
    same_shape BvnegTwice = same_twice plain.Bvneg
    same_shape AndSame = same_itself plain.Bvand kind.Same
    same_shape AndZero = same_beside plain.Bvand bits.Zero kind.Zero
    same_shape AndOnes = same_beside plain.Bvand bits.Ones kind.Same
    same_shape OrSame = same_itself plain.Bvor kind.Same
    same_shape OrZero = same_beside plain.Bvor bits.Zero kind.Same
    same_shape OrOnes = same_beside plain.Bvor bits.Ones kind.Ones
    same_shape XorSame = same_itself plain.Bvxor kind.Zero
    same_shape XorZero = same_beside plain.Bvxor bits.Zero kind.Same
    same_shape XorOnes = same_on plain.Bvxor (λ x c. given (is_constant bits.Ones (op_at N c)) (Some (shape.One plain.Bvnot x))) (λ x c. given (is_constant bits.Ones (op_at nodes c)) (Some (shape.One plain.Bvnot x))) (λ x c lx lc. ap (λ b. given b (Some (shape.One plain.Bvnot x))) (by_op nodes more terms (is_constant bits.Ones) c lc))
    same_shape AddZero = same_beside plain.Bvadd bits.Zero kind.Same
    same_shape AddOpposite = same_on plain.Bvadd (λ x y. given (of_term N plain.Bvneg x y) (Some (shape.Word 0))) (λ x y. given (of_term nodes plain.Bvneg x y) (Some (shape.Word 0))) (λ x y lx ly. ap (λ b. given b (Some (shape.Word 0))) (of_longer nodes more terms plain.Bvneg x y ly))
    same_shape Subtract = same_on plain.Bvsub (λ x y. Some (shape.WithNegated x y)) (λ x y. Some (shape.WithNegated x y)) (λ x y lx ly. refl)
    same_shape AddSame = same_itself plain.Bvadd kind.Doubled
    same_shape MultiplyZero = same_beside plain.Bvmul bits.Zero kind.Zero
    same_shape MultiplyOne = same_beside plain.Bvmul bits.One kind.Same
    same_shape MultiplyPower = same_power plain.Bvmul by.ShiftedLeft
    same_shape DivideOne = same_beside plain.Bvudiv bits.One kind.Same
    same_shape DivideZero = same_beside plain.Bvudiv bits.Zero kind.Ones
    same_shape DividePower = same_power plain.Bvudiv by.ShiftedRight
    same_shape RemainderZero = same_beside plain.Bvurem bits.Zero kind.Same
    same_shape RemainderOne = same_beside plain.Bvurem bits.One kind.Zero
    same_shape RemainderPower = same_power plain.Bvurem by.Masked
    same_shape ShiftZero = λ i. or_else (same_beside plain.Bvshl bits.Zero kind.Same i) (or_else (same_beside plain.Bvlshr bits.Zero kind.Same i) (same_beside plain.Bvashr bits.Zero kind.Same i))
    same_shape ShiftPast = λ i. or_else (same_past plain.Bvshl i) (same_past plain.Bvlshr i)
    same_shape ExtractAll =
        λ i. given (is_extract (op i)) (given (high_in (op i) + 1 == first_width i) (given (low_in (op i) == 0) (Some (shape.Term (arg_longer nodes more terms 0 t lt i)))))
    same_shape ExtractExtract =
        λ i. given (is_extract (op i)) (given (is_extract (first_op i)) (Some (shape.Bits (high_in (op i) + low_in (first_op i)) (low_in (op i) + low_in (first_op i)) (inner_longer nodes more terms 0 0 t lt i))))
    same_shape ExtractConcat = same_joined
    same_shape Idle = λ i. given (is_idle (first_width i) (op i)) (Some (shape.Term (arg_longer nodes more terms 0 t lt i)))
    same_shape Less = same_truth plain.Bvult Bool.false (λ x y. (x == y) || is_constant bits.Zero (op_at N y)) (λ x y. (x == y) || is_constant bits.Zero (op_at nodes y)) (λ x y lx ly. ap (λ b. (x == y) || b) (by_op nodes more terms (is_constant bits.Zero) y ly))
    same_shape AtMost = same_truth plain.Bvule Bool.true (λ x y. (x == y) || is_constant bits.Zero (op_at N x)) (λ x y. (x == y) || is_constant bits.Zero (op_at nodes x)) (λ x y lx ly. ap (λ b. (x == y) || b) (by_op nodes more terms (is_constant bits.Zero) x lx))
    same_shape Greater = λ i. or_else (same_turned plain.Bvugt plain.Bvult i) (or_else (same_turned plain.Bvuge plain.Bvule i) (or_else (same_turned plain.Bvsgt plain.Bvslt i) (same_turned plain.Bvsge plain.Bvsle i)))
    same_shape EqualSame = same_truth plain.Equal Bool.true (λ x y. x == y) (λ x y. x == y) (λ x y lx ly. refl)
    same_shape NotTwice = same_twice plain.Not
    same_shape Connective = λ i. or_else (same_decided plain.And plain.True plain.False Bool.false i) (same_decided plain.Or plain.False plain.True Bool.true i)
    same_shape Choice = same_choice
    same_shape SelectStore = same_read
    same_shape Fold = same_fold
    same_shape Inner = refl

  pub becomes_longer : (rule : Rule) (t : ℕ) → t < length nodes → becomes (nodes ++ more) rule t ≡ becomes nodes rule t
  becomes_longer rule t lt = same_shape t lt rule
