-- What a term becomes by each rule but that on its arguments, with one line a rule, as in the table of rules.
use Rattle.std.specs.Prelude.{◌≡◌, ◌<◌, ℕ, ◌-◌, ◌+◌, ◌==◌, nat_lt, nat_le, Bool, ◌||◌, List, Option, Some, None}
use Rattle.smt_terms.specs.declared.operator.Operator.{Operator}
use Rattle.smt_terms.specs.declared.operator.Operator.TheVariants as plain
use Rattle.smt_terms.specs.declared.node.Node.{Node}
use Rattle.smt_terms.specs.Values.{Value, VBool, VWord, VArray}
use Rattle.bv_rules.specs.declared.rule.Rule.{Rule}
use Rattle.bv_rules.specs.declared.rule.Rule.TheVariants.{BvnotTwice, BvnegTwice, AndSame, AndZero, AndOnes, OrSame, OrZero, OrOnes, XorSame, XorZero, XorOnes, AddZero, AddOpposite, Subtract, AddSame, MultiplyZero, MultiplyOne, MultiplyPower, DivideOne, DivideZero, DividePower, RemainderZero, RemainderOne, RemainderPower, ShiftZero, ShiftPast, ExtractAll, ExtractExtract, ExtractConcat, Idle, Less, AtMost, Greater, EqualSame, NotTwice, Connective, Choice, SelectStore, Fold, Inner}
use Rattle.bv_rules.specs.Numbers.{number_of}
use Rattle.bv_rules.specs.Reading.{commutes, is_idle}
use Rattle.bv_rules.specs.Arguments.{has_literals, folded_value}
use Rattle.bv_rules.specs.Rules.{op, first, second, third, width_at, is, of_term, zero, one, ones, power, exponent, past, unequal, extraction, high, low}
use Rattle.bv_rewrite.specs.declared.finding.Found.{Found}
use Rattle.bv_rewrite.specs.declared.shape.Shape.{Shape}
use Rattle.bv_rewrite.specs.declared.shape.Shape.TheVariants.{Term, Truth, Word, One, Two, WithNegated, Bits}
use Rattle.bv_rewrite.specs.declared.shape.Kind.{Kind}
use Rattle.bv_rewrite.specs.declared.shape.Kind.TheVariants as kind
use Rattle.bv_rewrite.specs.declared.shape.Power.{Power}
use Rattle.bv_rewrite.specs.declared.shape.Power.TheVariants as by
use Rattle.bv_rewrite.specs.Shapes.{kind_shape, power_shape, given, or_else}

-- a truth value or a word
abbrev pub value_shape : Value → Option Shape
value_shape (VBool b) = Some (Truth b)
value_shape (VWord n x) = Some (Word x)
value_shape (VArray n m a) = None

module _ (nodes : List Node) where
  -- what the two arguments of this operator make, in either order where it commutes
  abbrev pub on_shape : Operator → (ℕ → ℕ → Option Shape) → ℕ → Option Shape
  on_shape o f t =
      given (is nodes o t) (or_else (f (first nodes t) (second nodes t)) (given (commutes o) (f (second nodes t) (first nodes t))))

  -- the operator twice
  abbrev pub twice_shape : Operator → ℕ → Option Shape
  twice_shape o t = given (is nodes o t) (given (is nodes o (first nodes t)) (Some (Term (first nodes (first nodes t)))))

  -- beside a word of one kind, beside itself, beside a power of two
  abbrev pub beside_zero : Operator → Kind → ℕ → Option Shape
  beside_zero o r t = on_shape o (λ x c. given (zero nodes c) (Some (kind_shape r x))) t

  abbrev pub beside_one : Operator → Kind → ℕ → Option Shape
  beside_one o r t = on_shape o (λ x c. given (one nodes c) (Some (kind_shape r x))) t

  abbrev pub beside_ones : Operator → Kind → ℕ → Option Shape
  beside_ones o r t = on_shape o (λ x c. given (ones nodes c) (Some (kind_shape r x))) t

  abbrev pub beside_itself : Operator → Kind → ℕ → Option Shape
  beside_itself o r t = on_shape o (λ x y. given (x == y) (Some (kind_shape r x))) t

  abbrev pub beside_power : Operator → Power → ℕ → Option Shape
  beside_power o r t = on_shape o (λ x c. given (power nodes c) (Some (power_shape r x (exponent nodes c)))) t

  abbrev pub past_width : Operator → ℕ → Option Shape
  past_width o t = on_shape o (λ x c. given (past nodes c) (Some (Word 0))) t

  abbrev pub turned_shape : Operator → Operator → ℕ → Option Shape
  turned_shape o r t = on_shape o (λ x y. Some (Two r y x)) t

  abbrev pub decided_shape : Operator → Operator → Bool → ℕ → ℕ → Option Shape
  decided_shape neutral deciding b p q = or_else (given ((p == q) || is nodes neutral q) (Some (Term p))) (given (is nodes deciding q) (Some (Truth b)))

  abbrev pub part_shape : ℕ → ℕ → ℕ → ℕ → Option Shape
  part_shape i j m a = or_else (given (nat_lt i m) (Some (Bits i j (second nodes a)))) (given (nat_le m j) (Some (Bits (i - m) (j - m) (first nodes a))))

  abbrev pub read_shape : ℕ → ℕ → Option Shape
  read_shape s j = or_else (given (second nodes s == j) (Some (Term (third nodes s)))) (given (unequal nodes (second nodes s) j) (Some (Two plain.Select (first nodes s) j)))

  abbrev pub becomes : Rule → ℕ → Option Shape
  becomes BvnotTwice t = twice_shape plain.Bvnot t
  becomes BvnegTwice t = twice_shape plain.Bvneg t
  becomes AndSame t = beside_itself plain.Bvand kind.Same t
  becomes AndZero t = beside_zero plain.Bvand kind.Zero t
  becomes AndOnes t = beside_ones plain.Bvand kind.Same t
  becomes OrSame t = beside_itself plain.Bvor kind.Same t
  becomes OrZero t = beside_zero plain.Bvor kind.Same t
  becomes OrOnes t = beside_ones plain.Bvor kind.Ones t
  becomes XorSame t = beside_itself plain.Bvxor kind.Zero t
  becomes XorZero t = beside_zero plain.Bvxor kind.Same t
  becomes XorOnes t = on_shape plain.Bvxor (λ x c. given (ones nodes c) (Some (One plain.Bvnot x))) t
  becomes AddZero t = beside_zero plain.Bvadd kind.Same t
  becomes AddOpposite t = on_shape plain.Bvadd (λ x y. given (of_term nodes plain.Bvneg x y) (Some (Word 0))) t
  becomes Subtract t = on_shape plain.Bvsub (λ x y. Some (WithNegated x y)) t
  becomes AddSame t = beside_itself plain.Bvadd kind.Doubled t
  becomes MultiplyZero t = beside_zero plain.Bvmul kind.Zero t
  becomes MultiplyOne t = beside_one plain.Bvmul kind.Same t
  becomes MultiplyPower t = beside_power plain.Bvmul by.ShiftedLeft t
  becomes DivideOne t = beside_one plain.Bvudiv kind.Same t
  becomes DivideZero t = beside_zero plain.Bvudiv kind.Ones t
  becomes DividePower t = beside_power plain.Bvudiv by.ShiftedRight t
  becomes RemainderZero t = beside_zero plain.Bvurem kind.Same t
  becomes RemainderOne t = beside_one plain.Bvurem kind.Zero t
  becomes RemainderPower t = beside_power plain.Bvurem by.Masked t
  becomes ShiftZero t = or_else (beside_zero plain.Bvshl kind.Same t) (or_else (beside_zero plain.Bvlshr kind.Same t) (beside_zero plain.Bvashr kind.Same t))
  becomes ShiftPast t = or_else (past_width plain.Bvshl t) (past_width plain.Bvlshr t)
  becomes ExtractAll t =
      given (extraction nodes t) (given (high nodes t + 1 == width_at nodes (first nodes t)) (given (low nodes t == 0) (Some (Term (first nodes t)))))
  becomes ExtractExtract t =
      let a = first nodes t in
      given (extraction nodes t) (given (extraction nodes a) (Some (Bits (high nodes t + low nodes a) (low nodes t + low nodes a) (first nodes a))))
  becomes ExtractConcat t =
      let a = first nodes t in
      given (extraction nodes t) (given (is nodes plain.Concat a) (part_shape (high nodes t) (low nodes t) (width_at nodes (second nodes a)) a))
  becomes Idle t = given (is_idle (width_at nodes (first nodes t)) (op nodes t)) (Some (Term (first nodes t)))
  becomes Less t = on_shape plain.Bvult (λ x y. given ((x == y) || zero nodes y) (Some (Truth Bool.false))) t
  becomes AtMost t = on_shape plain.Bvule (λ x y. given ((x == y) || zero nodes x) (Some (Truth Bool.true))) t
  becomes Greater t =
      or_else (turned_shape plain.Bvugt plain.Bvult t) (or_else (turned_shape plain.Bvuge plain.Bvule t)
      (or_else (turned_shape plain.Bvsgt plain.Bvslt t) (turned_shape plain.Bvsge plain.Bvsle t)))
  becomes EqualSame t = on_shape plain.Equal (λ x y. given (x == y) (Some (Truth Bool.true))) t
  becomes NotTwice t = twice_shape plain.Not t
  becomes Connective t =
      or_else (on_shape plain.And (decided_shape plain.True plain.False Bool.false) t) (on_shape plain.Or (decided_shape plain.False plain.True Bool.true) t)
  becomes Choice t =
      let c = first nodes t in
      let x = second nodes t in
      let y = third nodes t in
      given (is nodes plain.Ite t) (or_else (given (is nodes plain.True c) (Some (Term x))) (or_else (given (is nodes plain.False c) (Some (Term y))) (given (x == y) (Some (Term x)))))
  becomes SelectStore t = given (is nodes plain.Select t) (given (is nodes plain.Store (first nodes t)) (read_shape (first nodes t) (second nodes t)))
  becomes Fold t = given (has_literals nodes t) (value_shape (folded_value nodes t))
  becomes Inner t = None

-- the first rule by number that applies, and what the term becomes
pub record IsFirst (nodes : List Node) (t : ℕ) (f : Found) : Type 0 where
  pub shape : becomes nodes f.rule t ≡ Some f.shape
  pub earlier : (rule : Rule) → number_of rule < number_of f.rule → becomes nodes rule t ≡ None
