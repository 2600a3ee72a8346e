-- The table of rules: which term t becomes which term u. Both are of one sort (`matches`), so that a word's width is
-- that of t where u is the word, and that of the other argument where it is one.
use Rattle.std.specs.Prelude.{ℕ, ◌-◌, ◌+◌, ◌^◌, ◌==◌, nat_lt, nat_le, Bool, ◌&&◌, ◌||◌, List, Option, None}
use Rattle.smt_terms.specs.declared.operator.Operator.{Operator}
use Rattle.smt_terms.specs.declared.operator.Operator.TheVariants.{True, False, Not, And, Or, Ite, Equal, Bvnot, Bvneg, Bvand, Bvor, Bvxor, Bvadd, Bvsub, Bvmul, Bvudiv, Bvurem, Bvshl, Bvlshr, Bvashr, Bvult, Bvule, Bvugt, Bvuge, Bvslt, Bvsle, Bvsgt, Bvsge, Concat, Select, Store}
use Rattle.smt_terms.specs.declared.node.Op.{Op}
use Rattle.smt_terms.specs.declared.node.Op.TheVariants.{Plain, Extract}
use Rattle.smt_terms.specs.declared.node.Node.{Node}
use Rattle.smt_terms.specs.Same.{same_op}
use Rattle.smt_terms.specs.Ranks.{width_of}
use Rattle.smt_terms.specs.Terms.{sort_of}
use Rattle.bv_rules.specs.declared.reading.Constant.{Constant}
use Rattle.bv_rules.specs.declared.reading.Constant.TheVariants.{Zero, One, Ones}
use Rattle.bv_rules.specs.declared.rule.Rule.{Rule}
use Rattle.bv_rules.specs.declared.rule.Rule.TheVariants.{BvnotTwice, BvnegTwice, AndSame, AndZero, AndOnes, OrSame, OrZero, OrOnes, XorSame, XorZero, XorOnes, AddZero, AddOpposite, Subtract, AddSame, MultiplyZero, MultiplyOne, MultiplyPower, DivideOne, DivideZero, DividePower, RemainderZero, RemainderOne, RemainderPower, ShiftZero, ShiftPast, ExtractAll, ExtractExtract, ExtractConcat, Idle, Less, AtMost, Greater, EqualSame, NotTwice, Connective, Choice, SelectStore, Fold, Inner}
use Rattle.bv_rules.specs.Arguments.{folds, has_reached}
use Rattle.bv_rules.specs.Reading.{commutes, is_number, is_constant, exponent_in, is_power, is_past, are_unequal, is_extract, high_in, low_in, is_idle, op_at, arg}

-- no term has an image
abbrev pub no_images : ℕ → Option ℕ
no_images t = None

module _ (nodes : List Node) where
  -- ---- what a rule sees of a term

  abbrev pub op : ℕ → Op
  op t = op_at nodes t

  abbrev pub first : ℕ → ℕ
  first t = arg nodes 0 t

  abbrev pub second : ℕ → ℕ
  second t = arg nodes 1 t

  abbrev pub third : ℕ → ℕ
  third t = arg nodes 2 t

  abbrev pub width_at : ℕ → ℕ
  width_at t = width_of (sort_of nodes t)

  -- the term has this operator
  abbrev pub is : Operator → ℕ → Bool
  is o t = same_op (op t) (Plain o)

  -- the term has this operator, and of its two arguments this holds, in either order where the operator commutes
  abbrev pub on : Operator → (ℕ → ℕ → Bool) → ℕ → Bool
  on o p t = is o t && (p (first t) (second t) || (commutes o && p (second t) (first t)))

  -- the operator on x and a term of which this holds
  abbrev pub with_term : Operator → ℕ → (ℕ → Bool) → ℕ → Bool
  with_term o x p t = on o (λ y z. (y == x) && p z) t

  -- the operator on x
  abbrev pub of_term : Operator → ℕ → ℕ → Bool
  of_term o x t = is o t && (first t == x)

  -- the operator on x and y, in this order
  abbrev pub of_terms : Operator → ℕ → ℕ → ℕ → Bool
  of_terms o x y t = is o t && ((first t == x) && (second t == y))

  -- the operator on a term that has the operator itself, whose argument is x
  abbrev pub twice : Operator → ℕ → ℕ → Bool
  twice o x t = is o t && (is o (first t) && (x == first (first t)))

  -- the word k, 0, 1, or of ones alone
  abbrev pub number : ℕ → ℕ → Bool
  number k t = is_number k (op t)

  abbrev pub constant : Constant → ℕ → Bool
  constant z t = is_constant z (op t)

  abbrev pub zero : ℕ → Bool
  zero t = constant Zero t

  abbrev pub one : ℕ → Bool
  one t = constant One t

  abbrev pub ones : ℕ → Bool
  ones t = constant Ones t

  -- a word 2 ^ k, and its k
  abbrev pub power : ℕ → Bool
  power t = is_power (op t)

  abbrev pub exponent : ℕ → ℕ
  exponent t = exponent_in (op t)

  -- a word that is its width or more
  abbrev pub past : ℕ → Bool
  past t = is_past (op t)

  -- words of different numbers
  abbrev pub unequal : ℕ → ℕ → Bool
  unequal t u = are_unequal (op t) (op u)

  -- an extraction, and its places
  abbrev pub extraction : ℕ → Bool
  extraction t = is_extract (op t)

  abbrev pub high : ℕ → ℕ
  high t = high_in (op t)

  abbrev pub low : ℕ → ℕ
  low t = low_in (op t)

  -- the bits from j to i of x
  abbrev pub extracts : ℕ → ℕ → ℕ → ℕ → Bool
  extracts i j x t = same_op (op t) (Extract i j) && (first t == x)

  -- a power of two, and a term that is this operator on x and the exponent
  abbrev pub by_exponent : Operator → ℕ → ℕ → ℕ → Bool
  by_exponent o u x c = power c && with_term o x (number (exponent c)) u

  -- the same of the word of ones below the power
  abbrev pub by_mask : ℕ → ℕ → ℕ → Bool
  by_mask u x c = power c && with_term Bvand x (number (2 ^ exponent c - 1)) u

  -- ---- lines with several cases

  -- a truth value that is the other or changes nothing gives the other, and one that decides gives itself
  abbrev pub decides : Operator → Operator → ℕ → ℕ → ℕ → Bool
  decides neutral deciding u p q = (((p == q) || is neutral q) && (u == p)) || (is deciding q && is deciding u)

  -- an operator on two terms becomes another on the same terms, turned
  abbrev pub turned : Operator → Operator → ℕ → ℕ → Bool
  turned o r t u = on o (λ x y. of_terms r y x u) t

  -- an extraction of a concatenation, whose low part has m bits, is one of a part
  abbrev pub extracts_part : ℕ → ℕ → ℕ → ℕ → ℕ → Bool
  extracts_part i j m a u =
      (nat_lt i m && extracts i j (second a) u) || (nat_le m j && extracts (i - m) (j - m) (first a) u)

  -- what is stored at an index is read at it, or what was there before at another
  abbrev pub reads : ℕ → ℕ → ℕ → Bool
  reads s j u =
      ((second s == j) && (u == third s))
      || (unequal (second s) j && of_terms Select (first s) j u)

  -- by this rule, over these images, t becomes u
  abbrev pub takes : (ℕ → Option ℕ) → Rule → ℕ → ℕ → Bool
  takes images BvnotTwice t u = twice Bvnot u t
  takes images BvnegTwice t u = twice Bvneg u t
  takes images AndSame t u = on Bvand (λ x y. (x == y) && (u == x)) t
  takes images AndZero t u = on Bvand (λ x c. zero c && zero u) t
  takes images AndOnes t u = on Bvand (λ x c. ones c && (u == x)) t
  takes images OrSame t u = on Bvor (λ x y. (x == y) && (u == x)) t
  takes images OrZero t u = on Bvor (λ x c. zero c && (u == x)) t
  takes images OrOnes t u = on Bvor (λ x c. ones c && ones u) t
  takes images XorSame t u = on Bvxor (λ x y. (x == y) && zero u) t
  takes images XorZero t u = on Bvxor (λ x c. zero c && (u == x)) t
  takes images XorOnes t u = on Bvxor (λ x c. ones c && of_term Bvnot x u) t
  takes images AddZero t u = on Bvadd (λ x c. zero c && (u == x)) t
  takes images AddOpposite t u = on Bvadd (λ x y. of_term Bvneg x y && zero u) t
  takes images Subtract t u = on Bvsub (λ x y. with_term Bvadd x (of_term Bvneg y) u) t
  takes images AddSame t u = on Bvadd (λ x y. (x == y) && with_term Bvshl x one u) t
  takes images MultiplyZero t u = on Bvmul (λ x c. zero c && zero u) t
  takes images MultiplyOne t u = on Bvmul (λ x c. one c && (u == x)) t
  takes images MultiplyPower t u = on Bvmul (by_exponent Bvshl u) t
  takes images DivideOne t u = on Bvudiv (λ x c. one c && (u == x)) t
  takes images DivideZero t u = on Bvudiv (λ x c. zero c && ones u) t
  takes images DividePower t u = on Bvudiv (by_exponent Bvlshr u) t
  takes images RemainderZero t u = on Bvurem (λ x c. zero c && (u == x)) t
  takes images RemainderOne t u = on Bvurem (λ x c. one c && zero u) t
  takes images RemainderPower t u = on Bvurem (by_mask u) t
  takes images ShiftZero t u =
      let same : ℕ → ℕ → Bool = λ x c. zero c && (u == x) in
      on Bvshl same t || (on Bvlshr same t || on Bvashr same t)
  takes images ShiftPast t u =
      let nothing : ℕ → ℕ → Bool = λ x c. past c && zero u in
      on Bvshl nothing t || on Bvlshr nothing t
  takes images ExtractAll t u =
      let x = first t in
      extraction t && ((high t + 1 == width_at x) && ((low t == 0) && (u == x)))
  takes images ExtractExtract t u =
      let a = first t in
      extraction t && (extraction a && extracts (high t + low a) (low t + low a) (first a) u)
  takes images ExtractConcat t u =
      let a = first t in
      extraction t && (is Concat a && extracts_part (high t) (low t) (width_at (second a)) a u)
  takes images Idle t u = is_idle (width_at (first t)) (op t) && (u == first t)
  takes images Less t u = on Bvult (λ x y. ((x == y) || zero y) && is False u) t
  takes images AtMost t u = on Bvule (λ x y. ((x == y) || zero x) && is True u) t
  takes images Greater t u = turned Bvugt Bvult t u || (turned Bvuge Bvule t u || (turned Bvsgt Bvslt t u || turned Bvsge Bvsle t u))
  takes images EqualSame t u = on Equal (λ x y. (x == y) && is True u) t
  takes images NotTwice t u = twice Not u t
  takes images Connective t u = on And (decides True False u) t || on Or (decides False True u) t
  takes images Choice t u =
      let c = first t in
      let x = second t in
      let y = third t in
      is Ite t && ((is True c && (u == x)) || ((is False c && (u == y)) || ((x == y) && (u == x))))
  takes images SelectStore t u = is Select t && (is Store (first t) && reads (first t) (second t) u)
  takes images Fold t u = folds nodes t u
  takes images Inner t u = has_reached nodes images t u
