-- No rule brings an array, an equality of arrays or an index.
use Rattle.std.proofs.Common.{◌≡◌, ℕ, ◌+◌, ◌-◌, ◌^◌, ◌<◌, Bool, true, false, List, length, refl, ap, ◌∙◌, Option}
use Rattle.std.specs.Prelude.{◌==◌, ◌&&◌, ◌||◌, nat_lt, nat_le}
use Rattle.std.proofs.lemmas.Bool.{and_parts}
use Rattle.smt_terms.specs.declared.sort.Sort.{Sort}
use Rattle.smt_terms.specs.declared.sort.Sort.TheVariants as sort
use Rattle.smt_terms.specs.declared.operator.Operator.{Operator}
use Rattle.smt_terms.specs.declared.operator.Operator.TheVariants as plain
use Rattle.smt_terms.specs.declared.node.Op.{Op}
use Rattle.smt_terms.specs.declared.node.Op.TheVariants.{Plain, Word}
use Rattle.smt_terms.specs.declared.node.Node.{Node}
use Rattle.smt_terms.specs.Operators.{same_operator}
use Rattle.smt_terms.specs.Same.{same_op}
use Rattle.smt_terms.specs.Ranks.{operator_rank, is_array, is_plain}
use Rattle.smt_terms.specs.Terms.{sort_of, IsTermList, AreDifferent}
use Rattle.smt_terms.specs.Values.{same_value}
use Rattle.bv_rules.specs.declared.reading.Constant.{Constant}
use Rattle.bv_rules.specs.declared.reading.Constant.TheVariants.{Zero, One, Ones}
use Rattle.bv_rules.specs.declared.rule.Rule.{Rule}
use Rattle.bv_rules.specs.declared.rule.Rule.TheVariants.{BvnotTwice, BvnegTwice, AndSame, AndZero, AndOnes, OrSame, OrZero, OrOnes, XorSame, XorZero, XorOnes, AddZero, AddOpposite, Subtract, AddSame, MultiplyZero, MultiplyOne, MultiplyPower, DivideOne, DivideZero, DividePower, RemainderZero, RemainderOne, RemainderPower, ShiftZero, ShiftPast, ExtractAll, ExtractExtract, ExtractConcat, Idle, Less, AtMost, Greater, EqualSame, NotTwice, Connective, Choice, SelectStore, Fold, Inner}
use Rattle.bv_rules.specs.Reading.{is_constant, is_power, is_past, exponent_in, high_in, low_in, op_at, arg}
use Rattle.bv_rules.specs.Arguments.{is_literal, folded_value, literal_at, has_literals, folds}
use Rattle.bv_rules.specs.Matches.{matches, AreImages}
use Rattle.bv_rules.specs.Rules.{is, on, of_term, width_at, turned, takes}
use Rattle.bv_rules.proofs.Known.{or_cases, never}
use Rattle.bv_rules.proofs.Keeping.{matched}
use Rattle.array_images.specs.Brought.{IsBrought, AreBrought}
use Rattle.array_images.proofs.Ranked.{AtLeast}
use Rattle.array_images.proofs.Parts.{word_made, true_made, false_made}
use Rattle.array_images.proofs.Words.{twice, gives_term, gives_literal, gives_constant, on_gives, part, one_made, subtracted, doubled, by_number, turned_made, whole, inner_extract, concat_extract, idle, decided, chosen}
use Rattle.array_images.proofs.Inner.{read, inner}

module _ (nodes : List Node) (list : IsTermList nodes) (different : AreDifferent nodes) (image : ℕ → Option ℕ) (images : AreImages nodes image) (are : AreBrought nodes image)
    (t u : ℕ) (lt : t < length nodes) (lu : u < length nodes) (no : is_array (sort_of nodes u) ≡ false) where
  abbrev B : ℕ → Type 0
  B = IsBrought nodes image t

  falsity : is nodes plain.False u ≡ true → B u
  falsity e = false_made nodes list image t u lu e

  truths : is nodes plain.True u ≡ true → B u
  truths e = true_made nodes list image t u lu e

  shifted_none : takes nodes image ShiftZero t u ≡ true → B u
  shifted_none h =
      let q : ℕ → ℕ → Bool = λ x c. is_constant Zero (op_at nodes c) in
      let p : ℕ → ℕ → Bool = λ x c. is_constant Zero (op_at nodes c) && (u == x) in
      or_cases (on nodes plain.Bvshl p t) (on nodes plain.Bvlshr p t || on nodes plain.Bvashr p t) h
      (λ e. gives_term nodes list image t u lt lu no plain.Bvshl (λ r s. tt) q e)
      (λ e. or_cases (on nodes plain.Bvlshr p t) (on nodes plain.Bvashr p t) e
      (λ g. gives_term nodes list image t u lt lu no plain.Bvlshr (λ r s. tt) q g)
      (λ g. gives_term nodes list image t u lt lu no plain.Bvashr (λ r s. tt) q g))

  shifted_past : takes nodes image ShiftPast t u ≡ true → B u
  shifted_past h =
      let q : ℕ → ℕ → Bool = λ x c. is_past (op_at nodes c) in
      let p : ℕ → ℕ → Bool = λ x c. is_past (op_at nodes c) && is_constant Zero (op_at nodes u) in
      or_cases (on nodes plain.Bvshl p t) (on nodes plain.Bvlshr p t) h
      (λ e. gives_constant nodes list image t u lt lu no plain.Bvshl (λ r s. tt) q Zero e)
      (λ e. gives_constant nodes list image t u lt lu no plain.Bvlshr (λ r s. tt) q Zero e)

  greater : takes nodes image Greater t u ≡ true → B u
  greater h =
      let first = turned nodes plain.Bvugt plain.Bvult t u in
      let second = turned nodes plain.Bvuge plain.Bvule t u in
      let third = turned nodes plain.Bvsgt plain.Bvslt t u in
      let fourth = turned nodes plain.Bvsge plain.Bvsle t u in
      or_cases first (second || (third || fourth)) h
      (λ e. turned_made nodes list image t u lt lu no plain.Bvugt plain.Bvult (λ r s. tt) (λ args. refl) (λ r s. tt) e)
      (λ e. or_cases second (third || fourth) e
      (λ f. turned_made nodes list image t u lt lu no plain.Bvuge plain.Bvule (λ r s. tt) (λ args. refl) (λ r s. tt) f)
      (λ f. or_cases third fourth f
      (λ g. turned_made nodes list image t u lt lu no plain.Bvsgt plain.Bvslt (λ r s. tt) (λ args. refl) (λ r s. tt) g)
      (λ g. turned_made nodes list image t u lt lu no plain.Bvsge plain.Bvsle (λ r s. tt) (λ args. refl) (λ r s. tt) g)))

  connective : takes nodes image Connective t u ≡ true → B u
  connective h =
      or_cases
      (on nodes plain.And (λ p q. (((p == q) || is nodes plain.True q) && (u == p)) || (is nodes plain.False q && is nodes plain.False u)) t)
      (on nodes plain.Or (λ p q. (((p == q) || is nodes plain.False q) && (u == p)) || (is nodes plain.True q && is nodes plain.True u)) t) h
      (λ e. decided nodes list image t u lt lu no plain.And (λ r s. tt) (λ p q. (p == q) || is nodes plain.True q) (is nodes plain.False) (is nodes plain.False u) falsity e)
      (λ e. decided nodes list image t u lt lu no plain.Or (λ r s. tt) (λ p q. (p == q) || is nodes plain.False q) (is nodes plain.True) (is nodes plain.True u) truths e)

  -- a literal brings nothing
  literal : (o : Op) → op_at nodes u ≡ o → is_literal o ≡ true → B u
  literal (Word n x) e h = word_made nodes list image t u n x lu e
  literal (Plain o) e h = or_cases (same_operator o plain.True) (same_operator o plain.False) h
      (λ g. truths (ap (λ p. same_op p (Plain plain.True)) e ∙ g))
      (λ g. falsity (ap (λ p. same_op p (Plain plain.False)) e ∙ g))
  literal _ e h = let q : ⊥ = cc in absurd q

  folded : folds nodes t u ≡ true → B u
  folded h =
      let same = same_value (folded_value nodes t) (literal_at nodes u) in
      let p = and_parts (has_literals nodes t) (is_literal (op_at nodes u) && same) h in
      literal (op_at nodes u) refl (and_parts (is_literal (op_at nodes u)) same p.1).0

  -- two arguments of this operator give one of them, or this literal
  term_of_two : (o : Operator) → AtLeast 2 (operator_rank o) → (q : ℕ → ℕ → Bool) → on nodes o (λ x y. q x y && (u == x)) t ≡ true → B u
  term_of_two o two q h = gives_term nodes list image t u lt lu no o two q h

  word_of_two : (o : Operator) → AtLeast 2 (operator_rank o) → (q : ℕ → ℕ → Bool) (z : Constant) → on nodes o (λ x y. q x y && is_constant z (op_at nodes u)) t ≡ true → B u
  word_of_two o two q z h = gives_constant nodes list image t u lt lu no o two q z h

  negation : takes nodes image XorOnes t u ≡ true → B u
  negation h =
      let q : ℕ → ℕ → Bool = λ x c. is_constant Ones (op_at nodes c) && of_term nodes plain.Bvnot x u in
      on_gives nodes list image t u lt lu no plain.Bvxor (λ r s. tt) q h
      (λ x c a b e. one_made nodes list image t u lt lu no plain.Bvnot (λ args. refl) (λ r. tt) x (part nodes list image t u lt lu no x a) (and_parts (is_constant Ones (op_at nodes c)) (of_term nodes plain.Bvnot x u) e).1)

  abbrev by_zero : ℕ → ℕ → Bool
  by_zero x c = is_constant Zero (op_at nodes c)

  abbrev by_one : ℕ → ℕ → Bool
  by_one x c = is_constant One (op_at nodes c)

  abbrev by_ones : ℕ → ℕ → Bool
  by_ones x c = is_constant Ones (op_at nodes c)

  abbrev by_same : ℕ → ℕ → Bool
  by_same x y = x == y

  abbrev power : ℕ → Bool
  power c = is_power (op_at nodes c)

  pub takes_brings : (rule : Rule) → takes nodes image rule t u ≡ true → B u
  takes_brings BvnotTwice h = twice nodes list image t u lt lu no plain.Bvnot (λ s. tt) h
  takes_brings BvnegTwice h = twice nodes list image t u lt lu no plain.Bvneg (λ s. tt) h
  takes_brings AndSame h = term_of_two plain.Bvand (λ r s. tt) by_same h
  takes_brings AndZero h = word_of_two plain.Bvand (λ r s. tt) by_zero Zero h
  takes_brings AndOnes h = term_of_two plain.Bvand (λ r s. tt) by_ones h
  takes_brings OrSame h = term_of_two plain.Bvor (λ r s. tt) by_same h
  takes_brings OrZero h = term_of_two plain.Bvor (λ r s. tt) by_zero h
  takes_brings OrOnes h = word_of_two plain.Bvor (λ r s. tt) by_ones Ones h
  takes_brings XorSame h = word_of_two plain.Bvxor (λ r s. tt) by_same Zero h
  takes_brings XorZero h = term_of_two plain.Bvxor (λ r s. tt) by_zero h
  takes_brings XorOnes h = negation h
  takes_brings AddZero h = term_of_two plain.Bvadd (λ r s. tt) by_zero h
  takes_brings AddOpposite h = word_of_two plain.Bvadd (λ r s. tt) (of_term nodes plain.Bvneg) Zero h
  takes_brings Subtract h = subtracted nodes list image t u lt lu no h
  takes_brings AddSame h = doubled nodes list image t u lt lu no h
  takes_brings MultiplyZero h = word_of_two plain.Bvmul (λ r s. tt) by_zero Zero h
  takes_brings MultiplyOne h = term_of_two plain.Bvmul (λ r s. tt) by_one h
  takes_brings MultiplyPower h = by_number nodes list image t u lt lu no plain.Bvmul (λ r s. tt) plain.Bvshl (λ args. refl) (λ r s. tt) (λ r s. tt) power (λ c. exponent_in (op_at nodes c)) h
  takes_brings DivideOne h = term_of_two plain.Bvudiv (λ r s. tt) by_one h
  takes_brings DivideZero h = word_of_two plain.Bvudiv (λ r s. tt) by_zero Ones h
  takes_brings DividePower h = by_number nodes list image t u lt lu no plain.Bvudiv (λ r s. tt) plain.Bvlshr (λ args. refl) (λ r s. tt) (λ r s. tt) power (λ c. exponent_in (op_at nodes c)) h
  takes_brings RemainderZero h = term_of_two plain.Bvurem (λ r s. tt) by_zero h
  takes_brings RemainderOne h = word_of_two plain.Bvurem (λ r s. tt) by_one Zero h
  takes_brings RemainderPower h = by_number nodes list image t u lt lu no plain.Bvurem (λ r s. tt) plain.Bvand (λ args. refl) (λ r s. tt) (λ r s. tt) power (λ c. 2 ^ exponent_in (op_at nodes c) - 1) h
  takes_brings ShiftZero h = shifted_none h
  takes_brings ShiftPast h = shifted_past h
  takes_brings ExtractAll h = whole nodes list image t u lt lu no h
  takes_brings ExtractExtract h = inner_extract nodes list image t u lt lu no (high_in (op_at nodes t) + low_in (op_at nodes (arg nodes 0 t))) (low_in (op_at nodes t) + low_in (op_at nodes (arg nodes 0 t))) h
  takes_brings ExtractConcat h =
      let i = high_in (op_at nodes t) in
      let j = low_in (op_at nodes t) in
      let m = width_at nodes (arg nodes 1 (arg nodes 0 t)) in
      concat_extract nodes list image t u lt lu no (nat_lt i m) (nat_le m j) i j (i - m) (j - m) h
  takes_brings Idle h = idle nodes list image t u lt lu no (width_at nodes (arg nodes 0 t)) h
  takes_brings Less h = gives_literal nodes list image t u lt lu no plain.Bvult (λ r s. tt) (λ x y. (x == y) || is_constant Zero (op_at nodes y)) (is nodes plain.False u) falsity h
  takes_brings AtMost h = gives_literal nodes list image t u lt lu no plain.Bvule (λ r s. tt) (λ x y. (x == y) || is_constant Zero (op_at nodes x)) (is nodes plain.True u) truths h
  takes_brings Greater h = greater h
  takes_brings EqualSame h = gives_literal nodes list image t u lt lu no plain.Equal (λ r s. tt) by_same (is nodes plain.True u) truths h
  takes_brings NotTwice h = twice nodes list image t u lt lu no plain.Not (λ s. tt) h
  takes_brings Connective h = connective h
  takes_brings Choice h = chosen nodes list image t u lt lu no (is nodes plain.True (arg nodes 0 t)) (is nodes plain.False (arg nodes 0 t)) (arg nodes 1 t == arg nodes 2 t) h
  takes_brings SelectStore h = read nodes list different image images are t u lt lu no h
  takes_brings Fold h = folded h
  takes_brings Inner h = inner nodes list different image images are t u lt lu no h

plain_no_array : (s : Sort) → is_plain s ≡ true → is_array s ≡ false
plain_no_array sort.Bool e = refl
plain_no_array (sort.Word n) e = refl
plain_no_array (sort.Array n m) e = never e

pub rules_bring_no_arrays : (nodes : List Node) (images : ℕ → Option ℕ) (rule : Rule) (t u : ℕ) → IsTermList nodes → AreDifferent nodes → AreImages nodes images → AreBrought nodes images → matches nodes images rule t u ≡ true → IsBrought nodes images t u
rules_bring_no_arrays nodes images rule t u list different good are h =
    let m = matched nodes images rule t u h in
    takes_brings nodes list different images good are t u m.from m.to (plain_no_array (sort_of nodes u) (ap is_plain m.sort ∙ m.plain)) rule m.takes
