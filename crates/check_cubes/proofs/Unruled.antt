-- No rule takes a declared name to another term.
use Rattle.std.proofs.Common.{◌≡◌, ℕ, ◌<◌, Bool, true, false, List, [], ◌∷◌, length, map, Option, Ok, refl, sym, ap, ◌∙◌, subst}
use Rattle.std.specs.Prelude.{◌&&◌, ◌||◌, ◌==◌, is_some}
use Rattle.std.proofs.lemmas.Bool.{and_parts}
use Rattle.smt_terms.specs.declared.sort.Sort.{Sort}
use Rattle.smt_terms.specs.declared.operator.Operator.{Operator}
use Rattle.smt_terms.specs.declared.operator.Operator.TheVariants as plain
use Rattle.smt_terms.specs.declared.node.Op.{Op}
use Rattle.smt_terms.specs.declared.node.Op.TheVariants.{Plain, Word, Extract, ZeroExtend, SignExtend, RotateLeft, RotateRight, Repeat, ConstantArray, Constant, Apply, Param}
use Rattle.smt_terms.specs.declared.node.Node.{Node}
use Rattle.smt_terms.specs.Nodes.{node_at}
use Rattle.smt_terms.specs.Same.{same_op, op_same}
use Rattle.smt_terms.specs.Scalars.{is_fixed}
use Rattle.smt_terms.specs.Terms.{sort_of, op_rank, IsTermList, AreDifferent}
use Rattle.bv_rules.specs.declared.rule.Rule.{Rule}
use Rattle.bv_rules.specs.declared.rule.Rule.TheVariants.{BvnotTwice, BvnegTwice, AndSame, AndZero, AndOnes, OrSame, OrZero, OrOnes, XorSame, XorZero, XorOnes, AddZero, AddOpposite, Subtract, AddSame, MultiplyZero, MultiplyOne, MultiplyPower, DivideOne, DivideZero, DividePower, RemainderZero, RemainderOne, RemainderPower, ShiftZero, ShiftPast, ExtractAll, ExtractExtract, ExtractConcat, Idle, Less, AtMost, Greater, EqualSame, NotTwice, Connective, Choice, SelectStore, Fold, Inner}
use Rattle.bv_rules.specs.declared.reading.Constant.TheVariants.{Zero}
use Rattle.bv_rules.specs.Reading.{op_at, is_constant, is_past, is_extract, is_idle}
use Rattle.bv_rules.specs.Rules.{on, decides, turned, takes}
use Rattle.bv_rules.specs.Matches.{matches}
use Rattle.bv_rules.proofs.Known.{or_cases, never}
use Rattle.bv_rules.proofs.Keeping.{matched}
use Rattle.proof_log.specs.Logs.{constant_width}

-- a declared constant has no arguments
no_arguments : (d : ℕ) (q : Sort) (s : ℕ → Sort) (args : List ℕ) (r : Sort) → op_rank (Constant d q) (map s args) ≡ Ok r → args ≡ []
no_arguments d q s [] r e = refl
no_arguments d q s (a ∷ args) r e = let f : ⊥ = cc in absurd f

-- the operator of a declared Bool or word is one of a constant
constant_op : (o : Op) → is_some (constant_width o) ≡ true → (d : ℕ) × (s : Sort) × (o ≡ Constant d s)
constant_op (Plain p) e = never e
constant_op (Word n x) e = never e
constant_op (Extract i j) e = never e
constant_op (ZeroExtend i) e = never e
constant_op (SignExtend i) e = never e
constant_op (RotateLeft i) e = never e
constant_op (RotateRight i) e = never e
constant_op (Repeat i) e = never e
constant_op (ConstantArray k) e = never e
constant_op (Constant d s) e = (d, s, refl)
constant_op (Apply d s) e = never e
constant_op (Param k s) e = never e

module _ (nodes : List Node) (images : ℕ → Option ℕ) (t u d : ℕ) (s : Sort) (own : op_at nodes t ≡ Constant d s) where
  -- a test that fails of its operator
  fails : (test : Op → Bool) → test (Constant d s) ≡ false → (b : Bool) → (test (op_at nodes t) && b) ≡ true → ⊥
  fails test none b h = never (sym none ∙ sym (ap test own) ∙ (and_parts (test (op_at nodes t)) b h).0)

  not_of : (o : Operator) (b : Bool) → (same_op (op_at nodes t) (Plain o) && b) ≡ true → ⊥
  not_of o b h = fails (λ p. same_op p (Plain o)) refl b h

  not_on : (o : Operator) (p : ℕ → ℕ → Bool) → on nodes o p t ≡ true → ⊥
  not_on o p h = not_of o _ h

  not_either : (o r : Operator) (p q : ℕ → ℕ → Bool) → (on nodes o p t || on nodes r q t) ≡ true → ⊥
  not_either o r p q h = or_cases (on nodes o p t) (on nodes r q t) h (not_on o p) (not_on r q)

  not_turned : (o r : Operator) → turned nodes o r t u ≡ true → ⊥
  not_turned o r h = not_of o _ h

  shifted_none : takes nodes images ShiftZero t u ≡ true → ⊥
  shifted_none h =
      let p : ℕ → ℕ → Bool = λ x c. is_constant Zero (op_at nodes c) && (u == x) in
      or_cases (on nodes plain.Bvshl p t) (on nodes plain.Bvlshr p t || on nodes plain.Bvashr p t) h (not_on plain.Bvshl p) (not_either plain.Bvlshr plain.Bvashr p p)

  shifted_past : takes nodes images ShiftPast t u ≡ true → ⊥
  shifted_past h = let p : ℕ → ℕ → Bool = λ x c. is_past (op_at nodes c) && is_constant Zero (op_at nodes u) in not_either plain.Bvshl plain.Bvlshr p p h

  greater : takes nodes images Greater t u ≡ true → ⊥
  greater h =
      let first = turned nodes plain.Bvugt plain.Bvult t u in
      let second = turned nodes plain.Bvuge plain.Bvule t u in
      let third = turned nodes plain.Bvsgt plain.Bvslt t u in
      let fourth = turned nodes plain.Bvsge plain.Bvsle t u in
      or_cases first (second || (third || fourth)) h (not_turned plain.Bvugt plain.Bvult)
      (λ e. or_cases second (third || fourth) e (not_turned plain.Bvuge plain.Bvule) (λ f. or_cases third fourth f (not_turned plain.Bvsgt plain.Bvslt) (not_turned plain.Bvsge plain.Bvsle)))

  connected : takes nodes images Connective t u ≡ true → ⊥
  connected h = not_either plain.And plain.Or (decides nodes plain.True plain.False u) (decides nodes plain.False plain.True u) h

  -- but the rule on arguments, no rule takes it
  other_rule : (rule : Rule) → takes nodes images rule t u ≡ true → rule ≡ Inner
  other_rule BvnotTwice h = absurd (not_of plain.Bvnot _ h)
  other_rule BvnegTwice h = absurd (not_of plain.Bvneg _ h)
  other_rule AndSame h = absurd (not_of plain.Bvand _ h)
  other_rule AndZero h = absurd (not_of plain.Bvand _ h)
  other_rule AndOnes h = absurd (not_of plain.Bvand _ h)
  other_rule OrSame h = absurd (not_of plain.Bvor _ h)
  other_rule OrZero h = absurd (not_of plain.Bvor _ h)
  other_rule OrOnes h = absurd (not_of plain.Bvor _ h)
  other_rule XorSame h = absurd (not_of plain.Bvxor _ h)
  other_rule XorZero h = absurd (not_of plain.Bvxor _ h)
  other_rule XorOnes h = absurd (not_of plain.Bvxor _ h)
  other_rule AddZero h = absurd (not_of plain.Bvadd _ h)
  other_rule AddOpposite h = absurd (not_of plain.Bvadd _ h)
  other_rule Subtract h = absurd (not_of plain.Bvsub _ h)
  other_rule AddSame h = absurd (not_of plain.Bvadd _ h)
  other_rule MultiplyZero h = absurd (not_of plain.Bvmul _ h)
  other_rule MultiplyOne h = absurd (not_of plain.Bvmul _ h)
  other_rule MultiplyPower h = absurd (not_of plain.Bvmul _ h)
  other_rule DivideOne h = absurd (not_of plain.Bvudiv _ h)
  other_rule DivideZero h = absurd (not_of plain.Bvudiv _ h)
  other_rule DividePower h = absurd (not_of plain.Bvudiv _ h)
  other_rule RemainderZero h = absurd (not_of plain.Bvurem _ h)
  other_rule RemainderOne h = absurd (not_of plain.Bvurem _ h)
  other_rule RemainderPower h = absurd (not_of plain.Bvurem _ h)
  other_rule ShiftZero h = absurd (shifted_none h)
  other_rule ShiftPast h = absurd (shifted_past h)
  other_rule ExtractAll h = absurd (fails is_extract refl _ h)
  other_rule ExtractExtract h = absurd (fails is_extract refl _ h)
  other_rule ExtractConcat h = absurd (fails is_extract refl _ h)
  other_rule Idle h = absurd (fails (is_idle _) refl _ h)
  other_rule Less h = absurd (not_of plain.Bvult _ h)
  other_rule AtMost h = absurd (not_of plain.Bvule _ h)
  other_rule Greater h = absurd (greater h)
  other_rule EqualSame h = absurd (not_of plain.Equal _ h)
  other_rule NotTwice h = absurd (not_of plain.Not _ h)
  other_rule Connective h = absurd (connected h)
  other_rule Choice h = absurd (not_of plain.Ite _ h)
  other_rule SelectStore h = absurd (not_of plain.Select _ h)
  other_rule Fold h = absurd (fails is_fixed refl _ (and_parts _ _ h).0)
  other_rule Inner h = refl

  -- two terms of its operator are one
  one_node : IsTermList nodes → AreDifferent nodes → t < length nodes → u < length nodes → op_at nodes u ≡ Constant d s → t ≡ u
  one_node terms different lt lu other =
      let args : (x : ℕ) → x < length nodes → op_at nodes x ≡ Constant d s → (node_at nodes x).args ≡ [] =
      λ x lx e. no_arguments d s (sort_of nodes) (node_at nodes x).args (sort_of nodes x) (ap (λ o. op_rank o (map (sort_of nodes) (node_at nodes x).args)) (sym e) ∙ (terms x lx).rank) in
      let ops : op_at nodes t ≡ op_at nodes u = own ∙ sym other in
      let both : (node_at nodes t).args ≡ (node_at nodes u).args = args t lt own ∙ sym (args u lu other) in
      different t u lt lu (λ i. record { op = ops i; args = both i })

-- so by a rule it becomes itself alone
pub unruled : (nodes : List Node) (images : ℕ → Option ℕ) (rule : Rule) (t u : ℕ) → IsTermList nodes → AreDifferent nodes → is_some (constant_width (op_at nodes t)) ≡ true → matches nodes images rule t u ≡ true → t ≡ u
unruled nodes images rule t u terms different declared h =
    let m = matched nodes images rule t u h in
    let c = constant_op (op_at nodes t) declared in
    let inner : takes nodes images Inner t u ≡ true = subst (λ r. takes nodes images r t u ≡ true) (other_rule nodes images t u c.0 c.1 c.2 rule m.takes) m.takes in
    let same : op_at nodes t ≡ op_at nodes u = op_same (op_at nodes t) (op_at nodes u) (and_parts _ _ inner).0 in
    one_node nodes images t u c.0 c.1 c.2 terms different m.from m.to (sym same ∙ c.2)
