-- Each rule keeps each evaluation.
use Rattle.std.proofs.Common.{◌≡◌, ℕ, ◌<◌, ◌-◌, ◌^◌, Bool, true, false, List, length, map, refl, sym, ap, ◌∙◌, Option}
use Rattle.std.specs.Prelude.{◌==◌, ◌&&◌, ◌||◌, nat_lt}
use Rattle.std.proofs.lemmas.Bool.{and_parts, ltb-true}
use Rattle.std.specs.Int.Bits.{and_self, and_zero_r, or_self, or_zero_r, xor_self, xor_zero_r}
use Rattle.smt_words.specs.Words.{not_of, neg_of, and_of, or_of, xor_of, add_of, mul_of, udiv_of, urem_of, shl_of, lshr_of, ashr_of, ult_of, ule_of, slt_of, sle_of}
use Rattle.smt_words.proofs.Numbers.{shl_past, shr_past}
use Rattle.smt_terms.specs.declared.operator.Operator.TheVariants as plain
use Rattle.smt_terms.specs.declared.node.Node.{Node}
use Rattle.smt_terms.specs.Nodes.{node_at}
use Rattle.smt_terms.specs.Same.{same_sort, sort_same}
use Rattle.smt_terms.specs.Ranks.{is_plain}
use Rattle.smt_terms.specs.Terms.{sort_of, IsTermList, AreDifferent}
use Rattle.smt_terms.specs.Values.{Value, Interpretation, op_value, value}
use Rattle.smt_terms.specs.Evaluations.{IsEvaluation}
use Rattle.smt_terms.proofs.Evaluating.{value_is_evaluation}
use Rattle.smt_terms.proofs.Typing.{value_is}
use Rattle.bv_rules.specs.declared.reading.Constant.TheVariants.{Zero, One, Ones}
use Rattle.bv_rules.specs.declared.rule.Rule.{Rule}
use Rattle.bv_rules.specs.declared.rule.Rule.TheVariants.{BvnotTwice, BvnegTwice, AndSame, AndZero, AndOnes, OrSame, OrZero, OrOnes, XorSame, XorZero, XorOnes, AddZero, AddOpposite, Subtract, AddSame, MultiplyZero, MultiplyOne, MultiplyPower, DivideOne, DivideZero, DividePower, RemainderZero, RemainderOne, RemainderPower, ShiftZero, ShiftPast, ExtractAll, ExtractExtract, ExtractConcat, Idle, Less, AtMost, Greater, EqualSame, NotTwice, Connective, Choice, SelectStore, Fold, Inner}
use Rattle.bv_rules.specs.Reading.{op_at, is_constant, is_past}
use Rattle.bv_rules.specs.Rules.{is, on, turned, takes}
use Rattle.bv_rules.specs.Matches.{matches, IsImage, KeepValues, AreImages}
use Rattle.bv_rules.proofs.Numbers as law
use Rattle.bv_rules.proofs.Known.{Context, or_cases}
use Rattle.bv_rules.proofs.WordRules.{and_words, or_words, xor_words, add_words, mul_words, udiv_words, urem_words, shl_words, lshr_words, ashr_words, ult_words, ule_words, slt_words, sle_words, ugt_words, uge_words, sgt_words, sge_words, not_word, neg_word, twice, gives_term, gives_word, same_gives_term, same_gives_word, by_power, past_gives_zero, xor_with_ones, add_negated, subtracted, doubled, not_less, at_most, turned_order}
use Rattle.bv_rules.proofs.OtherRules.{whole_extract, inner_extract, concat_extract, idle, and_truths, or_truths, and_neutral, or_neutral, equal_same, negated_twice, connected, chosen, read_stored}
use Rattle.bv_rules.proofs.ArgumentRules.{AreAlike, folded, reached}

module _ (k : Context) (images : ℕ → Option ℕ) (good : KeepValues k.nodes k.v images) (alike : AreAlike k) (t u : ℕ) (lt : t < length k.nodes) (lu : u < length k.nodes) (same : sort_of k.nodes u ≡ sort_of k.nodes t) where
  shifted_none : takes k.nodes images ShiftZero t u ≡ true → k.v u ≡ k.v t
  shifted_none h =
      let p : ℕ → ℕ → Bool = λ x c. is_constant Zero (op_at k.nodes c) && (u == x) in
      or_cases (on k.nodes plain.Bvshl p t) (on k.nodes plain.Bvlshr p t || on k.nodes plain.Bvashr p t) h
      (λ e. gives_term k t u lt lu same plain.Bvshl shl_of shl_words Zero law.shl_zero e)
      (λ e. or_cases (on k.nodes plain.Bvlshr p t) (on k.nodes plain.Bvashr p t) e
      (λ e. gives_term k t u lt lu same plain.Bvlshr lshr_of lshr_words Zero law.lshr_zero e)
      (λ e. gives_term k t u lt lu same plain.Bvashr ashr_of ashr_words Zero law.ashr_zero e))

  shifted_past : takes k.nodes images ShiftPast t u ≡ true → k.v u ≡ k.v t
  shifted_past h =
      let p : ℕ → ℕ → Bool = λ x c. is_past (op_at k.nodes c) && is_constant Zero (op_at k.nodes u) in
      or_cases (on k.nodes plain.Bvshl p t) (on k.nodes plain.Bvlshr p t) h
      (λ e. past_gives_zero k t u lt lu same plain.Bvshl shl_of shl_words (λ n x y fits le. shl_past x n y le) e)
      (λ e. past_gives_zero k t u lt lu same plain.Bvlshr lshr_of lshr_words (λ n x y fits le. shr_past x n y fits le) e)

  greater : takes k.nodes images Greater t u ≡ true → k.v u ≡ k.v t
  greater h =
      let first = turned k.nodes plain.Bvugt plain.Bvult t u in
      let second = turned k.nodes plain.Bvuge plain.Bvule t u in
      let third = turned k.nodes plain.Bvsgt plain.Bvslt t u in
      let fourth = turned k.nodes plain.Bvsge plain.Bvsle t u in
      or_cases first (second || (third || fourth)) h
      (λ e. turned_order k t u lt lu same plain.Bvugt plain.Bvult ult_of ugt_words ult_words e)
      (λ e. or_cases second (third || fourth) e
      (λ e. turned_order k t u lt lu same plain.Bvuge plain.Bvule ule_of uge_words ule_words e)
      (λ e. or_cases third fourth e
      (λ e. turned_order k t u lt lu same plain.Bvsgt plain.Bvslt slt_of sgt_words slt_words e)
      (λ e. turned_order k t u lt lu same plain.Bvsge plain.Bvsle sle_of sge_words sle_words e)))

  connective : takes k.nodes images Connective t u ≡ true → k.v u ≡ k.v t
  connective h =
      or_cases
      (on k.nodes plain.And (λ p q. (((p == q) || is k.nodes plain.True q) && (u == p)) || (is k.nodes plain.False q && is k.nodes plain.False u)) t)
      (on k.nodes plain.Or (λ p q. (((p == q) || is k.nodes plain.False q) && (u == p)) || (is k.nodes plain.True q && is k.nodes plain.True u)) t) h
      (λ e. connected k t u lt lu plain.And plain.True plain.False (λ a b. a && b) true false and_truths and_neutral refl refl refl refl e)
      (λ e. connected k t u lt lu plain.Or plain.False plain.True (λ a b. a || b) false true or_truths or_neutral refl refl refl refl e)

  pub takes_keeps : (rule : Rule) → takes k.nodes images rule t u ≡ true → k.v u ≡ k.v t
  takes_keeps BvnotTwice h = twice k t u lt lu same plain.Bvnot not_of not_word law.not_twice h
  takes_keeps BvnegTwice h = twice k t u lt lu same plain.Bvneg neg_of neg_word law.neg_twice h
  takes_keeps AndSame h = same_gives_term k t u lt lu same plain.Bvand and_of and_words (λ n x f. and_self x) h
  takes_keeps AndZero h = gives_word k t u lt lu same plain.Bvand and_of and_words Zero Zero (λ n x f. and_zero_r x) h
  takes_keeps AndOnes h = gives_term k t u lt lu same plain.Bvand and_of and_words Ones law.and_ones h
  takes_keeps OrSame h = same_gives_term k t u lt lu same plain.Bvor or_of or_words (λ n x f. or_self x) h
  takes_keeps OrZero h = gives_term k t u lt lu same plain.Bvor or_of or_words Zero (λ n x f. or_zero_r x) h
  takes_keeps OrOnes h = gives_word k t u lt lu same plain.Bvor or_of or_words Ones Ones law.or_ones h
  takes_keeps XorSame h = same_gives_word k t u lt lu same plain.Bvxor xor_of xor_words Zero (λ n x f. xor_self x) h
  takes_keeps XorZero h = gives_term k t u lt lu same plain.Bvxor xor_of xor_words Zero (λ n x f. xor_zero_r x) h
  takes_keeps XorOnes h = xor_with_ones k t u lt lu same law.xor_ones h
  takes_keeps AddZero h = gives_term k t u lt lu same plain.Bvadd add_of add_words Zero law.add_zero h
  takes_keeps AddOpposite h = add_negated k t u lt lu same h
  takes_keeps Subtract h = subtracted k t u lt lu same h
  takes_keeps AddSame h = doubled k t u lt lu same h
  takes_keeps MultiplyZero h = gives_word k t u lt lu same plain.Bvmul mul_of mul_words Zero Zero law.mul_zero h
  takes_keeps MultiplyOne h = gives_term k t u lt lu same plain.Bvmul mul_of mul_words One law.mul_one h
  takes_keeps MultiplyPower h = by_power k t u lt lu same plain.Bvmul mul_of mul_words plain.Bvshl shl_of shl_words (λ e. e) (λ n x e. refl) h
  takes_keeps DivideOne h = gives_term k t u lt lu same plain.Bvudiv udiv_of udiv_words One law.udiv_one h
  takes_keeps DivideZero h = gives_word k t u lt lu same plain.Bvudiv udiv_of udiv_words Zero Ones law.udiv_zero h
  takes_keeps DividePower h = by_power k t u lt lu same plain.Bvudiv udiv_of udiv_words plain.Bvlshr lshr_of lshr_words (λ e. e) law.udiv_power h
  takes_keeps RemainderZero h = gives_term k t u lt lu same plain.Bvurem urem_of urem_words Zero law.urem_zero h
  takes_keeps RemainderOne h = gives_word k t u lt lu same plain.Bvurem urem_of urem_words One Zero law.urem_one h
  takes_keeps RemainderPower h = by_power k t u lt lu same plain.Bvurem urem_of urem_words plain.Bvand and_of and_words (λ e. 2 ^ e - 1) law.urem_power h
  takes_keeps ShiftZero h = shifted_none h
  takes_keeps ShiftPast h = shifted_past h
  takes_keeps ExtractAll h = whole_extract k t u lt lu h
  takes_keeps ExtractExtract h = inner_extract k t u lt lu h
  takes_keeps ExtractConcat h = concat_extract k t u lt lu h
  takes_keeps Idle h = idle k t u lt lu h
  takes_keeps Less h = not_less k t u lt lu same h
  takes_keeps AtMost h = at_most k t u lt lu same h
  takes_keeps Greater h = greater h
  takes_keeps EqualSame h = equal_same k t u lt lu h
  takes_keeps NotTwice h = negated_twice k t u lt lu h
  takes_keeps Connective h = connective h
  takes_keeps Choice h = chosen k t u lt lu h
  takes_keeps SelectStore h = read_stored k t u lt lu h
  takes_keeps Fold h = folded k t u lt lu h
  takes_keeps Inner h = reached k images good alike t u lt lu h

pub record Matched (nodes : List Node) (images : ℕ → Option ℕ) (rule : Rule) (t u : ℕ) : Type 0 where
  pub from : t < length nodes
  pub to : u < length nodes
  pub plain : is_plain (sort_of nodes t) ≡ true
  pub sort : sort_of nodes u ≡ sort_of nodes t
  pub same : same_sort (sort_of nodes t) (sort_of nodes u) ≡ true
  pub takes : takes nodes images rule t u ≡ true

pub matched : (nodes : List Node) (images : ℕ → Option ℕ) (rule : Rule) (t u : ℕ) → matches nodes images rule t u ≡ true → Matched nodes images rule t u
matched nodes images rule t u h =
    let same = same_sort (sort_of nodes t) (sort_of nodes u) in
    let by = takes nodes images rule t u in
    let p = and_parts (nat_lt t (length nodes)) (nat_lt u (length nodes) && (is_plain (sort_of nodes t) && (same && by))) h in
    let q = and_parts (nat_lt u (length nodes)) (is_plain (sort_of nodes t) && (same && by)) p.1 in
    let r = and_parts (is_plain (sort_of nodes t)) (same && by) q.1 in
    let s = and_parts same by r.1 in
    record { from = ltb-true t (length nodes) p.0; to = ltb-true u (length nodes) q.0; plain = r.0; sort = sym (sort_same (sort_of nodes t) (sort_of nodes u) s.0); same = s.0; takes = s.1 }

same_node_value : (M : Interpretation) (nodes : List Node) (v : ℕ → Value) (a b : ℕ) → node_at nodes a ≡ node_at nodes b → op_value M (node_at nodes a).op (map v (node_at nodes a).args) ≡ op_value M (node_at nodes b).op (map v (node_at nodes b).args)
same_node_value M nodes v a b q = ap (λ (n : Node). op_value M n.op (map v n.args)) q

-- where what has an image has its value, and terms that are the same node have one
keeps_by : (M : Interpretation) (nodes : List Node) (v : ℕ → Value) (images : ℕ → Option ℕ) (rule : Rule) (t u : ℕ) → IsTermList nodes → IsEvaluation M nodes v → KeepValues nodes v images
    → ((a b : ℕ) → a < length nodes → b < length nodes → node_at nodes a ≡ node_at nodes b → v a ≡ v b) → matches nodes images rule t u ≡ true → v u ≡ v t
keeps_by M nodes v images rule t u terms e good alike h =
    let m = matched nodes images rule t u h in
    takes_keeps (record { M = M; nodes = nodes; v = v; terms = terms; evaluation = e }) images good alike t u m.from m.to m.sort rule m.takes

pub keeps_evaluations : (nodes : List Node) (images : ℕ → Option ℕ) (rule : Rule) (t u : ℕ) → IsTermList nodes → AreDifferent nodes → AreImages nodes images → matches nodes images rule t u ≡ true → (M : Interpretation) (v : ℕ → Value) → IsEvaluation M nodes v → v u ≡ v t
keeps_evaluations nodes images rule t u terms different good h M v e =
    keeps_by M nodes v images rule t u terms e (λ a b q. let i = good a b q in (i.plain, i.value M v e)) (λ a b la lb q. ap v (different a b la lb q)) h

-- and the value in an interpretation, of whose images no more is known
pub keeps_values : (M : Interpretation) (nodes : List Node) (images : ℕ → Option ℕ) (rule : Rule) (t u : ℕ) → IsTermList nodes → KeepValues nodes (value M nodes) images → matches nodes images rule t u ≡ true → value M nodes u ≡ value M nodes t
keeps_values M nodes images rule t u terms good h =
    keeps_by M nodes (value M nodes) images rule t u terms (value_is_evaluation M nodes terms) good (λ a b la lb q. value_is M nodes a (terms a la) ∙ same_node_value M nodes (value M nodes) a b q ∙ sym (value_is M nodes b (terms b lb))) h

pub keeps_sorts : (nodes : List Node) (images : ℕ → Option ℕ) (rule : Rule) (t u : ℕ) → matches nodes images rule t u ≡ true → sort_of nodes u ≡ sort_of nodes t
keeps_sorts nodes images rule t u h = (matched nodes images rule t u h).sort

pub makes_image : (nodes : List Node) (images : ℕ → Option ℕ) (rule : Rule) (t u : ℕ) → IsTermList nodes → AreDifferent nodes → AreImages nodes images → matches nodes images rule t u ≡ true → IsImage nodes t u
makes_image nodes images rule t u terms different good h =
    let m = matched nodes images rule t u h in
    record { from = m.from; to = m.to; plain = m.plain; sort = m.sort; value = keeps_evaluations nodes images rule t u terms different good h }
