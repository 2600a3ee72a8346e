-- The widths in the sort of a term are 1 to 128.
use Rattle.std.proofs.Common.{◌≡◌, ℕ, zero, suc, ◌+◌, ◌-◌, ◌*◌, ◌^◌, ◌<◌, true, List, [], ◌∷◌, length, map, refl, ap, ◌∙◌, subst, arith, Some, Result, Ok, Err}
use Rattle.std.specs.Prelude.{nat_lt, nat_le, ◌&&◌}
use Rattle.std.specs.List.{AllByRecursion}
use Rattle.smt_terms.specs.declared.sort.Sort.{Sort}
use Rattle.smt_terms.specs.declared.sort.Sort.TheVariants as sort
use Rattle.smt_terms.specs.declared.operator.Operator.{Operator}
use Rattle.smt_terms.specs.declared.operator.Operator.TheVariants as plain
use Rattle.smt_terms.specs.declared.node.Op.{Op}
use Rattle.smt_terms.specs.declared.node.Op.TheVariants.{Plain, Word, Extract, ZeroExtend, SignExtend, RotateLeft, RotateRight, Repeat, ConstantArray, Constant, Apply, Param}
use Rattle.smt_terms.specs.declared.node.Node.{Node}
use Rattle.smt_terms.specs.declared.fault.MakeFault.{MakeFault}
use Rattle.smt_terms.specs.Nodes.{node_at}
use Rattle.smt_terms.specs.Ranks.{and_then, width_of, index_sort, element_sort, allows, Rank, Gives, Takes, ranked, word_sort, constant_sort, plain_sort, literal_sort, extract_sort, truth, two_words, each_of, application, operator_rank, rank_of}
use Rattle.smt_terms.specs.Terms.{IsSort, sort_of, IsTermList}
use Rattle.smt_terms.proofs.Growing.{takes_ok}
use Rattle.smt_terms.proofs.Typing.{guard_ok, word_sort_ok}

-- a rank gives a sort with widths in range for sorts with widths in range
abbrev pub IsBounded : Rank → Type 0
IsBounded (Gives r) = (s : Sort) → r ≡ Ok s → IsSort s
IsBounded (Takes d next) = (s : Sort) → allows d s ≡ true → IsSort s → IsBounded (next s)

given : (t s : Sort) → (let r : Result Sort MakeFault = Ok t in r) ≡ Ok s → IsSort t → IsSort s
given t s e h = let q : t ≡ s = cc in subst IsSort q h

truth_bounded : (s : Sort) → truth ≡ Ok s → IsSort s
truth_bounded s e = given sort.Bool s e tt

word_bounded : (n : ℕ) (s : Sort) → word_sort n ≡ Ok s → IsSort s
word_bounded n s e = let w = word_sort_ok n s e in subst IsSort w.0 (w.1, w.2)

pub index_bounded : (s : Sort) → IsSort s → IsSort (index_sort s)
index_bounded sort.Bool h = tt
index_bounded (sort.Word n) h = tt
index_bounded (sort.Array n m) h = (h.0, h.1)

pub element_bounded : (s : Sort) → IsSort s → IsSort (element_sort s)
element_bounded sort.Bool h = tt
element_bounded (sort.Word n) h = tt
element_bounded (sort.Array n m) h = (h.2, h.3)

pub constant_bounded : (t s : Sort) → constant_sort t ≡ Ok s → IsSort s
constant_bounded sort.Bool s e = given sort.Bool s e tt
constant_bounded (sort.Word n) s e = word_bounded n s e
constant_bounded (sort.Array n m) s e = go (word_sort n) (word_sort m) refl refl e where
  go : (a b : Result Sort MakeFault) → word_sort n ≡ a → word_sort m ≡ b → and_then a (λ _. and_then b (λ _. Ok (sort.Array n m))) ≡ Ok s → IsSort s
  go (Ok x) (Ok y) p q f = let v = word_sort_ok n x p in let w = word_sort_ok m y q in given (sort.Array n m) s f (v.1, v.2, w.1, w.2)
  go (Ok x) (Err g) p q f = let h : ⊥ = cc in absurd h
  go (Err g) b p q f = let h : ⊥ = cc in absurd h

pub plain_bounded : (t s : Sort) → plain_sort t ≡ Ok s → IsSort s
plain_bounded sort.Bool s e = given sort.Bool s e tt
plain_bounded (sort.Word n) s e = word_bounded n s e
plain_bounded (sort.Array n m) s e = let f : ⊥ = cc in absurd f

same_bounded : IsBounded (two_words Ok)
same_bounded = λ a al h b bl k s e. given a s e h

order_bounded : IsBounded (two_words λ _. truth)
order_bounded = λ a al h b bl k s e. given sort.Bool s e tt

literal_bounded : (n x : ℕ) (s : Sort) → literal_sort n x ≡ Ok s → IsSort s
literal_bounded n x s e = word_bounded n s (guard_ok (nat_lt x (2 ^ n)) (word_sort n) _ s e).1

extract_bounded : (i j n : ℕ) (s : Sort) → extract_sort i j n ≡ Ok s → IsSort s
extract_bounded i j n s e = word_bounded (i - j + 1) s (guard_ok (nat_le j i && nat_lt i n) (word_sort (i - j + 1)) _ s e).1

each_bounded : (ss : List Sort) (t : Sort) → IsBounded (each_of ss (plain_sort t))
each_bounded [] t = λ s e. plain_bounded t s e
each_bounded (x ∷ ss) t = λ a al h. each_bounded ss t

application_bounded : (ss : List Sort) (t : Sort) → IsBounded (application ss t)
application_bounded [] t = λ s e. let q : ⊥ = cc in absurd q
application_bounded (x ∷ ss) t = each_bounded (x ∷ ss) t

operator_bounded : (o : Operator) → IsBounded (operator_rank o)
operator_bounded plain.True = truth_bounded
operator_bounded plain.False = truth_bounded
operator_bounded plain.Not = λ a al h. truth_bounded
operator_bounded plain.And = λ a al h b bl k. truth_bounded
operator_bounded plain.Or = λ a al h b bl k. truth_bounded
operator_bounded plain.Xor = λ a al h b bl k. truth_bounded
operator_bounded plain.Implies = λ a al h b bl k. truth_bounded
operator_bounded plain.Ite = λ c cl k a al h b bl l s e. given a s e h
operator_bounded plain.Equal = λ a al h b bl k. truth_bounded
operator_bounded plain.Bvnot = λ a al h. word_bounded (width_of a)
operator_bounded plain.Bvneg = λ a al h. word_bounded (width_of a)
operator_bounded plain.Bvadd = same_bounded
operator_bounded plain.Bvsub = same_bounded
operator_bounded plain.Bvmul = same_bounded
operator_bounded plain.Bvand = same_bounded
operator_bounded plain.Bvor = same_bounded
operator_bounded plain.Bvxor = same_bounded
operator_bounded plain.Bvnand = same_bounded
operator_bounded plain.Bvnor = same_bounded
operator_bounded plain.Bvxnor = same_bounded
operator_bounded plain.Bvudiv = same_bounded
operator_bounded plain.Bvurem = same_bounded
operator_bounded plain.Bvsdiv = same_bounded
operator_bounded plain.Bvsrem = same_bounded
operator_bounded plain.Bvsmod = same_bounded
operator_bounded plain.Bvshl = same_bounded
operator_bounded plain.Bvlshr = same_bounded
operator_bounded plain.Bvashr = same_bounded
operator_bounded plain.Bvult = order_bounded
operator_bounded plain.Bvule = order_bounded
operator_bounded plain.Bvugt = order_bounded
operator_bounded plain.Bvuge = order_bounded
operator_bounded plain.Bvslt = order_bounded
operator_bounded plain.Bvsle = order_bounded
operator_bounded plain.Bvsgt = order_bounded
operator_bounded plain.Bvsge = order_bounded
operator_bounded plain.Bvcomp = λ a al h b bl k s e. given (sort.Word 1) s e (omega arith, omega arith)
operator_bounded plain.Concat = λ a al h b bl k. word_bounded (width_of a + width_of b)
operator_bounded plain.Select = λ a al h b bl k s e. given (element_sort a) s e (element_bounded a h)
operator_bounded plain.Store = λ a al h b bl k c cl l s e. given a s e h
operator_bounded plain.Witness = λ a al h b bl k s e. given (index_sort a) s e (index_bounded a h)

pub rank_bounded : (op : Op) → IsBounded (rank_of op)
rank_bounded (Plain o) = operator_bounded o
rank_bounded (Word n x) = literal_bounded n x
rank_bounded (Extract i j) = λ a al h. extract_bounded i j (width_of a)
rank_bounded (ZeroExtend i) = λ a al h. word_bounded (width_of a + i)
rank_bounded (SignExtend i) = λ a al h. word_bounded (width_of a + i)
rank_bounded (RotateLeft i) = λ a al h. word_bounded (width_of a)
rank_bounded (RotateRight i) = λ a al h. word_bounded (width_of a)
rank_bounded (Repeat i) = λ a al h. word_bounded (width_of a * i)
rank_bounded (ConstantArray k) = λ a al h. constant_bounded (sort.Array k (width_of a))
rank_bounded (Constant d t) = constant_bounded t
rank_bounded (Apply d g) = application_bounded g.args g.value
rank_bounded (Param k t) = plain_bounded t

ranked_bounded : (r : Rank) → IsBounded r → (k : ℕ) (ss : List Sort) → AllByRecursion IsSort ss → (s : Sort) → ranked r k (map Some ss) ≡ Ok s → IsSort s
ranked_bounded (Gives r) h k [] each s e = h s e
ranked_bounded (Gives r) h k (a ∷ ss) each s e = let q : ⊥ = cc in absurd q
ranked_bounded (Takes d next) h k [] each s e = let q : ⊥ = cc in absurd q
ranked_bounded (Takes d next) h k (a ∷ ss) each s e =
    let o = takes_ok d next k (Some a) (map Some ss) s e in
    let same : a ≡ o.0 = let q = o.1 in cc in
    let al : allows d a ≡ true = ap (allows d) same ∙ o.2 in
    let rest : ranked (next a) (suc k) (map Some ss) ≡ Ok s = ap (λ b. ranked (next b) (suc k) (map Some ss)) same ∙ o.3 in
    ranked_bounded (next a) (h a al each.0) (suc k) ss each.1 s rest

each_sort : (s : ℕ → Sort) (n : ℕ) → ((a : ℕ) → a < n → IsSort (s a)) → (args : List ℕ) → AllByRecursion (λ a. a < n) args → AllByRecursion IsSort (map s args)
each_sort s n ih [] h = tt
each_sort s n ih (a ∷ args) h = (ih a h.0, each_sort s n ih args h.1)

bounded_upto : (nodes : List Node) → IsTermList nodes → (n t : ℕ) → t < n → t < length nodes → IsSort (sort_of nodes t)
bounded_upto nodes terms zero t lt within = absurd (omega arith)
bounded_upto nodes terms (suc n) t lt within =
    let h = terms t within in
    let node = node_at nodes t in
    let each = each_sort (sort_of nodes) t (λ a la. bounded_upto nodes terms n a (omega arith) (omega arith)) node.args h.earlier in
    ranked_bounded (rank_of node.op) (rank_bounded node.op) 0 (map (sort_of nodes) node.args) each (sort_of nodes t) h.rank

pub sort_bounded : (nodes : List Node) → IsTermList nodes → (t : ℕ) → t < length nodes → IsSort (sort_of nodes t)
sort_bounded nodes terms t within = bounded_upto nodes terms (suc t) t (omega arith) within
