-- Each term's value is of the term's sort.
use Rattle.std.proofs.Common.{◌≡◌, ℕ, zero, suc, ◌+◌, ◌-◌, ◌*◌, ◌%◌, ◌^◌, ◌<◌, ◌≤◌, Bool, true, false, List, [], ◌∷◌, length, map, refl, sym, ap, ◌∙◌, subst, arith, Some, Result, Ok, Err}
use Rattle.std.specs.Prelude.{◌==◌, ◌&&◌, nat_lt, nat_le, if◌then◌else◌, not}
use Rattle.std.specs.List.{AllByRecursion}
use Rattle.std.proofs.lemmas.Nat.{pow_pos}
use Rattle.std.proofs.Math.Nat.{mod-lt}
use Rattle.std.proofs.lemmas.Bool.{ltb-true, leb-true, and_parts}
use Rattle.smt_words.proofs.Fits as fits
use Rattle.smt_words.specs.Words.{not_of, neg_of, and_of, or_of, xor_of, nand_of, nor_of, xnor_of, add_of, sub_of, mul_of, udiv_of, urem_of, sdiv_of, srem_of, smod_of, shl_of, lshr_of, ashr_of, comp_of, concat_of, extract_of, sign_extend_of, rotate_left_of, rotate_right_of, repeat_of}
use Rattle.smt_terms.specs.declared.sort.Sort.{Sort}
use Rattle.smt_terms.specs.declared.sort.Sort.TheVariants as sort
use Rattle.smt_terms.specs.declared.operator.Operator.{Operator}
use Rattle.smt_terms.specs.declared.operator.Operator.TheVariants as plain
use Rattle.smt_terms.specs.declared.node.Op.{Op}
use Rattle.smt_terms.specs.declared.node.Op.TheVariants.{Plain, Word, Extract, ZeroExtend, SignExtend, RotateLeft, RotateRight, Repeat, ConstantArray, Constant, Apply, Param}
use Rattle.smt_terms.specs.declared.node.Node.{Node}
use Rattle.smt_terms.specs.declared.fault.MakeFault.{MakeFault}
use Rattle.smt_terms.specs.Same.{same_sort, sort_same}
use Rattle.smt_terms.specs.Nodes.{node_at}
use Rattle.smt_terms.specs.Ranks.{and_then, is_word, is_array, width_of, index_sort, element_sort, allows, Rank, Gives, Takes, ranked, word_sort, constant_sort, plain_sort, literal_sort, extract_sort, one_word, two_words, equality, choice, each_of, application, operator_rank, rank_of}
use Rattle.smt_terms.specs.Terms.{op_rank, op_sort, sort_of, IsTerm, IsTermList}
use Rattle.smt_terms.specs.Values.{Value, VBool, VWord, VArray, HasSort, no_value, is_true, number_of, width_in, filled, with_entry, elements_below, held_at, default_of, read_at, Interpretation, first_below, same_value, select_of, store_of, witness_of, Meaning, Is, Of, applied, word_of, words_of, one, two, collected, operator_meaning, meaning_of, op_value, value}
use Rattle.smt_terms.proofs.Growing.{takes_ok}
use Rattle.smt_terms.proofs.Recursion.{at_term_is}
use Rattle.smt_terms.proofs.Arrays.{first_below_in, stored_lt, below_lt}

-- a meaning gives a value of the sort that a rank gives, for arguments that the rank takes
abbrev pub Suited : Rank → Meaning → Type 0
Suited (Gives r) (Is v) = (s : Sort) → r ≡ Ok s → HasSort s v
Suited (Gives r) (Of next) = ⊥
Suited (Takes d next) (Is v) = ⊥
Suited (Takes d next) (Of more) = (s : Sort) (v : Value) → allows d s ≡ true → HasSort s v → Suited (next s) (more v)

-- ---- what it says that a sort is given

sort_is_given : (t s : Sort) → (let r : Result Sort MakeFault = Ok t in r) ≡ Ok s → t ≡ s
sort_is_given t s e = cc

given : (t s : Sort) (v : Value) → (let r : Result Sort MakeFault = Ok t in r) ≡ Ok s → HasSort t v → HasSort s v
given t s v e h = subst (λ k. HasSort k v) (sort_is_given t s e) h

pub guard_ok : (b : Bool) (r : Result Sort MakeFault) (f : MakeFault) (s : Sort) → (if b then r else Err f) ≡ Ok s → (b ≡ true) × (r ≡ Ok s)
guard_ok true r f s e = (refl, e)
guard_ok false r f s e = let q : ⊥ = cc in absurd q

-- the width of a result is 1 to 128
pub word_sort_ok : (n : ℕ) (s : Sort) → word_sort n ≡ Ok s → (sort.Word n ≡ s) × (1 ≤ n) × (n ≤ 128)
word_sort_ok n s e =
    let g = guard_ok (nat_le 1 n && nat_le n 128) (Ok (sort.Word n)) _ s e in
    let b = and_parts (nat_le 1 n) (nat_le n 128) g.0 in
    (sort_is_given (sort.Word n) s g.1, leb-true 1 n b.0, leb-true n 128 b.1)

word_given : (n x : ℕ) (s : Sort) → word_sort n ≡ Ok s → x < 2 ^ n → HasSort s (VWord n x)
word_given n x s e lt = subst (λ k. HasSort k (VWord n x)) (word_sort_ok n s e).0 (x, refl, lt)

pub constant_sort_ok : (t s : Sort) → constant_sort t ≡ Ok s → t ≡ s
constant_sort_ok sort.Bool s e = sort_is_given sort.Bool s e
constant_sort_ok (sort.Word n) s e = (word_sort_ok n s e).0
constant_sort_ok (sort.Array n m) s e = go (word_sort n) (word_sort m) e where
  go : (a b : Result Sort MakeFault) → and_then a (λ _. and_then b (λ _. Ok (sort.Array n m))) ≡ Ok s → sort.Array n m ≡ s
  go (Ok x) (Ok y) q = sort_is_given (sort.Array n m) s q
  go (Ok x) (Err f) q = let h : ⊥ = cc in absurd h
  go (Err f) b q = let h : ⊥ = cc in absurd h

pub plain_sort_ok : (t s : Sort) → plain_sort t ≡ Ok s → t ≡ s
plain_sort_ok sort.Bool s e = sort_is_given sort.Bool s e
plain_sort_ok (sort.Word n) s e = (word_sort_ok n s e).0
plain_sort_ok (sort.Array n m) s e = let f : ⊥ = cc in absurd f

-- ---- values that are read

pub read_has_sort : (s : Sort) (v : Value) → HasSort s (read_at s v)
read_has_sort sort.Bool (VBool b) = (b, refl)
read_has_sort sort.Bool (VWord n x) = (false, refl)
read_has_sort sort.Bool (VArray n m a) = (false, refl)
read_has_sort (sort.Word n) (VWord m x) = (x % 2 ^ n, refl, mod-lt x (pow_pos n))
read_has_sort (sort.Word n) (VBool b) = (0, refl, pow_pos n)
read_has_sort (sort.Word n) (VArray k m a) = (0, refl, pow_pos n)
read_has_sort (sort.Array n m) (VArray k l a) = (elements_below (2 ^ m) a, refl, below_lt (2 ^ m) (pow_pos m) a)
read_has_sort (sort.Array n m) (VBool b) = (filled 0, refl, (λ i. pow_pos m))
read_has_sort (sort.Array n m) (VWord k x) = (filled 0, refl, (λ i. pow_pos m))

pub default_has_sort : (s : Sort) → HasSort s (default_of s)
default_has_sort sort.Bool = (false, refl)
default_has_sort (sort.Word n) = (0, refl, pow_pos n)
default_has_sort (sort.Array n m) = (filled 0, refl, (λ i. pow_pos m))

-- ---- the shapes

word_case : (h : ℕ → Result Sort MakeFault) (f : ℕ → ℕ → Value) → ((n x : ℕ) (s : Sort) → x < 2 ^ n → h n ≡ Ok s → HasSort s (f n x)) → (a : Sort) (v : Value) → is_word a ≡ true → HasSort a v → (s : Sort) → h (width_of a) ≡ Ok s → HasSort s (f (width_in v) (number_of v))
word_case h f k sort.Bool v al hv s e = let q : ⊥ = cc in absurd q
word_case h f k (sort.Word n) v al hv s e = rw hv.1 (k n hv.0 s hv.2 e)
word_case h f k (sort.Array n m) v al hv s e = let q : ⊥ = cc in absurd q

word_suited : (h : ℕ → Result Sort MakeFault) (f : ℕ → ℕ → Value) → ((n x : ℕ) (s : Sort) → x < 2 ^ n → h n ≡ Ok s → HasSort s (f n x)) → Suited (one_word h) (word_of f)
word_suited h f k = word_case h f k

words_case : (h : Sort → Result Sort MakeFault) (f : ℕ → ℕ → ℕ → Value) → ((n x y : ℕ) (s : Sort) → x < 2 ^ n → y < 2 ^ n → h (sort.Word n) ≡ Ok s → HasSort s (f n x y)) → (a : Sort) (v : Value) → is_word a ≡ true → HasSort a v → (b : Sort) (w : Value) → same_sort a b ≡ true → HasSort b w → (s : Sort) → h a ≡ Ok s → HasSort s (f (width_in v) (number_of v) (number_of w))
words_case h f k sort.Bool v al hv b w bl hw s e = let q : ⊥ = cc in absurd q
words_case h f k (sort.Word n) v al hv b w bl hw s e =
    let kw : HasSort (sort.Word n) w = subst (λ r. HasSort r w) (sym (sort_same (sort.Word n) b bl)) hw in
    rw (hv.1, kw.1) (k n hv.0 kw.0 s hv.2 kw.2 e)
words_case h f k (sort.Array n m) v al hv b w bl hw s e = let q : ⊥ = cc in absurd q

words_suited : (h : Sort → Result Sort MakeFault) (f : ℕ → ℕ → ℕ → Value) → ((n x y : ℕ) (s : Sort) → x < 2 ^ n → y < 2 ^ n → h (sort.Word n) ≡ Ok s → HasSort s (f n x y)) → Suited (two_words h) (words_of f)
words_suited h f k = words_case h f k

one_suited : (f : ℕ → ℕ → ℕ) → ((n x : ℕ) → 0 < n → x < 2 ^ n → f n x < 2 ^ n) → Suited (one_word word_sort) (one f)
one_suited f fit = word_suited word_sort (λ n x. VWord n (f n x)) λ n x s lt e. word_given n (f n x) s e (fit n x (let w = word_sort_ok n s e in w.1) lt)

two_suited : (f : ℕ → ℕ → ℕ → ℕ) → ((n x y : ℕ) → x < 2 ^ n → y < 2 ^ n → f n x y < 2 ^ n) → Suited (two_words Ok) (two f)
two_suited f fit = words_suited Ok (λ n x y. VWord n (f n x y)) λ n x y s lt less e. given (sort.Word n) s _ e (f n x y, refl, fit n x y lt less)

comp_suited : Suited (two_words λ _. Ok (sort.Word 1)) (words_of λ n x y. VWord 1 (comp_of n x y))
comp_suited = words_suited (λ _. Ok (sort.Word 1)) (λ n x y. VWord 1 (comp_of n x y)) λ n x y s lt less e. given (sort.Word 1) s _ e (comp_of n x y, refl, fits.comp_fits n x y)

choice_case : (b : Bool) (s : Sort) (v w : Value) → HasSort s v → HasSort s w → HasSort s (if b then v else w)
choice_case true s v w h k = h
choice_case false s v w h k = k

choice_suited : Suited choice (operator_meaning plain.Ite)
choice_suited = λ a c al h r v rl hv q w ql hw s e. given r s _ e (choice_case (is_true c) r v w hv (subst (λ k. HasSort k w) (sym (sort_same r q ql)) hw))

equality_suited : Suited equality (operator_meaning plain.Equal)
equality_suited = λ a v al h b w bl k s e. given sort.Bool s _ e (same_value v w, refl)

concat_case : (a : Sort) (v : Value) → is_word a ≡ true → HasSort a v → (b : Sort) (w : Value) → is_word b ≡ true → HasSort b w → (s : Sort) → word_sort (width_of a + width_of b) ≡ Ok s → HasSort s (VWord (width_in v + width_in w) (concat_of (width_in w) (number_of v) (number_of w)))
concat_case sort.Bool v al hv b w bl hw s e = let q : ⊥ = cc in absurd q
concat_case (sort.Array n m) v al hv b w bl hw s e = let q : ⊥ = cc in absurd q
concat_case (sort.Word n) v al hv sort.Bool w bl hw s e = let q : ⊥ = cc in absurd q
concat_case (sort.Word n) v al hv (sort.Array k l) w bl hw s e = let q : ⊥ = cc in absurd q
concat_case (sort.Word n) v al hv (sort.Word m) w bl hw s e =
    rw (hv.1, hw.1) (word_given (n + m) (concat_of m hv.0 hw.0) s e (fits.concat_fits n m hv.0 hw.0 hv.2 hw.2))

pub select_sort : (n m : ℕ) (A I : Value) → HasSort (sort.Array n m) A → HasSort (sort.Word m) (select_of A I)
select_sort n m A I h = rw h.1 (held_at h.0 (number_of I), refl, h.2 (number_of I))

pub store_sort : (n m : ℕ) (A I X : Value) → HasSort (sort.Array n m) A → HasSort (sort.Word m) X → HasSort (sort.Array n m) (store_of A I X)
store_sort n m A I X h l =
    let lt : number_of X < 2 ^ m = rw l.1 l.2 in
    rw h.1 (with_entry h.0 (number_of I) (number_of X), refl, stored_lt (2 ^ m) h.0 (number_of I) (number_of X) h.2 lt)

pub witness_sort : (n m : ℕ) (A B : Value) → HasSort (sort.Array n m) A → HasSort (sort.Array n m) B → HasSort (sort.Word n) (witness_of A B)
witness_sort n m A B h k = rw (h.1, k.1) (first_below (λ i. not (held_at h.0 i == held_at k.0 i)) (2 ^ n), refl, first_below_in (λ i. not (held_at h.0 i == held_at k.0 i)) (2 ^ n) (pow_pos n))

as_sort : (a b : Sort) (w : Value) → same_sort a b ≡ true → HasSort b w → HasSort a w
as_sort a b w e h = subst (λ r. HasSort r w) (sym (sort_same a b e)) h

select_case : (a : Sort) (v : Value) → is_array a ≡ true → HasSort a v → (b : Sort) (w : Value) → same_sort (index_sort a) b ≡ true → HasSort b w → (s : Sort) → (let r : Result Sort MakeFault = Ok (element_sort a) in r) ≡ Ok s → HasSort s (select_of v w)
select_case sort.Bool v al hv b w bl hw s e = let q : ⊥ = cc in absurd q
select_case (sort.Word n) v al hv b w bl hw s e = let q : ⊥ = cc in absurd q
select_case (sort.Array n m) v al hv b w bl hw s e = given (sort.Word m) s _ e (select_sort n m v w hv)

store_case : (a : Sort) (u : Value) → is_array a ≡ true → HasSort a u → (b : Sort) (v : Value) → same_sort (index_sort a) b ≡ true → HasSort b v → (c : Sort) (w : Value) → same_sort (element_sort a) c ≡ true → HasSort c w → (s : Sort) → (let r : Result Sort MakeFault = Ok a in r) ≡ Ok s → HasSort s (store_of u v w)
store_case sort.Bool u al hu b v bl hv c w cl hw s e = let q : ⊥ = cc in absurd q
store_case (sort.Word n) u al hu b v bl hv c w cl hw s e = let q : ⊥ = cc in absurd q
store_case (sort.Array n m) u al hu b v bl hv c w cl hw s e = given (sort.Array n m) s _ e (store_sort n m u v w hu (as_sort (sort.Word m) c w cl hw))

witness_case : (a : Sort) (v : Value) → is_array a ≡ true → HasSort a v → (b : Sort) (w : Value) → same_sort a b ≡ true → HasSort b w → (s : Sort) → (let r : Result Sort MakeFault = Ok (index_sort a) in r) ≡ Ok s → HasSort s (witness_of v w)
witness_case sort.Bool v al hv b w bl hw s e = let q : ⊥ = cc in absurd q
witness_case (sort.Word n) v al hv b w bl hw s e = let q : ⊥ = cc in absurd q
witness_case (sort.Array n m) v al hv b w bl hw s e = given (sort.Word n) s _ e (witness_sort n m v w hv (as_sort (sort.Array n m) b w bl hw))

extract_case : (i j n x : ℕ) (s : Sort) → extract_sort i j n ≡ Ok s → HasSort s (VWord (i - j + 1) (extract_of i j x))
extract_case i j n x s e = word_given (i - j + 1) (extract_of i j x) s (guard_ok (nat_le j i && nat_lt i n) (word_sort (i - j + 1)) _ s e).1 (fits.extract_fits i j x)

literal_case : (n x : ℕ) (s : Sort) → literal_sort n x ≡ Ok s → HasSort s (VWord n x)
literal_case n x s e = let g = guard_ok (nat_lt x (2 ^ n)) (word_sort n) _ s e in word_given n x s g.1 (ltb-true x (2 ^ n) g.0)

each_suited : (ss : List Sort) (r : Result Sort MakeFault) (f : List Value → Value) → ((vs : List Value) (s : Sort) → r ≡ Ok s → HasSort s (f vs)) → Suited (each_of ss r) (collected ss f)
each_suited [] r f k = λ s e. k [] s e
each_suited (x ∷ ss) r f k = λ s v al h. each_suited ss r (λ vs. f (v ∷ vs)) (λ vs. k (v ∷ vs))

application_suited : (ss : List Sort) (t : Sort) (f : List Value → Value) → Suited (application ss t) (collected ss λ vs. read_at t (f vs))
application_suited [] t f = λ s e. let q : ⊥ = cc in absurd q
application_suited (x ∷ ss) t f = each_suited (x ∷ ss) (plain_sort t) (λ vs. read_at t (f vs)) λ vs s e. subst (λ k. HasSort k (read_at t (f vs))) (plain_sort_ok t s e) (read_has_sort t (f vs))

-- ---- each operator

operator_suited : (o : Operator) → Suited (operator_rank o) (operator_meaning o)
operator_suited plain.True = λ s e. given sort.Bool s _ e (true, refl)
operator_suited plain.False = λ s e. given sort.Bool s _ e (false, refl)
operator_suited plain.Not = λ a v al h s e. given sort.Bool s _ e (_, refl)
operator_suited plain.And = λ a v al h b w bl k s e. given sort.Bool s _ e (_, refl)
operator_suited plain.Or = λ a v al h b w bl k s e. given sort.Bool s _ e (_, refl)
operator_suited plain.Xor = λ a v al h b w bl k s e. given sort.Bool s _ e (_, refl)
operator_suited plain.Implies = λ a v al h b w bl k s e. given sort.Bool s _ e (_, refl)
operator_suited plain.Ite = choice_suited
operator_suited plain.Equal = equality_suited
operator_suited plain.Bvnot = one_suited not_of (λ n x p lt. fits.not_fits n x lt)
operator_suited plain.Bvneg = one_suited neg_of (λ n x p lt. fits.neg_fits n x lt)
operator_suited plain.Bvadd = two_suited add_of fits.add_fits
operator_suited plain.Bvsub = two_suited sub_of fits.sub_fits
operator_suited plain.Bvmul = two_suited mul_of fits.mul_fits
operator_suited plain.Bvand = two_suited and_of fits.and_fits
operator_suited plain.Bvor = two_suited or_of fits.or_fits
operator_suited plain.Bvxor = two_suited xor_of fits.xor_fits
operator_suited plain.Bvnand = two_suited nand_of fits.nand_fits
operator_suited plain.Bvnor = two_suited nor_of fits.nor_fits
operator_suited plain.Bvxnor = two_suited xnor_of fits.xnor_fits
operator_suited plain.Bvudiv = two_suited udiv_of fits.udiv_fits
operator_suited plain.Bvurem = two_suited urem_of fits.urem_fits
operator_suited plain.Bvsdiv = two_suited sdiv_of fits.sdiv_fits
operator_suited plain.Bvsrem = two_suited srem_of fits.srem_fits
operator_suited plain.Bvsmod = two_suited smod_of fits.smod_fits
operator_suited plain.Bvshl = two_suited shl_of fits.shl_fits
operator_suited plain.Bvlshr = two_suited lshr_of fits.lshr_fits
operator_suited plain.Bvashr = two_suited ashr_of fits.ashr_fits
operator_suited plain.Bvult = λ a v al h b w bl k s e. given sort.Bool s _ e (_, refl)
operator_suited plain.Bvule = λ a v al h b w bl k s e. given sort.Bool s _ e (_, refl)
operator_suited plain.Bvugt = λ a v al h b w bl k s e. given sort.Bool s _ e (_, refl)
operator_suited plain.Bvuge = λ a v al h b w bl k s e. given sort.Bool s _ e (_, refl)
operator_suited plain.Bvslt = λ a v al h b w bl k s e. given sort.Bool s _ e (_, refl)
operator_suited plain.Bvsle = λ a v al h b w bl k s e. given sort.Bool s _ e (_, refl)
operator_suited plain.Bvsgt = λ a v al h b w bl k s e. given sort.Bool s _ e (_, refl)
operator_suited plain.Bvsge = λ a v al h b w bl k s e. given sort.Bool s _ e (_, refl)
operator_suited plain.Bvcomp = comp_suited
operator_suited plain.Concat = concat_case
operator_suited plain.Select = select_case
operator_suited plain.Store = store_case
operator_suited plain.Witness = witness_case

pub suited : (M : Interpretation) (op : Op) → Suited (rank_of op) (meaning_of M op)
suited M (Plain o) = operator_suited o
suited M (Word n x) = literal_case n x
suited M (Extract i j) = word_suited (extract_sort i j) (λ n x. VWord (i - j + 1) (extract_of i j x)) λ n x s lt e. extract_case i j n x s e
suited M (ZeroExtend i) = word_suited (λ n. word_sort (n + i)) (λ n x. VWord (n + i) x) λ n x s lt e. word_given (n + i) x s e (fits.zero_extend_fits n i x lt)
suited M (SignExtend i) = word_suited (λ n. word_sort (n + i)) (λ n x. VWord (n + i) (sign_extend_of n i x)) λ n x s lt e. word_given (n + i) (sign_extend_of n i x) s e (fits.sign_extend_of_fits n i x lt)
suited M (RotateLeft i) = one_suited (λ n x. rotate_left_of n i x) (λ n x p lt. fits.rotate_left_fits n i x p lt)
suited M (RotateRight i) = one_suited (λ n x. rotate_right_of n i x) (λ n x p lt. fits.rotate_right_fits n i x p lt)
suited M (Repeat i) = word_suited (λ n. word_sort (n * i)) (λ n x. VWord (n * i) (repeat_of n i x)) λ n x s lt e. word_given (n * i) (repeat_of n i x) s e (fits.repeat_fits n i x lt)
suited M (ConstantArray k) = word_suited (λ n. constant_sort (sort.Array k n)) (λ n x. VArray k n (filled x)) λ n x s lt e. subst (λ r. HasSort r (VArray k n (filled x))) (constant_sort_ok (sort.Array k n) s e) (filled x, refl, (λ i. lt))
suited M (Constant d t) = λ s e. subst (λ k. HasSort k (read_at t (M.constants d))) (constant_sort_ok t s e) (read_has_sort t (M.constants d))
suited M (Apply d g) = application_suited g.args g.value (M.functions d)
suited M (Param k t) = λ s e. subst (λ k. HasSort k (default_of t)) (plain_sort_ok t s e) (default_has_sort t)

-- ---- terms

-- values of these sorts, one by one
abbrev pub Typed : List Sort → List Value → Type 0
Typed [] [] = Unit {0}
Typed [] (v ∷ vs) = ⊥
Typed (s ∷ ss) [] = ⊥
Typed (s ∷ ss) (v ∷ vs) = HasSort s v × Typed ss vs

applied_suited : (r : Rank) (m : Meaning) → Suited r m → (k : ℕ) (ss : List Sort) (vs : List Value) → Typed ss vs → (s : Sort) → ranked r k (map Some ss) ≡ Ok s → HasSort s (applied m vs)
applied_suited (Gives r) (Is v) h k [] vs t s e = h s e
applied_suited (Gives r) (Is v) h k (a ∷ ss) vs t s e = let q : ⊥ = cc in absurd q
applied_suited (Gives r) (Of more) h k ss vs t s e = absurd h
applied_suited (Takes d next) (Is v) h k ss vs t s e = absurd h
applied_suited (Takes d next) (Of more) h k [] vs t s e = let q : ⊥ = cc in absurd q
applied_suited (Takes d next) (Of more) h k (a ∷ ss) [] t s e = absurd t
applied_suited (Takes d next) (Of more) h k (a ∷ ss) (v ∷ vs) t s e =
    let o = takes_ok d next k (Some a) (map Some ss) s e in
    let same : a ≡ o.0 = let q = o.1 in cc in
    let al : allows d a ≡ true = ap (allows d) same ∙ o.2 in
    let rest : ranked (next a) (suc k) (map Some ss) ≡ Ok s = ap (λ b. ranked (next b) (suc k) (map Some ss)) same ∙ o.3 in
    applied_suited (next a) (more v) (h a v al t.0) (suc k) ss vs t.1 s rest

-- an operator's value is of the sort of its rank
pub typed_op : (M : Interpretation) (op : Op) (ss : List Sort) (vs : List Value) (s : Sort) → op_rank op ss ≡ Ok s → Typed ss vs → HasSort s (op_value M op vs)
typed_op M op ss vs s e t = applied_suited (rank_of op) (meaning_of M op) (suited M op) 0 ss vs t s e

pub typed_args : (s : ℕ → Sort) (v : ℕ → Value) (n : ℕ) → ((a : ℕ) → a < n → HasSort (s a) (v a)) → (args : List ℕ) → AllByRecursion (λ a. a < n) args → Typed (map s args) (map v args)
typed_args s v n ih [] h = tt
typed_args s v n ih (a ∷ args) h = (ih a h.0, typed_args s v n ih args h.1)

-- a term's sort and value are those of its node
pub sort_is : (nodes : List Node) (t : ℕ) → IsTerm nodes t → sort_of nodes t ≡ op_sort (node_at nodes t).op (map (sort_of nodes) (node_at nodes t).args)
sort_is nodes t h = at_term_is sort.Bool (λ u. op_sort) nodes t h.earlier

pub value_is : (M : Interpretation) (nodes : List Node) (t : ℕ) → IsTerm nodes t → value M nodes t ≡ op_value M (node_at nodes t).op (map (value M nodes) (node_at nodes t).args)
value_is M nodes t h = at_term_is no_value (λ u. op_value M) nodes t h.earlier

typed_upto : (M : Interpretation) (nodes : List Node) → IsTermList nodes → (n t : ℕ) → t < n → t < length nodes → HasSort (sort_of nodes t) (value M nodes t)
typed_upto M nodes terms zero t lt within = absurd (omega arith)
typed_upto M nodes terms (suc n) t lt within =
    let h = terms t within in
    let node = node_at nodes t in
    let each = typed_args (sort_of nodes) (value M nodes) t (λ a la. typed_upto M nodes terms n a (omega arith) (omega arith)) node.args h.earlier in
    let own = typed_op M node.op (map (sort_of nodes) node.args) (map (value M nodes) node.args) (sort_of nodes t) h.rank each in
    subst (HasSort (sort_of nodes t)) (sym (value_is M nodes t h)) own

-- the value of a term has the term's sort
pub typed : (M : Interpretation) (nodes : List Node) → IsTermList nodes → (t : ℕ) → t < length nodes → HasSort (sort_of nodes t) (value M nodes t)
typed M nodes terms t within = typed_upto M nodes terms (suc t) t (omega arith) within
