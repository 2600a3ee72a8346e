-- Which operators take arrays.
use Rattle.std.proofs.Common.{◌≡◌, ℕ, zero, suc, ◌+◌, ◌*◌, ◌<◌, Bool, true, false, ◌||◌, ◌&&◌, List, [], ◌∷◌, map, length, arith, refl, ap, sym, ◌∙◌, subst, Option, Some, None, Result, Ok, Err}
use Rattle.std.specs.Prelude.{if◌then◌else◌, IsOk, IsErr}
use Rattle.std.specs.List.{list_any}
use Rattle.std.proofs.lemmas.Bool.{and_parts}
use Rattle.smt_terms.specs.declared.sort.Sort.{Sort}
use Rattle.smt_terms.specs.declared.sort.Sort.TheVariants as sort
use Rattle.smt_terms.specs.declared.operator.Operator.{Operator}
use Rattle.smt_terms.specs.declared.operator.Operator.TheVariants as plain
use Rattle.smt_terms.specs.declared.node.Op.{Op}
use Rattle.smt_terms.specs.declared.node.Op.TheVariants.{Plain, Word, Extract, ZeroExtend, SignExtend, RotateLeft, RotateRight, Repeat, ConstantArray, Constant, Apply, Param}
use Rattle.smt_terms.specs.declared.fault.MakeFault.{MakeFault}
use Rattle.smt_terms.specs.declared.fault.MakeFault.TheVariants.{WrongSort}
use Rattle.smt_terms.specs.Same.{same_sort, sort_same}
use Rattle.smt_terms.specs.Ranks.{Rank, Gives, Takes, allows, ranked, is_array, is_word, is_plain, extract_sort, constant_sort, plain_sort, each_of, application, rank_of, truth, one_truth, two_truths, one_word, two_words, concatenation, word_sort, operator_rank}
use Rattle.smt_terms.specs.Terms.{op_rank}
use Rattle.smt_terms.proofs.Growing.{takes_ok}
use Rattle.smt_terms.proofs.Arities.{too_many, four_are_too_many}

-- no argument that the rank takes is an array
abbrev pub TakesNone : Rank → Type 0
TakesNone (Gives r) = Unit {0}
TakesNone (Takes d next) = (s : Sort) → allows d s ≡ true → (is_array s ≡ false) × TakesNone (next s)

pub none_taken : (r : Rank) → TakesNone r → (k : ℕ) (ss : List Sort) (s : Sort) → ranked r k (map Some ss) ≡ Ok s → list_any is_array ss ≡ false
none_taken r h k [] s e = refl
none_taken (Gives r) h k (a ∷ ss) s e = let q : ⊥ = cc in absurd q
none_taken (Takes d next) h k (a ∷ ss) s e =
    let o = takes_ok d next k (Some a) (map Some ss) s e in
    let same : o.0 ≡ a = let q = o.1 in cc in
    let taken : allows d a ≡ true = subst (λ x. allows d x ≡ true) same o.2 in
    let here = h a taken in
    let rest : ranked (next a) (suc k) (map Some ss) ≡ Ok s = subst (λ x. ranked (next x) (suc k) (map Some ss) ≡ Ok s) same o.3 in
    ap (λ b. b || list_any is_array ss) here.0 ∙ none_taken (next a) here.1 (suc k) ss s rest

truth_no : (s : Sort) → same_sort sort.Bool s ≡ true → is_array s ≡ false
truth_no s e = ap is_array (sym (sort_same sort.Bool s e))

word_no : (s : Sort) → is_word s ≡ true → is_array s ≡ false
word_no sort.Bool e = refl
word_no (sort.Word n) e = refl
word_no (sort.Array n m) e = let q : ⊥ = cc in absurd q

same_no : (s r : Sort) → is_array s ≡ false → same_sort s r ≡ true → is_array r ≡ false
same_no s r g e = ap is_array (sym (sort_same s r e)) ∙ g

truth_plain : TakesNone one_truth
truth_plain = λ s a. (truth_no s a, tt)

truths_plain : TakesNone two_truths
truths_plain = λ s a. (truth_no s a, λ r b. (truth_no r b, tt))

word_plain : (h : ℕ → Result Sort MakeFault) → TakesNone (one_word h)
word_plain h = λ s a. (word_no s a, tt)

words_plain : (h : Sort → Result Sort MakeFault) → TakesNone (two_words h)
words_plain h = λ s a. (word_no s a, λ r b. (same_no s r (word_no s a) b, tt))

concat_plain : TakesNone concatenation
concat_plain = λ s a. (word_no s a, λ r b. (word_no r b, tt))

-- the operators that take arrays
abbrev pub takes_array : Operator → Bool
takes_array plain.True = false
takes_array plain.False = false
takes_array plain.Not = false
takes_array plain.And = false
takes_array plain.Or = false
takes_array plain.Xor = false
takes_array plain.Implies = false
takes_array plain.Ite = true
takes_array plain.Equal = true
takes_array plain.Bvnot = false
takes_array plain.Bvneg = false
takes_array plain.Bvadd = false
takes_array plain.Bvsub = false
takes_array plain.Bvmul = false
takes_array plain.Bvand = false
takes_array plain.Bvor = false
takes_array plain.Bvxor = false
takes_array plain.Bvnand = false
takes_array plain.Bvnor = false
takes_array plain.Bvxnor = false
takes_array plain.Bvudiv = false
takes_array plain.Bvurem = false
takes_array plain.Bvsdiv = false
takes_array plain.Bvsrem = false
takes_array plain.Bvsmod = false
takes_array plain.Bvshl = false
takes_array plain.Bvlshr = false
takes_array plain.Bvashr = false
takes_array plain.Bvult = false
takes_array plain.Bvule = false
takes_array plain.Bvugt = false
takes_array plain.Bvuge = false
takes_array plain.Bvslt = false
takes_array plain.Bvsle = false
takes_array plain.Bvsgt = false
takes_array plain.Bvsge = false
takes_array plain.Bvcomp = false
takes_array plain.Concat = false
takes_array plain.Select = true
takes_array plain.Store = true
takes_array plain.Witness = true

others : (o : Operator) → takes_array o ≡ false → TakesNone (operator_rank o)
others plain.True e = tt
others plain.False e = tt
others plain.Not e = truth_plain
others plain.And e = truths_plain
others plain.Or e = truths_plain
others plain.Xor e = truths_plain
others plain.Implies e = truths_plain
others plain.Ite e = let q : ⊥ = cc in absurd q
others plain.Equal e = let q : ⊥ = cc in absurd q
others plain.Bvnot e = word_plain word_sort
others plain.Bvneg e = word_plain word_sort
others plain.Bvadd e = words_plain Ok
others plain.Bvsub e = words_plain Ok
others plain.Bvmul e = words_plain Ok
others plain.Bvand e = words_plain Ok
others plain.Bvor e = words_plain Ok
others plain.Bvxor e = words_plain Ok
others plain.Bvnand e = words_plain Ok
others plain.Bvnor e = words_plain Ok
others plain.Bvxnor e = words_plain Ok
others plain.Bvudiv e = words_plain Ok
others plain.Bvurem e = words_plain Ok
others plain.Bvsdiv e = words_plain Ok
others plain.Bvsrem e = words_plain Ok
others plain.Bvsmod e = words_plain Ok
others plain.Bvshl e = words_plain Ok
others plain.Bvlshr e = words_plain Ok
others plain.Bvashr e = words_plain Ok
others plain.Bvult e = words_plain λ _. truth
others plain.Bvule e = words_plain λ _. truth
others plain.Bvugt e = words_plain λ _. truth
others plain.Bvuge e = words_plain λ _. truth
others plain.Bvslt e = words_plain λ _. truth
others plain.Bvsle e = words_plain λ _. truth
others plain.Bvsgt e = words_plain λ _. truth
others plain.Bvsge e = words_plain λ _. truth
others plain.Bvcomp e = words_plain λ _. Ok (sort.Word 1)
others plain.Concat e = concat_plain
others plain.Select e = let q : ⊥ = cc in absurd q
others plain.Store e = let q : ⊥ = cc in absurd q
others plain.Witness e = let q : ⊥ = cc in absurd q

pub clash : (r : Result Sort MakeFault) → IsOk r → IsErr r → ⊥
clash (Ok s) ok err = let q : ⊥ = cc in q
clash (Err f) ok err = let q : ⊥ = cc in q

-- a rank that takes none is not applied to any
pub not_taken : (r : Rank) → TakesNone r → (ss : List Sort) → IsOk (ranked r 0 (map Some ss)) → list_any is_array ss ≡ true → ⊥
not_taken r h ss ok any = go (ranked r 0 (map Some ss)) refl ok where
  go : (x : Result Sort MakeFault) → ranked r 0 (map Some ss) ≡ x → IsOk x → ⊥
  go (Ok s) p k = let none = none_taken r h 0 ss s p in let q : ⊥ = cc in q
  go (Err f) p k = let q : ⊥ = cc in q

-- ---- numbers of arguments

-- a rank takes so many arguments at least
abbrev pub AtLeast : ℕ → Rank → Type 0
AtLeast zero r = Unit {0}
AtLeast (suc n) (Gives r) = ⊥
AtLeast (suc n) (Takes d next) = (s : Sort) → AtLeast n (next s)

pub too_few : (n : ℕ) (r : Rank) → AtLeast n r → (k : ℕ) (args : List (Option Sort)) → length args < n → IsErr (ranked r k args)
too_few zero r h k args lt = absurd (omega arith)
too_few (suc n) (Gives r) h k args lt = absurd h
too_few (suc n) (Takes d next) h k [] lt = refl
too_few (suc n) (Takes d next) h k (None ∷ args) lt = refl
too_few (suc n) (Takes d next) h k (Some s ∷ args) lt = go (allows d s) (too_few n (next s) (h s) (suc k) args (omega arith)) where
  go : (b : Bool) → IsErr (ranked (next s) (suc k) args) → IsErr (if b then ranked (next s) (suc k) args else Err (WrongSort k))
  go true ih = ih
  go false ih = refl

-- an array is not the only argument
pub one_is_none : (o : Operator) (s : Sort) → IsOk (op_rank (Plain o) (s ∷ [])) → list_any is_array (s ∷ []) ≡ true → ⊥
one_is_none plain.True s ok any = not_taken (operator_rank plain.True) (others plain.True refl) (s ∷ []) ok any
one_is_none plain.False s ok any = not_taken (operator_rank plain.False) (others plain.False refl) (s ∷ []) ok any
one_is_none plain.Not s ok any = not_taken (operator_rank plain.Not) (others plain.Not refl) (s ∷ []) ok any
one_is_none plain.And s ok any = not_taken (operator_rank plain.And) (others plain.And refl) (s ∷ []) ok any
one_is_none plain.Or s ok any = not_taken (operator_rank plain.Or) (others plain.Or refl) (s ∷ []) ok any
one_is_none plain.Xor s ok any = not_taken (operator_rank plain.Xor) (others plain.Xor refl) (s ∷ []) ok any
one_is_none plain.Implies s ok any = not_taken (operator_rank plain.Implies) (others plain.Implies refl) (s ∷ []) ok any
one_is_none plain.Ite s ok any = clash (op_rank (Plain plain.Ite) (s ∷ [])) ok (too_few 3 (operator_rank plain.Ite) (λ a b c. tt) 0 (Some s ∷ []) (omega arith))
one_is_none plain.Equal s ok any = clash (op_rank (Plain plain.Equal) (s ∷ [])) ok (too_few 2 (operator_rank plain.Equal) (λ a b. tt) 0 (Some s ∷ []) (omega arith))
one_is_none plain.Bvnot s ok any = not_taken (operator_rank plain.Bvnot) (others plain.Bvnot refl) (s ∷ []) ok any
one_is_none plain.Bvneg s ok any = not_taken (operator_rank plain.Bvneg) (others plain.Bvneg refl) (s ∷ []) ok any
one_is_none plain.Bvadd s ok any = not_taken (operator_rank plain.Bvadd) (others plain.Bvadd refl) (s ∷ []) ok any
one_is_none plain.Bvsub s ok any = not_taken (operator_rank plain.Bvsub) (others plain.Bvsub refl) (s ∷ []) ok any
one_is_none plain.Bvmul s ok any = not_taken (operator_rank plain.Bvmul) (others plain.Bvmul refl) (s ∷ []) ok any
one_is_none plain.Bvand s ok any = not_taken (operator_rank plain.Bvand) (others plain.Bvand refl) (s ∷ []) ok any
one_is_none plain.Bvor s ok any = not_taken (operator_rank plain.Bvor) (others plain.Bvor refl) (s ∷ []) ok any
one_is_none plain.Bvxor s ok any = not_taken (operator_rank plain.Bvxor) (others plain.Bvxor refl) (s ∷ []) ok any
one_is_none plain.Bvnand s ok any = not_taken (operator_rank plain.Bvnand) (others plain.Bvnand refl) (s ∷ []) ok any
one_is_none plain.Bvnor s ok any = not_taken (operator_rank plain.Bvnor) (others plain.Bvnor refl) (s ∷ []) ok any
one_is_none plain.Bvxnor s ok any = not_taken (operator_rank plain.Bvxnor) (others plain.Bvxnor refl) (s ∷ []) ok any
one_is_none plain.Bvudiv s ok any = not_taken (operator_rank plain.Bvudiv) (others plain.Bvudiv refl) (s ∷ []) ok any
one_is_none plain.Bvurem s ok any = not_taken (operator_rank plain.Bvurem) (others plain.Bvurem refl) (s ∷ []) ok any
one_is_none plain.Bvsdiv s ok any = not_taken (operator_rank plain.Bvsdiv) (others plain.Bvsdiv refl) (s ∷ []) ok any
one_is_none plain.Bvsrem s ok any = not_taken (operator_rank plain.Bvsrem) (others plain.Bvsrem refl) (s ∷ []) ok any
one_is_none plain.Bvsmod s ok any = not_taken (operator_rank plain.Bvsmod) (others plain.Bvsmod refl) (s ∷ []) ok any
one_is_none plain.Bvshl s ok any = not_taken (operator_rank plain.Bvshl) (others plain.Bvshl refl) (s ∷ []) ok any
one_is_none plain.Bvlshr s ok any = not_taken (operator_rank plain.Bvlshr) (others plain.Bvlshr refl) (s ∷ []) ok any
one_is_none plain.Bvashr s ok any = not_taken (operator_rank plain.Bvashr) (others plain.Bvashr refl) (s ∷ []) ok any
one_is_none plain.Bvult s ok any = not_taken (operator_rank plain.Bvult) (others plain.Bvult refl) (s ∷ []) ok any
one_is_none plain.Bvule s ok any = not_taken (operator_rank plain.Bvule) (others plain.Bvule refl) (s ∷ []) ok any
one_is_none plain.Bvugt s ok any = not_taken (operator_rank plain.Bvugt) (others plain.Bvugt refl) (s ∷ []) ok any
one_is_none plain.Bvuge s ok any = not_taken (operator_rank plain.Bvuge) (others plain.Bvuge refl) (s ∷ []) ok any
one_is_none plain.Bvslt s ok any = not_taken (operator_rank plain.Bvslt) (others plain.Bvslt refl) (s ∷ []) ok any
one_is_none plain.Bvsle s ok any = not_taken (operator_rank plain.Bvsle) (others plain.Bvsle refl) (s ∷ []) ok any
one_is_none plain.Bvsgt s ok any = not_taken (operator_rank plain.Bvsgt) (others plain.Bvsgt refl) (s ∷ []) ok any
one_is_none plain.Bvsge s ok any = not_taken (operator_rank plain.Bvsge) (others plain.Bvsge refl) (s ∷ []) ok any
one_is_none plain.Bvcomp s ok any = not_taken (operator_rank plain.Bvcomp) (others plain.Bvcomp refl) (s ∷ []) ok any
one_is_none plain.Concat s ok any = not_taken (operator_rank plain.Concat) (others plain.Concat refl) (s ∷ []) ok any
one_is_none plain.Select s ok any = clash (op_rank (Plain plain.Select) (s ∷ [])) ok (too_few 2 (operator_rank plain.Select) (λ a b. tt) 0 (Some s ∷ []) (omega arith))
one_is_none plain.Store s ok any = clash (op_rank (Plain plain.Store) (s ∷ [])) ok (too_few 3 (operator_rank plain.Store) (λ a b c. tt) 0 (Some s ∷ []) (omega arith))
one_is_none plain.Witness s ok any = clash (op_rank (Plain plain.Witness) (s ∷ [])) ok (too_few 2 (operator_rank plain.Witness) (λ a b. tt) 0 (Some s ∷ []) (omega arith))

-- an array is one of two arguments of these operators alone
pub two_are_none : (o : Operator) → (o ≡ plain.Equal → ⊥) → (o ≡ plain.Select → ⊥) → (o ≡ plain.Witness → ⊥) → (s r : Sort) → IsOk (op_rank (Plain o) (s ∷ r ∷ [])) → list_any is_array (s ∷ r ∷ []) ≡ true → ⊥
two_are_none plain.True e l w s r ok any = not_taken (operator_rank plain.True) (others plain.True refl) (s ∷ r ∷ []) ok any
two_are_none plain.False e l w s r ok any = not_taken (operator_rank plain.False) (others plain.False refl) (s ∷ r ∷ []) ok any
two_are_none plain.Not e l w s r ok any = not_taken (operator_rank plain.Not) (others plain.Not refl) (s ∷ r ∷ []) ok any
two_are_none plain.And e l w s r ok any = not_taken (operator_rank plain.And) (others plain.And refl) (s ∷ r ∷ []) ok any
two_are_none plain.Or e l w s r ok any = not_taken (operator_rank plain.Or) (others plain.Or refl) (s ∷ r ∷ []) ok any
two_are_none plain.Xor e l w s r ok any = not_taken (operator_rank plain.Xor) (others plain.Xor refl) (s ∷ r ∷ []) ok any
two_are_none plain.Implies e l w s r ok any = not_taken (operator_rank plain.Implies) (others plain.Implies refl) (s ∷ r ∷ []) ok any
two_are_none plain.Ite e l w s r ok any = clash (op_rank (Plain plain.Ite) (s ∷ r ∷ [])) ok (too_few 3 (operator_rank plain.Ite) (λ a b c. tt) 0 (Some s ∷ Some r ∷ []) (omega arith))
two_are_none plain.Equal e l w s r ok any = e refl
two_are_none plain.Bvnot e l w s r ok any = not_taken (operator_rank plain.Bvnot) (others plain.Bvnot refl) (s ∷ r ∷ []) ok any
two_are_none plain.Bvneg e l w s r ok any = not_taken (operator_rank plain.Bvneg) (others plain.Bvneg refl) (s ∷ r ∷ []) ok any
two_are_none plain.Bvadd e l w s r ok any = not_taken (operator_rank plain.Bvadd) (others plain.Bvadd refl) (s ∷ r ∷ []) ok any
two_are_none plain.Bvsub e l w s r ok any = not_taken (operator_rank plain.Bvsub) (others plain.Bvsub refl) (s ∷ r ∷ []) ok any
two_are_none plain.Bvmul e l w s r ok any = not_taken (operator_rank plain.Bvmul) (others plain.Bvmul refl) (s ∷ r ∷ []) ok any
two_are_none plain.Bvand e l w s r ok any = not_taken (operator_rank plain.Bvand) (others plain.Bvand refl) (s ∷ r ∷ []) ok any
two_are_none plain.Bvor e l w s r ok any = not_taken (operator_rank plain.Bvor) (others plain.Bvor refl) (s ∷ r ∷ []) ok any
two_are_none plain.Bvxor e l w s r ok any = not_taken (operator_rank plain.Bvxor) (others plain.Bvxor refl) (s ∷ r ∷ []) ok any
two_are_none plain.Bvnand e l w s r ok any = not_taken (operator_rank plain.Bvnand) (others plain.Bvnand refl) (s ∷ r ∷ []) ok any
two_are_none plain.Bvnor e l w s r ok any = not_taken (operator_rank plain.Bvnor) (others plain.Bvnor refl) (s ∷ r ∷ []) ok any
two_are_none plain.Bvxnor e l w s r ok any = not_taken (operator_rank plain.Bvxnor) (others plain.Bvxnor refl) (s ∷ r ∷ []) ok any
two_are_none plain.Bvudiv e l w s r ok any = not_taken (operator_rank plain.Bvudiv) (others plain.Bvudiv refl) (s ∷ r ∷ []) ok any
two_are_none plain.Bvurem e l w s r ok any = not_taken (operator_rank plain.Bvurem) (others plain.Bvurem refl) (s ∷ r ∷ []) ok any
two_are_none plain.Bvsdiv e l w s r ok any = not_taken (operator_rank plain.Bvsdiv) (others plain.Bvsdiv refl) (s ∷ r ∷ []) ok any
two_are_none plain.Bvsrem e l w s r ok any = not_taken (operator_rank plain.Bvsrem) (others plain.Bvsrem refl) (s ∷ r ∷ []) ok any
two_are_none plain.Bvsmod e l w s r ok any = not_taken (operator_rank plain.Bvsmod) (others plain.Bvsmod refl) (s ∷ r ∷ []) ok any
two_are_none plain.Bvshl e l w s r ok any = not_taken (operator_rank plain.Bvshl) (others plain.Bvshl refl) (s ∷ r ∷ []) ok any
two_are_none plain.Bvlshr e l w s r ok any = not_taken (operator_rank plain.Bvlshr) (others plain.Bvlshr refl) (s ∷ r ∷ []) ok any
two_are_none plain.Bvashr e l w s r ok any = not_taken (operator_rank plain.Bvashr) (others plain.Bvashr refl) (s ∷ r ∷ []) ok any
two_are_none plain.Bvult e l w s r ok any = not_taken (operator_rank plain.Bvult) (others plain.Bvult refl) (s ∷ r ∷ []) ok any
two_are_none plain.Bvule e l w s r ok any = not_taken (operator_rank plain.Bvule) (others plain.Bvule refl) (s ∷ r ∷ []) ok any
two_are_none plain.Bvugt e l w s r ok any = not_taken (operator_rank plain.Bvugt) (others plain.Bvugt refl) (s ∷ r ∷ []) ok any
two_are_none plain.Bvuge e l w s r ok any = not_taken (operator_rank plain.Bvuge) (others plain.Bvuge refl) (s ∷ r ∷ []) ok any
two_are_none plain.Bvslt e l w s r ok any = not_taken (operator_rank plain.Bvslt) (others plain.Bvslt refl) (s ∷ r ∷ []) ok any
two_are_none plain.Bvsle e l w s r ok any = not_taken (operator_rank plain.Bvsle) (others plain.Bvsle refl) (s ∷ r ∷ []) ok any
two_are_none plain.Bvsgt e l w s r ok any = not_taken (operator_rank plain.Bvsgt) (others plain.Bvsgt refl) (s ∷ r ∷ []) ok any
two_are_none plain.Bvsge e l w s r ok any = not_taken (operator_rank plain.Bvsge) (others plain.Bvsge refl) (s ∷ r ∷ []) ok any
two_are_none plain.Bvcomp e l w s r ok any = not_taken (operator_rank plain.Bvcomp) (others plain.Bvcomp refl) (s ∷ r ∷ []) ok any
two_are_none plain.Concat e l w s r ok any = not_taken (operator_rank plain.Concat) (others plain.Concat refl) (s ∷ r ∷ []) ok any
two_are_none plain.Select e l w s r ok any = l refl
two_are_none plain.Store e l w s r ok any = clash (op_rank (Plain plain.Store) (s ∷ r ∷ [])) ok (too_few 3 (operator_rank plain.Store) (λ a b c. tt) 0 (Some s ∷ Some r ∷ []) (omega arith))
two_are_none plain.Witness e l w s r ok any = w refl

-- an array is one of three arguments of these operators alone
pub three_are_none : (o : Operator) → (o ≡ plain.Ite → ⊥) → (o ≡ plain.Store → ⊥) → (s r q : Sort) → IsOk (op_rank (Plain o) (s ∷ r ∷ q ∷ [])) → list_any is_array (s ∷ r ∷ q ∷ []) ≡ true → ⊥
three_are_none plain.True i t s r q ok any = not_taken (operator_rank plain.True) (others plain.True refl) (s ∷ r ∷ q ∷ []) ok any
three_are_none plain.False i t s r q ok any = not_taken (operator_rank plain.False) (others plain.False refl) (s ∷ r ∷ q ∷ []) ok any
three_are_none plain.Not i t s r q ok any = not_taken (operator_rank plain.Not) (others plain.Not refl) (s ∷ r ∷ q ∷ []) ok any
three_are_none plain.And i t s r q ok any = not_taken (operator_rank plain.And) (others plain.And refl) (s ∷ r ∷ q ∷ []) ok any
three_are_none plain.Or i t s r q ok any = not_taken (operator_rank plain.Or) (others plain.Or refl) (s ∷ r ∷ q ∷ []) ok any
three_are_none plain.Xor i t s r q ok any = not_taken (operator_rank plain.Xor) (others plain.Xor refl) (s ∷ r ∷ q ∷ []) ok any
three_are_none plain.Implies i t s r q ok any = not_taken (operator_rank plain.Implies) (others plain.Implies refl) (s ∷ r ∷ q ∷ []) ok any
three_are_none plain.Ite i t s r q ok any = i refl
three_are_none plain.Equal i t s r q ok any = clash (op_rank (Plain plain.Equal) (s ∷ r ∷ q ∷ [])) ok (too_many 2 (operator_rank plain.Equal) (λ a b. tt) 0 (Some s ∷ Some r ∷ Some q ∷ []) (omega arith))
three_are_none plain.Bvnot i t s r q ok any = not_taken (operator_rank plain.Bvnot) (others plain.Bvnot refl) (s ∷ r ∷ q ∷ []) ok any
three_are_none plain.Bvneg i t s r q ok any = not_taken (operator_rank plain.Bvneg) (others plain.Bvneg refl) (s ∷ r ∷ q ∷ []) ok any
three_are_none plain.Bvadd i t s r q ok any = not_taken (operator_rank plain.Bvadd) (others plain.Bvadd refl) (s ∷ r ∷ q ∷ []) ok any
three_are_none plain.Bvsub i t s r q ok any = not_taken (operator_rank plain.Bvsub) (others plain.Bvsub refl) (s ∷ r ∷ q ∷ []) ok any
three_are_none plain.Bvmul i t s r q ok any = not_taken (operator_rank plain.Bvmul) (others plain.Bvmul refl) (s ∷ r ∷ q ∷ []) ok any
three_are_none plain.Bvand i t s r q ok any = not_taken (operator_rank plain.Bvand) (others plain.Bvand refl) (s ∷ r ∷ q ∷ []) ok any
three_are_none plain.Bvor i t s r q ok any = not_taken (operator_rank plain.Bvor) (others plain.Bvor refl) (s ∷ r ∷ q ∷ []) ok any
three_are_none plain.Bvxor i t s r q ok any = not_taken (operator_rank plain.Bvxor) (others plain.Bvxor refl) (s ∷ r ∷ q ∷ []) ok any
three_are_none plain.Bvnand i t s r q ok any = not_taken (operator_rank plain.Bvnand) (others plain.Bvnand refl) (s ∷ r ∷ q ∷ []) ok any
three_are_none plain.Bvnor i t s r q ok any = not_taken (operator_rank plain.Bvnor) (others plain.Bvnor refl) (s ∷ r ∷ q ∷ []) ok any
three_are_none plain.Bvxnor i t s r q ok any = not_taken (operator_rank plain.Bvxnor) (others plain.Bvxnor refl) (s ∷ r ∷ q ∷ []) ok any
three_are_none plain.Bvudiv i t s r q ok any = not_taken (operator_rank plain.Bvudiv) (others plain.Bvudiv refl) (s ∷ r ∷ q ∷ []) ok any
three_are_none plain.Bvurem i t s r q ok any = not_taken (operator_rank plain.Bvurem) (others plain.Bvurem refl) (s ∷ r ∷ q ∷ []) ok any
three_are_none plain.Bvsdiv i t s r q ok any = not_taken (operator_rank plain.Bvsdiv) (others plain.Bvsdiv refl) (s ∷ r ∷ q ∷ []) ok any
three_are_none plain.Bvsrem i t s r q ok any = not_taken (operator_rank plain.Bvsrem) (others plain.Bvsrem refl) (s ∷ r ∷ q ∷ []) ok any
three_are_none plain.Bvsmod i t s r q ok any = not_taken (operator_rank plain.Bvsmod) (others plain.Bvsmod refl) (s ∷ r ∷ q ∷ []) ok any
three_are_none plain.Bvshl i t s r q ok any = not_taken (operator_rank plain.Bvshl) (others plain.Bvshl refl) (s ∷ r ∷ q ∷ []) ok any
three_are_none plain.Bvlshr i t s r q ok any = not_taken (operator_rank plain.Bvlshr) (others plain.Bvlshr refl) (s ∷ r ∷ q ∷ []) ok any
three_are_none plain.Bvashr i t s r q ok any = not_taken (operator_rank plain.Bvashr) (others plain.Bvashr refl) (s ∷ r ∷ q ∷ []) ok any
three_are_none plain.Bvult i t s r q ok any = not_taken (operator_rank plain.Bvult) (others plain.Bvult refl) (s ∷ r ∷ q ∷ []) ok any
three_are_none plain.Bvule i t s r q ok any = not_taken (operator_rank plain.Bvule) (others plain.Bvule refl) (s ∷ r ∷ q ∷ []) ok any
three_are_none plain.Bvugt i t s r q ok any = not_taken (operator_rank plain.Bvugt) (others plain.Bvugt refl) (s ∷ r ∷ q ∷ []) ok any
three_are_none plain.Bvuge i t s r q ok any = not_taken (operator_rank plain.Bvuge) (others plain.Bvuge refl) (s ∷ r ∷ q ∷ []) ok any
three_are_none plain.Bvslt i t s r q ok any = not_taken (operator_rank plain.Bvslt) (others plain.Bvslt refl) (s ∷ r ∷ q ∷ []) ok any
three_are_none plain.Bvsle i t s r q ok any = not_taken (operator_rank plain.Bvsle) (others plain.Bvsle refl) (s ∷ r ∷ q ∷ []) ok any
three_are_none plain.Bvsgt i t s r q ok any = not_taken (operator_rank plain.Bvsgt) (others plain.Bvsgt refl) (s ∷ r ∷ q ∷ []) ok any
three_are_none plain.Bvsge i t s r q ok any = not_taken (operator_rank plain.Bvsge) (others plain.Bvsge refl) (s ∷ r ∷ q ∷ []) ok any
three_are_none plain.Bvcomp i t s r q ok any = not_taken (operator_rank plain.Bvcomp) (others plain.Bvcomp refl) (s ∷ r ∷ q ∷ []) ok any
three_are_none plain.Concat i t s r q ok any = not_taken (operator_rank plain.Concat) (others plain.Concat refl) (s ∷ r ∷ q ∷ []) ok any
three_are_none plain.Select i t s r q ok any = clash (op_rank (Plain plain.Select) (s ∷ r ∷ q ∷ [])) ok (too_many 2 (operator_rank plain.Select) (λ a b. tt) 0 (Some s ∷ Some r ∷ Some q ∷ []) (omega arith))
three_are_none plain.Store i t s r q ok any = t refl
three_are_none plain.Witness i t s r q ok any = clash (op_rank (Plain plain.Witness) (s ∷ r ∷ q ∷ [])) ok (too_many 2 (operator_rank plain.Witness) (λ a b. tt) 0 (Some s ∷ Some r ∷ Some q ∷ []) (omega arith))

-- no operator has more arguments
pub more_are_none : (o : Operator) (ss : List Sort) → 3 < length ss → IsOk (op_rank (Plain o) ss) → ⊥
more_are_none o ss lt ok = clash (op_rank (Plain o) ss) ok (four_are_too_many o ss lt)

-- ---- operators with an index, literals, and functions

argument_no : (t s : Sort) → (is_plain t && same_sort t s) ≡ true → is_array s ≡ false
argument_no t s e = let b = and_parts (is_plain t) (same_sort t s) e in ap is_array (sym (sort_same t s b.1)) ∙ plain_no t b.0 where
  plain_no : (r : Sort) → is_plain r ≡ true → is_array r ≡ false
  plain_no sort.Bool p = refl
  plain_no (sort.Word n) p = refl
  plain_no (sort.Array n m) p = let q : ⊥ = cc in absurd q

each_plain : (ss : List Sort) (r : Result Sort MakeFault) → TakesNone (each_of ss r)
each_plain [] r = tt
each_plain (t ∷ ss) r = λ s a. (argument_no t s a, each_plain ss r)

application_plain : (ss : List Sort) (value : Sort) → TakesNone (application ss value)
application_plain [] value = tt
application_plain (s ∷ ss) value = each_plain (s ∷ ss) (plain_sort value)

pub takes_none : (op : Op) → ((o : Operator) → op ≡ Plain o → ⊥) → TakesNone (rank_of op)
takes_none (Plain o) h = absurd (h o refl)
takes_none (Word n x) h = tt
takes_none (Extract i j) h = word_plain (extract_sort i j)
takes_none (ZeroExtend i) h = word_plain λ n. word_sort (n + i)
takes_none (SignExtend i) h = word_plain λ n. word_sort (n + i)
takes_none (RotateLeft i) h = word_plain word_sort
takes_none (RotateRight i) h = word_plain word_sort
takes_none (Repeat i) h = word_plain λ n. word_sort (n * i)
takes_none (ConstantArray k) h = word_plain λ n. constant_sort (sort.Array k n)
takes_none (Constant d s) h = tt
takes_none (Apply d g) h = application_plain g.args g.value
takes_none (Param k s) h = tt
