-- Operators give alike values for alike arguments.
use Rattle.std.proofs.Common.{◌≡◌, ℕ, zero, suc, ◌^◌, ◌<◌, Bool, true, false, not, ◌&&◌, List, [], ◌∷◌, map, refl, sym, ap, ◌∙◌, subst, arith, Some, Result, Ok}
use Rattle.std.specs.Prelude.{◌==◌, if◌then◌else◌}
use Rattle.std.proofs.lemmas.Bool.{and_parts, eqb-true, eqb-false}
use Rattle.smt_terms.specs.declared.sort.Sort.{Sort}
use Rattle.smt_terms.specs.declared.sort.Sort.TheVariants as sort
use Rattle.smt_terms.specs.declared.operator.Operator.{Operator}
use Rattle.smt_terms.specs.declared.operator.Operator.TheVariants as plain
use Rattle.smt_terms.specs.declared.node.Op.{Op}
use Rattle.smt_terms.specs.declared.node.Op.TheVariants.{Plain, Word, Extract, ZeroExtend, SignExtend, RotateLeft, RotateRight, Repeat, ConstantArray, Constant, Apply, Param}
use Rattle.smt_terms.specs.declared.fault.MakeFault.{MakeFault}
use Rattle.smt_terms.specs.Same.{same_sort, sort_same}
use Rattle.smt_terms.specs.Ranks.{is_plain, is_word, is_array, index_sort, element_sort, allows, Rank, Gives, Takes, ranked, one_truth, two_truths, one_word, two_words, concatenation, equality, choice, selection, storing, difference, each_of, application, word_sort, plain_sort, operator_rank, rank_of}
use Rattle.smt_terms.specs.Values.{Value, VBool, VWord, VArray, Elements, HasSort, held_at, is_true, number_of, no_value, read_at, same_value, select_of, store_of, witness_of, with_entry, all_below, first_below, Interpretation, Meaning, Is, Of, applied, collected, operator_meaning, meaning_of}
use Rattle.smt_terms.proofs.Arrays.{stored_same, stored_other}
use Rattle.smt_terms.proofs.Growing.{takes_ok}
use Rattle.smt_terms.proofs.Typing.{Suited, suited, constant_sort_ok, plain_sort_ok, Typed}
use Rattle.written_models.specs.Alike.{AreAlike, HaveSorts}

-- ---- alike values

pub alike_itself : (s : Sort) (v : Value) → HasSort s v → AreAlike s v v
alike_itself sort.Bool v h = refl
alike_itself (sort.Word n) v h = refl
alike_itself (sort.Array n m) v h = (h.0, h.0, h.1, h.1, λ i lt. refl)

pub plain_same : (s : Sort) (v w : Value) → is_plain s ≡ true → AreAlike s v w → v ≡ w
plain_same sort.Bool v w p h = h
plain_same (sort.Word n) v w p h = h
plain_same (sort.Array n m) v w p h = let q : ⊥ = cc in absurd q

plain_alike : (s : Sort) (v w : Value) → is_plain s ≡ true → v ≡ w → AreAlike s v w
plain_alike sort.Bool v w p h = h
plain_alike (sort.Word n) v w p h = h
plain_alike (sort.Array n m) v w p h = let q : ⊥ = cc in absurd q

-- ---- tests at each number below another

all_below_alike : (p q : ℕ → Bool) (n : ℕ) → ((i : ℕ) → i < n → p i ≡ q i) → all_below p n ≡ all_below q n
unfolding all_below
all_below_alike p q zero h = refl
all_below_alike p q (suc n) h = rw (all_below_alike p q n (λ i lt. h i (omega arith)), h n (omega arith)) refl

first_below_alike : (p q : ℕ → Bool) (n : ℕ) → ((i : ℕ) → i < n → p i ≡ q i) → first_below p n ≡ first_below q n
unfolding first_below
first_below_alike p q zero h = refl
first_below_alike p q (suc n) h =
    let below : (i : ℕ) → i < n → p i ≡ q i = λ i lt. h i (omega arith) in
    rw (all_below_alike (λ i. not (p i)) (λ i. not (q i)) n (λ i lt. ap not (below i lt)), first_below_alike p q n below, h n (omega arith)) refl

-- ---- operators

-- two meanings give alike values of the sort that a rank gives, for alike arguments that the rank takes
abbrev pub Same : Rank → Meaning → Meaning → Type 0
Same (Gives r) (Is v) (Is w) = (s : Sort) → r ≡ Ok s → AreAlike s v w
Same (Gives r) (Is v) (Of g) = ⊥
Same (Gives r) (Of f) m = ⊥
Same (Takes d next) (Is v) m = ⊥
Same (Takes d next) (Of f) (Is w) = ⊥
Same (Takes d next) (Of f) (Of g) = (s : Sort) (v w : Value) → allows d s ≡ true → HasSort s v → HasSort s w → AreAlike s v w → Same (next s) (f v) (g w)

-- the rank takes Bools and words alone
abbrev TakesPlain : Rank → Type 0
TakesPlain (Gives r) = Unit {0}
TakesPlain (Takes d next) = (s : Sort) → allows d s ≡ true → (is_plain s ≡ true) × TakesPlain (next s)

plain_operator : (r : Rank) (m : Meaning) → TakesPlain r → Suited r m → Same r m m
plain_operator (Gives r) (Is v) p h = λ s e. alike_itself s v (h s e)
plain_operator (Gives r) (Of more) p h = absurd h
plain_operator (Takes d next) (Is v) p h = absurd h
plain_operator (Takes d next) (Of more) p h = λ s v w al hv hw like.
    (let k = p s al in
    let same : v ≡ w = plain_same s v w k.0 like in
    subst (λ x. Same (next s) (more v) (more x)) same (plain_operator (next s) (more v) k.1 (h s v al hv)))

truth_plain : (s : Sort) → same_sort sort.Bool s ≡ true → is_plain s ≡ true
truth_plain s e = ap is_plain (sym (sort_same sort.Bool s e))

word_plain : (s : Sort) → is_word s ≡ true → is_plain s ≡ true
word_plain sort.Bool e = refl
word_plain (sort.Word n) e = refl
word_plain (sort.Array n m) e = let q : ⊥ = cc in absurd q

as_word : (s r : Sort) → is_word s ≡ true → same_sort s r ≡ true → is_plain r ≡ true
as_word s r w e = subst (λ x. is_plain x ≡ true) (sort_same s r e) (word_plain s w)

takes_truth : TakesPlain one_truth
takes_truth = λ s al. (truth_plain s al, tt)

takes_truths : TakesPlain two_truths
takes_truths = λ s al. (truth_plain s al, λ r bl. (truth_plain r bl, tt))

takes_word : TakesPlain (one_word word_sort)
takes_word = λ s al. (word_plain s al, tt)

takes_words : TakesPlain (two_words Ok)
takes_words = λ s al. (word_plain s al, λ r bl. (as_word s r al bl, tt))

takes_parts : TakesPlain concatenation
takes_parts = λ s al. (word_plain s al, λ r bl. (word_plain r bl, tt))

-- ---- operators of arrays

given : (t s : Sort) (v w : Value) → (let r : Result Sort MakeFault = Ok t in r) ≡ Ok s → AreAlike t v w → AreAlike s v w
given t s v w e h = let same : t ≡ s = cc in subst (λ k. AreAlike k v w) same h

as_sort : (a b : Sort) (v w : Value) → same_sort a b ≡ true → AreAlike b v w → AreAlike a v w
as_sort a b v w e h = subst (λ r. AreAlike r v w) (sym (sort_same a b e)) h

word_lt : (n : ℕ) (b : Sort) (v : Value) → same_sort (sort.Word n) b ≡ true → HasSort b v → number_of v < 2 ^ n
word_lt n b v e h = let k : HasSort (sort.Word n) v = subst (λ r. HasSort r v) (sym (sort_same (sort.Word n) b e)) h in rw k.1 k.2

chosen : (s : Sort) (b : Bool) (v v' w w' : Value) → AreAlike s v v' → AreAlike s w w' → AreAlike s (if b then v else w) (if b then v' else w')
chosen s true v v' w w' h k = h
chosen s false v v' w w' h k = k

same_choice : Same choice (operator_meaning plain.Ite) (operator_meaning plain.Ite)
same_choice = λ a c c' al hc hc' like s v v' vl hv hv' first r w w' wl hw hw' second q e.
    (let test : c ≡ c' = plain_same a c c' (truth_plain a al) like in
    given s q _ _ e
    (subst (λ x. AreAlike s (if is_true c then v else w) (if is_true x then v' else w')) test
    (chosen s (is_true c) v v' w w' first (as_sort s r w w' wl second))))

equal_alike : (s : Sort) (v v' w w' : Value) → AreAlike s v v' → AreAlike s w w' → same_value v w ≡ same_value v' w'
equal_alike sort.Bool v v' w w' h k = rw (h, k) refl
equal_alike (sort.Word n) v v' w w' h k = rw (h, k) refl
equal_alike (sort.Array n m) v v' w w' h k =
    rw (h.2, h.3, k.2, k.3) (all_below_alike (λ i. held_at h.0 i == held_at k.0 i) (λ i. held_at h.1 i == held_at k.1 i) (2 ^ n) (λ i lt j. h.4 i lt j == k.4 i lt j))

same_equality : Same equality (operator_meaning plain.Equal) (operator_meaning plain.Equal)
same_equality = λ s v v' al hv hv' first r w w' bl hw hw' second q e.
    given sort.Bool q _ _ e (ap VBool (equal_alike s v v' w w' first (as_sort s r w w' bl second)))

selected : (n m : ℕ) (v v' i i' : Value) → AreAlike (sort.Array n m) v v' → i ≡ i' → number_of i < 2 ^ n → select_of v i ≡ select_of v' i'
selected n m v v' i i' h same lt = rw (h.2, h.3, sym same) (ap (VWord m) (h.4 (number_of i) lt))

same_selection : Same selection (operator_meaning plain.Select) (operator_meaning plain.Select)
same_selection = go where
  go : (a : Sort) (v v' : Value) → is_array a ≡ true → HasSort a v → HasSort a v' → AreAlike a v v' → (b : Sort) (i i' : Value) → same_sort (index_sort a) b ≡ true → HasSort b i → HasSort b i' → AreAlike b i i'
      → (s : Sort) → (let r : Result Sort MakeFault = Ok (element_sort a) in r) ≡ Ok s → AreAlike s (select_of v i) (select_of v' i')
  go sort.Bool v v' al hv hv' first b i i' bl hi hi' second s e = let q : ⊥ = cc in absurd q
  go (sort.Word n) v v' al hv hv' first b i i' bl hi hi' second s e = let q : ⊥ = cc in absurd q
  go (sort.Array n m) v v' al hv hv' first b i i' bl hi hi' second s e =
      given (sort.Word m) s _ _ e (selected n m v v' i i' first (as_sort (sort.Word n) b i i' bl second) (word_lt n b i bl hi))

entered_alike : (a b : Elements) (i x k : ℕ) → held_at a k ≡ held_at b k → held_at (with_entry a i x) k ≡ held_at (with_entry b i x) k
entered_alike a b i x k h = go (k == i) refl where
  go : (c : Bool) → (k == i) ≡ c → held_at (with_entry a i x) k ≡ held_at (with_entry b i x) k
  go true e = stored_same a i x k (eqb-true k i e) ∙ sym (stored_same b i x k (eqb-true k i e))
  go false e = stored_other a i x k (eqb-false k i e) ∙ h ∙ sym (stored_other b i x k (eqb-false k i e))

stored : (n m : ℕ) (v v' i i' x x' : Value) → AreAlike (sort.Array n m) v v' → i ≡ i' → x ≡ x' → AreAlike (sort.Array n m) (store_of v i x) (store_of v' i' x')
stored n m v v' i i' x x' h p q =
    let a = with_entry h.0 (number_of i) (number_of x) in
    let b = with_entry h.1 (number_of i) (number_of x) in
    let left : store_of v i x ≡ VArray n m a = rw h.2 refl in
    let right : store_of v' i' x' ≡ VArray n m b = rw (h.3, sym p, sym q) refl in
    (a, b, left, right, λ k lt. entered_alike h.0 h.1 (number_of i) (number_of x) k (h.4 k lt))

same_storing : Same storing (operator_meaning plain.Store) (operator_meaning plain.Store)
same_storing = go where
  go : (a : Sort) (v v' : Value) → is_array a ≡ true → HasSort a v → HasSort a v' → AreAlike a v v' → (b : Sort) (i i' : Value) → same_sort (index_sort a) b ≡ true → HasSort b i → HasSort b i' → AreAlike b i i'
      → (c : Sort) (x x' : Value) → same_sort (element_sort a) c ≡ true → HasSort c x → HasSort c x' → AreAlike c x x'
      → (s : Sort) → (let r : Result Sort MakeFault = Ok a in r) ≡ Ok s → AreAlike s (store_of v i x) (store_of v' i' x')
  go sort.Bool v v' al hv hv' first b i i' bl hi hi' second c x x' cl hx hx' third s e = let q : ⊥ = cc in absurd q
  go (sort.Word n) v v' al hv hv' first b i i' bl hi hi' second c x x' cl hx hx' third s e = let q : ⊥ = cc in absurd q
  go (sort.Array n m) v v' al hv hv' first b i i' bl hi hi' second c x x' cl hx hx' third s e =
      given (sort.Array n m) s _ _ e (stored n m v v' i i' x x' first (as_sort (sort.Word n) b i i' bl second) (as_sort (sort.Word m) c x x' cl third))

witnessed : (n m : ℕ) (v v' w w' : Value) → AreAlike (sort.Array n m) v v' → AreAlike (sort.Array n m) w w' → witness_of v w ≡ witness_of v' w'
witnessed n m v v' w w' h k =
    rw (h.2, h.3, k.2, k.3)
    (ap (VWord n) (first_below_alike (λ i. not (held_at h.0 i == held_at k.0 i)) (λ i. not (held_at h.1 i == held_at k.1 i)) (2 ^ n) (λ i lt j. not (h.4 i lt j == k.4 i lt j))))

same_difference : Same difference (operator_meaning plain.Witness) (operator_meaning plain.Witness)
same_difference = go where
  go : (a : Sort) (v v' : Value) → is_array a ≡ true → HasSort a v → HasSort a v' → AreAlike a v v' → (b : Sort) (w w' : Value) → same_sort a b ≡ true → HasSort b w → HasSort b w' → AreAlike b w w'
      → (s : Sort) → (let r : Result Sort MakeFault = Ok (index_sort a) in r) ≡ Ok s → AreAlike s (witness_of v w) (witness_of v' w')
  go sort.Bool v v' al hv hv' first b w w' bl hw hw' second s e = let q : ⊥ = cc in absurd q
  go (sort.Word n) v v' al hv hv' first b w w' bl hw hw' second s e = let q : ⊥ = cc in absurd q
  go (sort.Array n m) v v' al hv hv' first b w w' bl hw hw' second s e =
      given (sort.Word n) s _ _ e (witnessed n m v v' w w' first (as_sort (sort.Array n m) b w w' bl second))

-- ---- each operator

abbrev no_interpretation : Interpretation
no_interpretation = record { constants = λ d. no_value; functions = λ d vs. no_value }

same_operator : (o : Operator) → Same (operator_rank o) (operator_meaning o) (operator_meaning o)
same_operator o = go o (suited no_interpretation (Plain o)) where
  go : (o : Operator) → Suited (operator_rank o) (operator_meaning o) → Same (operator_rank o) (operator_meaning o) (operator_meaning o)
  go plain.True h = plain_operator (operator_rank plain.True) (operator_meaning plain.True) tt h
  go plain.False h = plain_operator (operator_rank plain.False) (operator_meaning plain.False) tt h
  go plain.Not h = plain_operator (operator_rank plain.Not) (operator_meaning plain.Not) takes_truth h
  go plain.And h = plain_operator (operator_rank plain.And) (operator_meaning plain.And) takes_truths h
  go plain.Or h = plain_operator (operator_rank plain.Or) (operator_meaning plain.Or) takes_truths h
  go plain.Xor h = plain_operator (operator_rank plain.Xor) (operator_meaning plain.Xor) takes_truths h
  go plain.Implies h = plain_operator (operator_rank plain.Implies) (operator_meaning plain.Implies) takes_truths h
  go plain.Ite h = same_choice
  go plain.Equal h = same_equality
  go plain.Concat h = plain_operator (operator_rank plain.Concat) (operator_meaning plain.Concat) takes_parts h
  go plain.Select h = same_selection
  go plain.Store h = same_storing
  go plain.Witness h = same_difference
  go plain.Bvnot h = plain_operator (operator_rank plain.Bvnot) (operator_meaning plain.Bvnot) takes_word h
  go plain.Bvneg h = plain_operator (operator_rank plain.Bvneg) (operator_meaning plain.Bvneg) takes_word h
  go plain.Bvadd h = plain_operator (operator_rank plain.Bvadd) (operator_meaning plain.Bvadd) takes_words h
  go plain.Bvsub h = plain_operator (operator_rank plain.Bvsub) (operator_meaning plain.Bvsub) takes_words h
  go plain.Bvmul h = plain_operator (operator_rank plain.Bvmul) (operator_meaning plain.Bvmul) takes_words h
  go plain.Bvand h = plain_operator (operator_rank plain.Bvand) (operator_meaning plain.Bvand) takes_words h
  go plain.Bvor h = plain_operator (operator_rank plain.Bvor) (operator_meaning plain.Bvor) takes_words h
  go plain.Bvxor h = plain_operator (operator_rank plain.Bvxor) (operator_meaning plain.Bvxor) takes_words h
  go plain.Bvnand h = plain_operator (operator_rank plain.Bvnand) (operator_meaning plain.Bvnand) takes_words h
  go plain.Bvnor h = plain_operator (operator_rank plain.Bvnor) (operator_meaning plain.Bvnor) takes_words h
  go plain.Bvxnor h = plain_operator (operator_rank plain.Bvxnor) (operator_meaning plain.Bvxnor) takes_words h
  go plain.Bvudiv h = plain_operator (operator_rank plain.Bvudiv) (operator_meaning plain.Bvudiv) takes_words h
  go plain.Bvurem h = plain_operator (operator_rank plain.Bvurem) (operator_meaning plain.Bvurem) takes_words h
  go plain.Bvsdiv h = plain_operator (operator_rank plain.Bvsdiv) (operator_meaning plain.Bvsdiv) takes_words h
  go plain.Bvsrem h = plain_operator (operator_rank plain.Bvsrem) (operator_meaning plain.Bvsrem) takes_words h
  go plain.Bvsmod h = plain_operator (operator_rank plain.Bvsmod) (operator_meaning plain.Bvsmod) takes_words h
  go plain.Bvshl h = plain_operator (operator_rank plain.Bvshl) (operator_meaning plain.Bvshl) takes_words h
  go plain.Bvlshr h = plain_operator (operator_rank plain.Bvlshr) (operator_meaning plain.Bvlshr) takes_words h
  go plain.Bvashr h = plain_operator (operator_rank plain.Bvashr) (operator_meaning plain.Bvashr) takes_words h
  go plain.Bvult h = plain_operator (operator_rank plain.Bvult) (operator_meaning plain.Bvult) takes_words h
  go plain.Bvule h = plain_operator (operator_rank plain.Bvule) (operator_meaning plain.Bvule) takes_words h
  go plain.Bvugt h = plain_operator (operator_rank plain.Bvugt) (operator_meaning plain.Bvugt) takes_words h
  go plain.Bvuge h = plain_operator (operator_rank plain.Bvuge) (operator_meaning plain.Bvuge) takes_words h
  go plain.Bvslt h = plain_operator (operator_rank plain.Bvslt) (operator_meaning plain.Bvslt) takes_words h
  go plain.Bvsle h = plain_operator (operator_rank plain.Bvsle) (operator_meaning plain.Bvsle) takes_words h
  go plain.Bvsgt h = plain_operator (operator_rank plain.Bvsgt) (operator_meaning plain.Bvsgt) takes_words h
  go plain.Bvsge h = plain_operator (operator_rank plain.Bvsge) (operator_meaning plain.Bvsge) takes_words h
  go plain.Bvcomp h = plain_operator (operator_rank plain.Bvcomp) (operator_meaning plain.Bvcomp) takes_words h

-- what two interpretations have for the declaration of an operator is alike
abbrev pub IsLike : Interpretation → Interpretation → Op → Type 0
IsLike M N (Constant d q) = AreAlike q (read_at q (M.constants d)) (read_at q (N.constants d))
IsLike M N (Apply d g) = (vs : List Value) → HaveSorts g.args vs → read_at g.value (M.functions d vs) ≡ read_at g.value (N.functions d vs)
IsLike M N _ = Unit {0}

argument_plain : (x s : Sort) → (is_plain x && same_sort x s) ≡ true → (x ≡ s) × (is_plain s ≡ true)
argument_plain x s e = let p = and_parts (is_plain x) (same_sort x s) e in let same : x ≡ s = sort_same x s p.1 in (same, subst (λ r. is_plain r ≡ true) same p.0)

each_same : (ss : List Sort) (r : Result Sort MakeFault) (f g : List Value → Value) → ((vs : List Value) → HaveSorts ss vs → (s : Sort) → r ≡ Ok s → AreAlike s (f vs) (g vs)) → Same (each_of ss r) (collected ss f) (collected ss g)
each_same [] r f g k = λ s e. k [] tt s e
each_same (x ∷ ss) r f g k = λ s v w al hv hw like.
    (let p = argument_plain x s al in
    let same : v ≡ w = plain_same s v w p.1 like in
    let sorted : HasSort x v = subst (λ q. HasSort q v) (sym p.0) hv in
    subst (λ y. Same (each_of ss r) (collected ss (λ vs. f (v ∷ vs))) (collected ss (λ vs. g (y ∷ vs)))) same (each_same ss r (λ vs. f (v ∷ vs)) (λ vs. g (v ∷ vs)) (λ vs h. k (v ∷ vs) (sorted, h))))

applied_like : (ss : List Sort) (t : Sort) (f g : List Value → Value) → ((vs : List Value) → HaveSorts ss vs → read_at t (f vs) ≡ read_at t (g vs)) → Same (application ss t) (collected ss (λ vs. read_at t (f vs))) (collected ss (λ vs. read_at t (g vs)))
applied_like [] t f g k = λ s e. let q : ⊥ = cc in absurd q
applied_like (x ∷ ss) t f g k = each_same (x ∷ ss) (plain_sort t) (λ vs. read_at t (f vs)) (λ vs. read_at t (g vs)) (λ vs h s e. plain_alike s _ _ (plain_given t s e) (k vs h)) where
  plain_given : (t s : Sort) → plain_sort t ≡ Ok s → is_plain s ≡ true
  plain_given sort.Bool s e = ap is_plain (sym (plain_sort_ok sort.Bool s e))
  plain_given (sort.Word n) s e = ap is_plain (sym (plain_sort_ok (sort.Word n) s e))
  plain_given (sort.Array n m) s e = let q : ⊥ = cc in absurd q

pub operator_same : (M N : Interpretation) (op : Op) → IsLike M N op → Same (rank_of op) (meaning_of M op) (meaning_of N op)
operator_same M N (Plain o) h = same_operator o
operator_same M N (Word n x) h = plain_operator (rank_of (Word n x)) (meaning_of M (Word n x)) tt (suited M (Word n x))
operator_same M N (Extract i j) h = plain_operator (rank_of (Extract i j)) (meaning_of M (Extract i j)) takes_word (suited M (Extract i j))
operator_same M N (ZeroExtend i) h = plain_operator (rank_of (ZeroExtend i)) (meaning_of M (ZeroExtend i)) takes_word (suited M (ZeroExtend i))
operator_same M N (SignExtend i) h = plain_operator (rank_of (SignExtend i)) (meaning_of M (SignExtend i)) takes_word (suited M (SignExtend i))
operator_same M N (RotateLeft i) h = plain_operator (rank_of (RotateLeft i)) (meaning_of M (RotateLeft i)) takes_word (suited M (RotateLeft i))
operator_same M N (RotateRight i) h = plain_operator (rank_of (RotateRight i)) (meaning_of M (RotateRight i)) takes_word (suited M (RotateRight i))
operator_same M N (Repeat i) h = plain_operator (rank_of (Repeat i)) (meaning_of M (Repeat i)) takes_word (suited M (Repeat i))
operator_same M N (ConstantArray k) h = plain_operator (rank_of (ConstantArray k)) (meaning_of M (ConstantArray k)) takes_word (suited M (ConstantArray k))
operator_same M N (Constant d q) h = λ s e. subst (λ k. AreAlike k (read_at q (M.constants d)) (read_at q (N.constants d))) (constant_sort_ok q s e) h
operator_same M N (Apply d g) h = applied_like g.args g.value (M.functions d) (N.functions d) h
operator_same M N (Param k t) h = plain_operator (rank_of (Param k t)) (meaning_of M (Param k t)) tt (suited M (Param k t))

-- ---- arguments

-- values of these sorts are alike one by one
abbrev pub EachAlike : List Sort → List Value → List Value → Type 0
EachAlike [] vs ws = Unit {0}
EachAlike (s ∷ ss) (v ∷ vs) (w ∷ ws) = AreAlike s v w × EachAlike ss vs ws
EachAlike (s ∷ ss) vs ws = ⊥

pub applied_same : (r : Rank) (m m' : Meaning) → Same r m m' → (k : ℕ) (ss : List Sort) (vs ws : List Value) → Typed ss vs → Typed ss ws → EachAlike ss vs ws → (s : Sort) → ranked r k (map Some ss) ≡ Ok s → AreAlike s (applied m vs) (applied m' ws)
applied_same (Gives r) (Is v) (Is w) h k [] vs ws t u each s e = h s e
applied_same (Gives r) (Is v) (Is w) h k (a ∷ ss) vs ws t u each s e = let q : ⊥ = cc in absurd q
applied_same (Gives r) (Is v) (Of g) h k ss vs ws t u each s e = absurd h
applied_same (Gives r) (Of f) m' h k ss vs ws t u each s e = absurd h
applied_same (Takes d next) (Is v) m' h k ss vs ws t u each s e = absurd h
applied_same (Takes d next) (Of f) (Is w) h k ss vs ws t u each s e = absurd h
applied_same (Takes d next) (Of f) (Of g) h k [] vs ws t u each s e = let q : ⊥ = cc in absurd q
applied_same (Takes d next) (Of f) (Of g) h k (a ∷ ss) [] ws t u each s e = absurd t
applied_same (Takes d next) (Of f) (Of g) h k (a ∷ ss) (v ∷ vs) [] t u each s e = absurd u
applied_same (Takes d next) (Of f) (Of g) h k (a ∷ ss) (v ∷ vs) (w ∷ ws) t u each s e =
    let o = takes_ok d next k (Some a) (map Some ss) s e in
    let same : a ≡ o.0 = let q = o.1 in cc in
    let al : allows d a ≡ true = ap (allows d) same ∙ o.2 in
    let rest : ranked (next a) (suc k) (map Some ss) ≡ Ok s = ap (λ b. ranked (next b) (suc k) (map Some ss)) same ∙ o.3 in
    applied_same (next a) (f v) (g w) (h a v w al t.0 u.0 each.0) (suc k) ss vs ws t.1 u.1 each.1 s rest
