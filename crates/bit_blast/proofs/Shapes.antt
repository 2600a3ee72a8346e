-- Operators by their shapes: what the rank, the rows and the values of the arguments of each are.
use Rattle.std.proofs.Common.{◌≡◌, ℕ, ◌+◌, ◌<◌, Bool, true, false, List, [], ◌∷◌, length, Some, refl, sym, ap, ◌∙◌, subst, arith}
use Rattle.std.specs.Prelude.{if◌then◌else◌, ◌==◌, map, Result, Ok, Err}
use Rattle.std.proofs.lemmas.Bool.{eqb-true}
use Rattle.std.proofs.lemmas.Bool.Decides.{nat_tests}
use Rattle.cnf_base.specs.Literals.{Literal}
use Rattle.cnf_base.specs.Clauses.{lit_true, number}
use Rattle.cnf_base.specs.Gates.{HaveMeaning}
use Rattle.smt_terms.specs.declared.sort.Sort.{Sort}
use Rattle.smt_terms.specs.declared.sort.Sort.TheVariants as sort
use Rattle.smt_terms.specs.declared.fault.MakeFault.{MakeFault}
use Rattle.smt_terms.specs.declared.fault.MakeFault.TheVariants.{WrongSort}
use Rattle.smt_terms.specs.Same.{same_sort, sort_same}
use Rattle.smt_terms.specs.Ranks.{ranked, one_word, two_words, one_truth, two_truths, concatenation, equality as equality_rank, choice as choice_rank, word_sort}
use Rattle.smt_terms.specs.Values.{Value, VBool, applied, word_of, words_of, truth_of, truths_of}
use Rattle.bit_blast.specs.Circuits.{Makes, Lacks, built, one, two, two_some}
use Rattle.bit_blast.specs.Blocks.{Block}
use Rattle.bit_blast.specs.Meanings.{AreBitsOf, EachIsBits}
use Rattle.std.proofs.lemmas.Option.{same_Some}

-- the width of a word that is of the sort of another
pub same_word : (n : ℕ) (s : Sort) → same_sort (sort.Word n) s ≡ true → s ≡ sort.Word n
same_word n sort.Bool e = let f : ⊥ = cc in absurd f
same_word n (sort.Word m) e = ap sort.Word (sym (eqb-true n m e))
same_word n (sort.Array k m) e = let f : ⊥ = cc in absurd f

-- ---- one word

pub one_correct : (v : ℕ → Bool) (g : ℕ) (h : ℕ → Result Sort MakeFault) (f : List Literal → ℕ → Block) (r : ℕ → ℕ → Value)
    → ((a : List Literal) (s : Sort) → h (length a) ≡ Ok s → HaveMeaning v g (f a g).gates → AreBitsOf v s (f a g).bits (r (length a) (number v a)))
    → (ss : List Sort) (rows : List (List Literal)) (xs : List Value) (s : Sort) (b : Block)
    → ranked (one_word h) 0 (map Some ss) ≡ Ok s → EachIsBits v ss rows xs → built (one f) g rows ≡ Some b → HaveMeaning v g b.gates
    → AreBitsOf v s b.bits (applied (word_of r) xs)
one_correct v g h f r means [] rows xs s b rank each is have = let q : ⊥ = cc in absurd q
one_correct v g h f r means (sort.Bool ∷ ss) rows xs s b rank each is have = let q : ⊥ = cc in absurd q
one_correct v g h f r means (sort.Array n m ∷ ss) rows xs s b rank each is have = let q : ⊥ = cc in absurd q
one_correct v g h f r means (sort.Word n ∷ t ∷ ss) rows xs s b rank each is have = let q : ⊥ = cc in absurd q
one_correct v g h f r means (sort.Word n ∷ []) [] xs s b rank each is have = absurd each
one_correct v g h f r means (sort.Word n ∷ []) (a ∷ rows) [] s b rank each is have = absurd each
one_correct v g h f r means (sort.Word n ∷ []) (a ∷ c ∷ rows) (x ∷ xs) s b rank each is have = let q : ⊥ = cc in absurd q
one_correct v g h f r means (sort.Word n ∷ []) (a ∷ []) (x ∷ y ∷ xs) s b rank each is have = absurd each.1
one_correct v g h f r means (sort.Word n ∷ []) (a ∷ []) (x ∷ []) s b rank each is have =
    let e : f a g ≡ b = same_Some _ _ is in
    let width = each.0.0 in
    let done = means a s (ap h width ∙ rank) (subst (λ c. HaveMeaning v g c.gates) (sym e) have) in
    rw each.0.1 (subst (λ n. AreBitsOf v s b.bits (r n (number v a))) width (subst (λ c. AreBitsOf v s c.bits (r (length a) (number v a))) e done))

-- ---- two words of one width

-- what holds of the first row
abbrev pub FirstIs : (List Literal → Type 0) → List (List Literal) → Type 0
FirstIs P [] = Unit {0}
FirstIs P (a ∷ rows) = P a

two_of : (P : List Literal → Type 0) (v : ℕ → Bool) (g : ℕ) (h : Sort → Result Sort MakeFault) (f : List Literal → List Literal → ℕ → Block) (r : ℕ → ℕ → ℕ → Value)
    → ((a b : List Literal) (s : Sort) → P a → h (sort.Word (length a)) ≡ Ok s → length a ≡ length b → HaveMeaning v g (f a b g).gates → AreBitsOf v s (f a b g).bits (r (length a) (number v a) (number v b)))
    → (ss : List Sort) (rows : List (List Literal)) (xs : List Value) (s : Sort) (b : Block) → FirstIs P rows
    → ranked (two_words h) 0 (map Some ss) ≡ Ok s → EachIsBits v ss rows xs → built (two f) g rows ≡ Some b → HaveMeaning v g b.gates
    → AreBitsOf v s b.bits (applied (words_of r) xs)
two_of P v g h f r means [] rows xs s b first rank each is have = let q : ⊥ = cc in absurd q
two_of P v g h f r means (sort.Bool ∷ ss) rows xs s b first rank each is have = let q : ⊥ = cc in absurd q
two_of P v g h f r means (sort.Array n m ∷ ss) rows xs s b first rank each is have = let q : ⊥ = cc in absurd q
two_of P v g h f r means (sort.Word n ∷ []) rows xs s b first rank each is have = let q : ⊥ = cc in absurd q
two_of P v g h f r means (sort.Word n ∷ t ∷ []) [] xs s b first rank each is have = absurd each
two_of P v g h f r means (sort.Word n ∷ t ∷ []) (a ∷ []) xs s b first rank each is have = let q : ⊥ = cc in absurd q
two_of P v g h f r means (sort.Word n ∷ t ∷ []) (a ∷ c ∷ d ∷ rows) [] s b first rank each is have = absurd each
two_of P v g h f r means (sort.Word n ∷ t ∷ []) (a ∷ c ∷ d ∷ rows) (x ∷ []) s b first rank each is have = absurd each.1
two_of P v g h f r means (sort.Word n ∷ t ∷ []) (a ∷ c ∷ d ∷ rows) (x ∷ y ∷ xs) s b first rank each is have = absurd each.1.1
two_of P v g h f r means (sort.Word n ∷ t ∷ []) (a ∷ c ∷ []) [] s b first rank each is have = absurd each
two_of P v g h f r means (sort.Word n ∷ t ∷ []) (a ∷ c ∷ []) (x ∷ []) s b first rank each is have = absurd each.1
two_of P v g h f r means (sort.Word n ∷ t ∷ []) (a ∷ c ∷ []) (x ∷ y ∷ z ∷ xs) s b first rank each is have = absurd each.1.1
two_of P v g h f r means (sort.Word n ∷ sort.Bool ∷ []) (a ∷ c ∷ []) (x ∷ y ∷ []) s b first rank each is have = let q : ⊥ = cc in absurd q
two_of P v g h f r means (sort.Word n ∷ sort.Array k l ∷ []) (a ∷ c ∷ []) (x ∷ y ∷ []) s b first rank each is have = let q : ⊥ = cc in absurd q
two_of P v g h f r means (sort.Word n ∷ t ∷ u ∷ ss) rows xs s b first rank each is have = absurd (more (same_sort (sort.Word n) t) rank)
  where
    more : (c : Bool) → ◌≡◌ {A = Result Sort MakeFault} (if c then Err (WrongSort 2) else Err (WrongSort 1)) (Ok s) → ⊥
    more true e = cc
    more false e = cc
two_of P v g h f r means (sort.Word n ∷ sort.Word m ∷ []) (a ∷ c ∷ []) (x ∷ y ∷ []) s b first rank each is have = go (n == m) rank (length a == length c) refl is
  where
    go : (p : Bool) → ◌≡◌ {A = Result Sort MakeFault} (if p then h (sort.Word n) else Err (WrongSort 1)) (Ok s) → (q : Bool) → (length a == length c) ≡ q → built (if q then Makes (f a c) else Lacks) g [] ≡ Some b → AreBitsOf v s b.bits (applied (words_of r) (x ∷ y ∷ []))
    go false k q e is = let f : ⊥ = cc in absurd f
    go true k false e is = let f : ⊥ = cc in absurd f
    go true k true e is =
        let same : f a c g ≡ b = same_Some _ _ is in
        let width = each.0.0 in
        let done = means a c s first (ap (λ n. h (sort.Word n)) width ∙ k) (eqb-true (length a) (length c) e) (subst (λ z. HaveMeaning v g z.gates) (sym same) have) in
        rw (each.0.1, each.1.0.1) (subst (λ n. AreBitsOf v s b.bits (r n (number v a) (number v c))) width (subst (λ z. AreBitsOf v s z.bits (r (length a) (number v a) (number v c))) same done))

pub two_correct : (v : ℕ → Bool) (g : ℕ) (h : Sort → Result Sort MakeFault) (f : List Literal → List Literal → ℕ → Block) (r : ℕ → ℕ → ℕ → Value)
    → ((a b : List Literal) (s : Sort) → h (sort.Word (length a)) ≡ Ok s → length a ≡ length b → HaveMeaning v g (f a b g).gates → AreBitsOf v s (f a b g).bits (r (length a) (number v a) (number v b)))
    → (ss : List Sort) (rows : List (List Literal)) (xs : List Value) (s : Sort) (b : Block)
    → ranked (two_words h) 0 (map Some ss) ≡ Ok s → EachIsBits v ss rows xs → built (two f) g rows ≡ Some b → HaveMeaning v g b.gates
    → AreBitsOf v s b.bits (applied (words_of r) xs)
two_correct v g h f r means ss rows xs s b = two_of (λ a. Unit {0}) v g h f r (λ a b s u. means a b s) ss rows xs s b (any rows)
  where
    any : (rows : List (List Literal)) → FirstIs (λ a. Unit {0}) rows
    any [] = tt
    any (a ∷ rows) = tt

-- two rows of one bit at least
pub some_rows : (f : List Literal → List Literal → ℕ → Block) (g : ℕ) (rows : List (List Literal)) (b : Block) → built (two_some f) g rows ≡ Some b → FirstIs (λ a. 0 < length a) rows × (built (two f) g rows ≡ Some b)
some_rows f g [] b e = let q : ⊥ = cc in absurd q
some_rows f g (a ∷ []) b e = let q : ⊥ = cc in absurd q
some_rows f g (a ∷ c ∷ rows) b e = go (length a == 0) refl e
  where
    go : (t : Bool) → (length a == 0) ≡ t → built (if t then Lacks else (if length a == length c then Makes (f a c) else Lacks)) g rows ≡ Some b → (0 < length a) × (built (two f) g (a ∷ c ∷ rows) ≡ Some b)
    go true k e = let q : ⊥ = cc in absurd q
    go false k e = (grind (arith, nat_tests, k), e)

pub some_correct : (v : ℕ → Bool) (g : ℕ) (h : Sort → Result Sort MakeFault) (f : List Literal → List Literal → ℕ → Block) (r : ℕ → ℕ → ℕ → Value)
    → ((a b : List Literal) (s : Sort) → 0 < length a → h (sort.Word (length a)) ≡ Ok s → length a ≡ length b → HaveMeaning v g (f a b g).gates → AreBitsOf v s (f a b g).bits (r (length a) (number v a) (number v b)))
    → (ss : List Sort) (rows : List (List Literal)) (xs : List Value) (s : Sort) (b : Block)
    → ranked (two_words h) 0 (map Some ss) ≡ Ok s → EachIsBits v ss rows xs → built (two_some f) g rows ≡ Some b → HaveMeaning v g b.gates
    → AreBitsOf v s b.bits (applied (words_of r) xs)
some_correct v g h f r means ss rows xs s b rank each is have =
    let k = some_rows f g rows b is in
    two_of (λ a. 0 < length a) v g h f r means ss rows xs s b k.0 rank each k.1 have

-- ---- Bools

pub truth_correct : (v : ℕ → Bool) (g : ℕ) (f : List Literal → ℕ → Block) (r : Bool → Bool)
    → ((l : Literal) → HaveMeaning v g (f (l ∷ []) g).gates → AreBitsOf v sort.Bool (f (l ∷ []) g).bits (VBool (r (lit_true v l))))
    → (ss : List Sort) (rows : List (List Literal)) (xs : List Value) (s : Sort) (b : Block)
    → ranked one_truth 0 (map Some ss) ≡ Ok s → EachIsBits v ss rows xs → built (one f) g rows ≡ Some b → HaveMeaning v g b.gates
    → AreBitsOf v s b.bits (applied (truth_of r) xs)
truth_correct v g f r means [] rows xs s b rank each is have = let q : ⊥ = cc in absurd q
truth_correct v g f r means (sort.Word n ∷ ss) rows xs s b rank each is have = let q : ⊥ = cc in absurd q
truth_correct v g f r means (sort.Array n m ∷ ss) rows xs s b rank each is have = let q : ⊥ = cc in absurd q
truth_correct v g f r means (sort.Bool ∷ t ∷ ss) rows xs s b rank each is have = let q : ⊥ = cc in absurd q
truth_correct v g f r means (sort.Bool ∷ []) [] xs s b rank each is have = absurd each
truth_correct v g f r means (sort.Bool ∷ []) (a ∷ rows) [] s b rank each is have = absurd each
truth_correct v g f r means (sort.Bool ∷ []) (a ∷ c ∷ rows) (x ∷ xs) s b rank each is have = let q : ⊥ = cc in absurd q
truth_correct v g f r means (sort.Bool ∷ []) (a ∷ []) (x ∷ y ∷ xs) s b rank each is have = absurd each.1
truth_correct v g f r means (sort.Bool ∷ []) (a ∷ []) (x ∷ []) s b rank each is have =
    let l = each.0.0 in
    let e : f (l ∷ []) g ≡ b = ap (λ a. f a g) (sym each.0.1) ∙ same_Some _ _ is in
    let sorts : sort.Bool ≡ s = cc in
    let done = means l (subst (λ c. HaveMeaning v g c.gates) (sym e) have) in
    rw each.0.2 (subst (λ t. AreBitsOf v t b.bits (VBool (r (lit_true v l)))) sorts (subst (λ c. AreBitsOf v sort.Bool c.bits (VBool (r (lit_true v l)))) e done))

pub truths_correct : (v : ℕ → Bool) (g : ℕ) (f : List Literal → List Literal → ℕ → Block) (r : Bool → Bool → Bool)
    → ((l m : Literal) → HaveMeaning v g (f (l ∷ []) (m ∷ []) g).gates → AreBitsOf v sort.Bool (f (l ∷ []) (m ∷ []) g).bits (VBool (r (lit_true v l) (lit_true v m))))
    → (ss : List Sort) (rows : List (List Literal)) (xs : List Value) (s : Sort) (b : Block)
    → ranked two_truths 0 (map Some ss) ≡ Ok s → EachIsBits v ss rows xs → built (two f) g rows ≡ Some b → HaveMeaning v g b.gates
    → AreBitsOf v s b.bits (applied (truths_of r) xs)
truths_correct v g f r means [] rows xs s b rank each is have = let q : ⊥ = cc in absurd q
truths_correct v g f r means (sort.Word n ∷ ss) rows xs s b rank each is have = let q : ⊥ = cc in absurd q
truths_correct v g f r means (sort.Array n m ∷ ss) rows xs s b rank each is have = let q : ⊥ = cc in absurd q
truths_correct v g f r means (sort.Bool ∷ []) rows xs s b rank each is have = let q : ⊥ = cc in absurd q
truths_correct v g f r means (sort.Bool ∷ sort.Word n ∷ ss) rows xs s b rank each is have = let q : ⊥ = cc in absurd q
truths_correct v g f r means (sort.Bool ∷ sort.Array n m ∷ ss) rows xs s b rank each is have = let q : ⊥ = cc in absurd q
truths_correct v g f r means (sort.Bool ∷ sort.Bool ∷ t ∷ ss) rows xs s b rank each is have = let q : ⊥ = cc in absurd q
truths_correct v g f r means (sort.Bool ∷ sort.Bool ∷ []) [] xs s b rank each is have = absurd each
truths_correct v g f r means (sort.Bool ∷ sort.Bool ∷ []) (a ∷ []) xs s b rank each is have = let q : ⊥ = cc in absurd q
truths_correct v g f r means (sort.Bool ∷ sort.Bool ∷ []) (a ∷ c ∷ rows) [] s b rank each is have = absurd each
truths_correct v g f r means (sort.Bool ∷ sort.Bool ∷ []) (a ∷ c ∷ rows) (x ∷ []) s b rank each is have = absurd each.1
truths_correct v g f r means (sort.Bool ∷ sort.Bool ∷ []) (a ∷ c ∷ d ∷ rows) (x ∷ y ∷ xs) s b rank each is have = absurd each.1.1
truths_correct v g f r means (sort.Bool ∷ sort.Bool ∷ []) (a ∷ c ∷ []) (x ∷ y ∷ z ∷ xs) s b rank each is have = absurd each.1.1
truths_correct v g f r means (sort.Bool ∷ sort.Bool ∷ []) (a ∷ c ∷ []) (x ∷ y ∷ []) s b rank each is have =
    let l = each.0.0 in
    let m = each.1.0.0 in
    let rows : built (two f) g ((l ∷ []) ∷ (m ∷ []) ∷ []) ≡ Some b = (rw (each.0.1, each.1.0.1) at is) in
    let e : f (l ∷ []) (m ∷ []) g ≡ b = same_Some _ _ rows in
    let sorts : sort.Bool ≡ s = cc in
    let done = means l m (subst (λ c. HaveMeaning v g c.gates) (sym e) have) in
    rw (each.0.2, each.1.0.2) (subst (λ t. AreBitsOf v t b.bits (VBool (r (lit_true v l) (lit_true v m)))) sorts (subst (λ c. AreBitsOf v sort.Bool c.bits (VBool (r (lit_true v l) (lit_true v m)))) e done))

-- ---- rows and values, as many as there are sorts

pub each_two : (v : ℕ → Bool) (s t : Sort) (rows : List (List Literal)) (xs : List Value) → EachIsBits v (s ∷ t ∷ []) rows xs
    → (a : List Literal) × (c : List Literal) × (x : Value) × (y : Value) × (rows ≡ a ∷ c ∷ []) × (xs ≡ x ∷ y ∷ []) × AreBitsOf v s a x × AreBitsOf v t c y
each_two v s t [] xs e = absurd e
each_two v s t (a ∷ rows) [] e = absurd e
each_two v s t (a ∷ []) (x ∷ xs) e = absurd e.1
each_two v s t (a ∷ c ∷ rows) (x ∷ []) e = absurd e.1
each_two v s t (a ∷ c ∷ []) (x ∷ y ∷ []) e = (a, c, x, y, refl, refl, e.0, e.1.0)
each_two v s t (a ∷ c ∷ []) (x ∷ y ∷ z ∷ xs) e = absurd e.1.1
each_two v s t (a ∷ c ∷ d ∷ rows) (x ∷ y ∷ xs) e = absurd e.1.1

pub each_three : (v : ℕ → Bool) (s t u : Sort) (rows : List (List Literal)) (xs : List Value) → EachIsBits v (s ∷ t ∷ u ∷ []) rows xs
    → (a : List Literal) × (c : List Literal) × (d : List Literal) × (x : Value) × (y : Value) × (z : Value) × (rows ≡ a ∷ c ∷ d ∷ []) × (xs ≡ x ∷ y ∷ z ∷ []) × AreBitsOf v s a x × AreBitsOf v t c y × AreBitsOf v u d z
each_three v s t u [] xs e = absurd e
each_three v s t u (a ∷ rows) [] e = absurd e
each_three v s t u (a ∷ rows) (x ∷ xs) e =
    let k = each_two v t u rows xs e.1 in
    (a, k.0, k.1, x, k.2, k.3, ap (λ r. a ∷ r) k.4, ap (λ r. x ∷ r) k.5, e.0, k.6, k.7)

-- two arguments of one sort
pub equality_rank_is : (ss : List Sort) (s : Sort) → ranked equality_rank 0 (map Some ss) ≡ Ok s → (t : Sort) × (ss ≡ t ∷ t ∷ []) × (s ≡ sort.Bool)
equality_rank_is [] s e = let q : ⊥ = cc in absurd q
equality_rank_is (t ∷ []) s e = let q : ⊥ = cc in absurd q
equality_rank_is (t ∷ u ∷ w ∷ ss) s e = absurd (more (same_sort t u) e)
  where
    more : (c : Bool) → ◌≡◌ {A = Result Sort MakeFault} (if c then Err (WrongSort 2) else Err (WrongSort 1)) (Ok s) → ⊥
    more true e = cc
    more false e = cc
equality_rank_is (t ∷ u ∷ []) s e = go (same_sort t u) refl e
  where
    go : (c : Bool) → same_sort t u ≡ c → ◌≡◌ {A = Result Sort MakeFault} (if c then Ok sort.Bool else Err (WrongSort 1)) (Ok s) → (w : Sort) × (t ∷ u ∷ [] ≡ w ∷ w ∷ []) × (s ≡ sort.Bool)
    go true k e = let q : s ≡ sort.Bool = cc in (t, ap (λ w. t ∷ w ∷ []) (sym (sort_same t u k)), q)
    go false k e = let q : ⊥ = cc in absurd q

-- a condition and two arguments of one sort
pub choice_rank_is : (ss : List Sort) (s : Sort) → ranked choice_rank 0 (map Some ss) ≡ Ok s → ss ≡ sort.Bool ∷ s ∷ s ∷ []
choice_rank_is [] s e = let q : ⊥ = cc in absurd q
choice_rank_is (sort.Word n ∷ ss) s e = let q : ⊥ = cc in absurd q
choice_rank_is (sort.Array n m ∷ ss) s e = let q : ⊥ = cc in absurd q
choice_rank_is (sort.Bool ∷ []) s e = let q : ⊥ = cc in absurd q
choice_rank_is (sort.Bool ∷ t ∷ []) s e = let q : ⊥ = cc in absurd q
choice_rank_is (sort.Bool ∷ t ∷ u ∷ w ∷ ss) s e = absurd (more (same_sort t u) e)
  where
    more : (c : Bool) → ◌≡◌ {A = Result Sort MakeFault} (if c then Err (WrongSort 3) else Err (WrongSort 2)) (Ok s) → ⊥
    more true e = cc
    more false e = cc
choice_rank_is (sort.Bool ∷ t ∷ u ∷ []) s e = go (same_sort t u) refl e
  where
    go : (c : Bool) → same_sort t u ≡ c → ◌≡◌ {A = Result Sort MakeFault} (if c then Ok t else Err (WrongSort 2)) (Ok s) → sort.Bool ∷ t ∷ u ∷ [] ≡ sort.Bool ∷ s ∷ s ∷ []
    go true k e = let q : t ≡ s = cc in ap (λ w. sort.Bool ∷ t ∷ w ∷ []) (sym (sort_same t u k)) ∙ ap (λ w. sort.Bool ∷ w ∷ w ∷ []) q
    go false k e = let q : ⊥ = cc in absurd q

-- two words
pub concatenation_rank_is : (ss : List Sort) (s : Sort) → ranked concatenation 0 (map Some ss) ≡ Ok s → (n : ℕ) × (m : ℕ) × (ss ≡ sort.Word n ∷ sort.Word m ∷ []) × (word_sort (n + m) ≡ Ok s)
concatenation_rank_is [] s e = let q : ⊥ = cc in absurd q
concatenation_rank_is (sort.Bool ∷ ss) s e = let q : ⊥ = cc in absurd q
concatenation_rank_is (sort.Array n m ∷ ss) s e = let q : ⊥ = cc in absurd q
concatenation_rank_is (sort.Word n ∷ []) s e = let q : ⊥ = cc in absurd q
concatenation_rank_is (sort.Word n ∷ sort.Bool ∷ ss) s e = let q : ⊥ = cc in absurd q
concatenation_rank_is (sort.Word n ∷ sort.Array k m ∷ ss) s e = let q : ⊥ = cc in absurd q
concatenation_rank_is (sort.Word n ∷ sort.Word m ∷ []) s e = (n, m, refl, e)
concatenation_rank_is (sort.Word n ∷ sort.Word m ∷ t ∷ ss) s e = let q : ⊥ = cc in absurd q
