-- What a term becomes can be made, and has the sort of the term.
use Rattle.std.proofs.Common.{◌≡◌, ℕ, zero, suc, ◌+◌, ◌-◌, ◌*◌, ◌^◌, ◌<◌, ◌≤◌, Bool, true, false, List, [], ◌∷◌, length, refl, sym, ap, ◌∙◌, subst, arith, Option, Some, None, Result, Ok, Err}
use Rattle.std.specs.Prelude.{◌==◌, ◌&&◌, ◌||◌, nat_lt, nat_le, if◌then◌else◌}
use Rattle.std.specs.Int.{w128, trailing_zeros}
use Rattle.std.proofs.lemmas.Bool.{and_parts, eqb-true, ltb-true, leb-true, lt-ltb, le-leb}
use Rattle.smt_terms.specs.declared.sort.Sort.{Sort}
use Rattle.smt_terms.specs.declared.sort.Sort.TheVariants as sort
use Rattle.smt_terms.specs.declared.operator.Operator.{Operator}
use Rattle.smt_terms.specs.declared.operator.Operator.TheVariants as plain
use Rattle.smt_terms.specs.declared.node.Op.{Op}
use Rattle.smt_terms.specs.declared.node.Op.TheVariants as op
use Rattle.smt_terms.specs.declared.node.Node.{Node}
use Rattle.smt_terms.specs.declared.rank.Demand.TheVariants.{Any, AnyWord, AnyArray, Exactly}
use Rattle.smt_terms.specs.declared.fault.MakeFault.{MakeFault}
use Rattle.smt_terms.specs.declared.fault.MakeFault.TheVariants.{WrongSort, WidthOutOfRange}
use Rattle.smt_terms.specs.Same.{sort_same, sort_itself}
use Rattle.smt_terms.specs.Ranks.{is_array, width_of, index_sort, element_sort, truth, one_word, two_words, word_sort, literal_sort, extract_sort, operator_rank, rank_of, ranked}
use Rattle.smt_terms.specs.Terms.{IsSort, IsTermList, op_rank, sort_of}
use Rattle.smt_terms.specs.Values.{Value, VBool, VWord, VArray, HasSort, value, width_in, number_of}
use Rattle.smt_terms.proofs.Evaluating.{value_is_evaluation}
use Rattle.smt_terms.proofs.Typing.{word_sort_ok, guard_ok}
use Rattle.smt_terms.proofs.Widths.{sort_bounded}
use Rattle.bv_rules.specs.declared.rule.Rule.{Rule}
use Rattle.bv_rules.specs.declared.rule.Rule.TheVariants.{BvnotTwice, BvnegTwice, AndSame, AndZero, AndOnes, OrSame, OrZero, OrOnes, XorSame, XorZero, XorOnes, AddZero, AddOpposite, Subtract, AddSame, MultiplyZero, MultiplyOne, MultiplyPower, DivideOne, DivideZero, DividePower, RemainderZero, RemainderOne, RemainderPower, ShiftZero, ShiftPast, ExtractAll, ExtractExtract, ExtractConcat, Idle, Less, AtMost, Greater, EqualSame, NotTwice, Connective, Choice, SelectStore, Fold, Inner}
use Rattle.bv_rules.specs.Reading.{commutes, is_extract, high_in, low_in, is_idle, is_power, exponent_in, op_at, arg}
use Rattle.bv_rules.specs.Arguments.{any_interpretation, has_literals, folded_value}
use Rattle.bv_rules.specs.Rules.{width_at, is, of_term, zero as zero_word, one, ones, power, exponent, past, unequal, extraction, high, low}
use Rattle.bv_rules.proofs.Known.{Context, word_at, word_is, op_is, one_at, two_at, three_at, ok_is, never, literal_is}
use Rattle.bv_rewrite.specs.declared.shape.Shape.{Shape}
use Rattle.bv_rewrite.specs.declared.shape.Shape.TheVariants as shape
use Rattle.bv_rewrite.specs.declared.shape.Kind.{Kind}
use Rattle.bv_rewrite.specs.declared.shape.Kind.TheVariants as kind
use Rattle.bv_rewrite.specs.declared.shape.Power.{Power}
use Rattle.bv_rewrite.specs.declared.shape.Power.TheVariants as by
use Rattle.bv_rewrite.specs.Shapes.{kind_shape, power_shape, given, or_else}
use Rattle.bv_rewrite.specs.Becoming.{value_shape, on_shape, twice_shape, beside_power, past_width, turned_shape, decided_shape, part_shape, read_shape, becomes}
use Rattle.bv_rewrite.specs.Making.{IsRanked}
use Rattle.bv_rewrite.proofs.Fitting.{folded_sort}

-- ---- numbers

-- 2 ^ n is above n
below_power : (n e : ℕ) → e < n → e < 2 ^ n
below_power n e lt = omega (arith, lt, above n)
  where
    above : (n : ℕ) → n < 2 ^ n
    above zero = omega arith
    above (suc n) = let h = above n in omega (arith, h)

one_below : (n : ℕ) → 1 ≤ n → 1 < 2 ^ n
one_below n le = below_power_one n le
  where
    positive : (n : ℕ) → 0 < 2 ^ n
    positive zero = omega arith
    positive (suc n) = let h = positive n in omega (arith, h)

    below_power_one : (n : ℕ) → 1 ≤ n → 1 < 2 ^ n
    below_power_one zero le = absurd (omega (arith, le))
    below_power_one (suc n) le = let h = positive n in omega (arith, h)

zero_below : (n : ℕ) → 0 < 2 ^ n
zero_below zero = omega arith
zero_below (suc n) = let h = zero_below n in omega (arith, h)

mask_below : (n e : ℕ) → e < n → 2 ^ e - 1 < 2 ^ n
mask_below n e lt = let p = zero_below e in omega (arith, less e n lt, p)
  where
    less : (e n : ℕ) → e < n → 2 ^ e ≤ 2 ^ n
    less e zero lt = absurd (omega (arith, lt))
    less zero (suc n) lt = let h = zero_below n in omega (arith, h)
    less (suc e) (suc n) lt = let h = less e n (omega (arith, lt)) in omega (arith, h)

-- ---- sorts that an operator gives

-- a width in range
word_in : (n : ℕ) → 1 ≤ n → n ≤ 128 → word_sort n ≡ Ok (sort.Word n)
word_in n a b = ap (λ t. if t then Ok (sort.Word n) else Err (WidthOutOfRange n)) (λ i. le-leb 1 n a i && le-leb n 128 b i)

literal_in : (n x : ℕ) → x < 2 ^ n → 1 ≤ n → n ≤ 128 → literal_sort n x ≡ Ok (sort.Word n)
literal_in n x lt a b = ap (λ t. if t then word_sort n else Err (WrongSort 0)) (lt-ltb x (2 ^ n) lt) ∙ word_in n a b

extract_in : (i j n : ℕ) → j ≤ i → i < n → extract_sort i j n ≡ word_sort (i - j + 1)
extract_in i j n a b = ap (λ t. if t then word_sort (i - j + 1) else Err (WrongSort 0)) (λ k. le-leb j i a k && lt-ltb i n b k)

record IsPart (i j n : ℕ) (s : Sort) : Type 0 where
  order : j ≤ i
  within : i < n
  gives : word_sort (i - j + 1) ≡ Ok s

part_ok : (i j n : ℕ) (s : Sort) → extract_sort i j n ≡ Ok s → IsPart i j n s
part_ok i j n s e =
    let a = guard_ok (nat_le j i && nat_lt i n) (word_sort (i - j + 1)) _ s e in
    let b = and_parts (nat_le j i) (nat_lt i n) a.0 in
    record { order = leb-true j i b.0; within = ltb-true i n b.1; gives = a.1 }

-- the rank of an operator on two words
two_rank : (o : Operator) (h : Sort → Result Sort MakeFault) (n : ℕ) → operator_rank o ≡ two_words h → op_rank (op.Plain o) (sort.Word n ∷ sort.Word n ∷ []) ≡ h (sort.Word n)
two_rank o h n r =
    ap (λ k. ranked k 0 (Some (sort.Word n) ∷ Some (sort.Word n) ∷ [])) r
    ∙ ap (λ t. if t then h (sort.Word n) else Err (WrongSort 1)) (sort_itself (sort.Word n))

module _ (nodes : List Node) (terms : IsTermList nodes) where
  k : Context
  k = record { M = any_interpretation; nodes = nodes; v = value any_interpretation nodes; terms = terms; evaluation = value_is_evaluation any_interpretation nodes terms }

  module _ (s : Sort) where
    -- ---- what a shape gives, where there is one

    abbrev Ranks : Option Shape → Type 0
    Ranks o = (z : Shape) → o ≡ Some z → IsRanked nodes s z

    ranks_some : (z : Shape) → IsRanked nodes s z → Ranks (Some z)
    ranks_some z h y e = let q : z ≡ y = cc in subst (IsRanked nodes s) q h

    ranks_none : Ranks None
    ranks_none y e = let q : ⊥ = cc in absurd q

    ranks_given : (b : Bool) (o : Option Shape) → (b ≡ true → Ranks o) → Ranks (given b o)
    ranks_given true o h = h refl
    ranks_given false o h = ranks_none

    ranks_or : (a b : Option Shape) → Ranks a → Ranks b → Ranks (or_else a b)
    ranks_or (Some z) b f g = f
    ranks_or None b f g = g

    -- ---- words

    abbrev IsWide : ℕ → ℕ → Type 0
    IsWide x n = (x < length nodes) × (sort_of nodes x ≡ sort.Word n) × (1 ≤ n) × (n ≤ 128)

    wide : (x n : ℕ) → x < length nodes → sort_of nodes x ≡ sort.Word n → IsWide x n
    wide x n lt e = let w : IsSort (sort.Word n) = subst IsSort e (sort_bounded nodes terms x lt) in (lt, e, w.0, w.1)

    -- a word beside another, on an operator of the sort
    ranks_on : (o : Operator) (h : Sort → Result Sort MakeFault) (f : ℕ → ℕ → Option Shape) (t : ℕ) → operator_rank o ≡ two_words h → t < length nodes → sort_of nodes t ≡ s
        → ((x y n : ℕ) → IsWide x n → IsWide y n → h (sort.Word n) ≡ Ok s → Ranks (f x y)) → Ranks (on_shape nodes o f t)
    unfolding k
    ranks_on o h f t r lt e each =
        let a = arg nodes 0 t in
        let b = arg nodes 1 t in
        ranks_given (is nodes o t) (or_else (f a b) (given (commutes o) (f b a))) λ i.
        let q = two_at k AnyWord (λ p. Exactly p) (λ p _. h p) (op.Plain o) t r lt (op_is k o t i) in
        let n = width_of (sort_of nodes a) in
        let sa : sort_of nodes a ≡ sort.Word n = word_is (sort_of nodes a) q.left in
        let sb : sort_of nodes b ≡ sort.Word n = sym (sort_same (sort_of nodes a) (sort_of nodes b) q.right) ∙ sa in
        let g : h (sort.Word n) ≡ Ok s = ap h (sym sa) ∙ q.gives ∙ ap Ok e in
        ranks_or (f a b) (given (commutes o) (f b a)) (each a b n (wide a n q.first sa) (wide b n q.second sb) g)
        (ranks_given (commutes o) (f b a) λ _. each b a n (wide b n q.second sb) (wide a n q.first sa) g)

    same_width : (n : ℕ) → (let r : Result Sort MakeFault = Ok (sort.Word n) in r) ≡ Ok s → s ≡ sort.Word n
    same_width n e = ok_is (sort.Word n) s e

    word_ranked : (n x : ℕ) → 1 ≤ n → n ≤ 128 → x < 2 ^ n → s ≡ sort.Word n → IsRanked nodes s (shape.Word x)
    word_ranked n x a b lt e = subst (λ p. literal_sort (width_of p) x ≡ Ok p) (sym e) (literal_in n x lt a b)

    beside_ranked : (o : Operator) (x n e : ℕ) → operator_rank o ≡ two_words Ok → IsWide x n → e < 2 ^ n → s ≡ sort.Word n → IsRanked nodes s (shape.WithWord o x e)
    beside_ranked o x n e r w lt q = (
      (w.0, w.0, (λ i. op_rank (op.Plain o) (w.1 i ∷ w.1 i ∷ [])) ∙ two_rank o Ok n r ∙ ap Ok (sym q)),
      subst (λ p. literal_sort (width_of p) e ≡ Ok p) (sym w.1) (literal_in n e lt w.2 w.3),
    )

    kind_ranked : (r : Kind) (x n : ℕ) → IsWide x n → s ≡ sort.Word n → IsRanked nodes s (kind_shape r x)
    kind_ranked kind.Same x n w e = (w.0, w.1 ∙ sym e)
    kind_ranked kind.Zero x n w e = word_ranked n 0 w.2 w.3 (zero_below n) e
    kind_ranked kind.Ones x n w e = subst (λ p. word_sort (width_of p) ≡ Ok p) (sym e) (word_in n w.2 w.3)
    kind_ranked kind.Doubled x n w e = beside_ranked plain.Bvshl x n 1 refl w (one_below n w.2) e

    power_ranked : (r : Power) (x n e : ℕ) → IsWide x n → e < n → s ≡ sort.Word n → IsRanked nodes s (power_shape r x e)
    power_ranked by.ShiftedLeft x n e w lt q = beside_ranked plain.Bvshl x n e refl w (below_power n e lt) q
    power_ranked by.ShiftedRight x n e w lt q = beside_ranked plain.Bvlshr x n e refl w (below_power n e lt) q
    power_ranked by.Masked x n e w lt q = beside_ranked plain.Bvand x n (2 ^ e - 1) refl w (mask_below n e lt) q

    -- ---- lines of the table

    module _ (t : ℕ) (lt : t < length nodes) (e : sort_of nodes t ≡ s) where
      ranks_where : (o : Operator) (b : ℕ → ℕ → Bool) (r : Kind) → operator_rank o ≡ two_words Ok → Ranks (on_shape nodes o (λ x y. given (b x y) (Some (kind_shape r x))) t)
      ranks_where o b r p = ranks_on o Ok (λ x y. given (b x y) (Some (kind_shape r x))) t p lt e λ x y n w u g. ranks_given (b x y) (Some (kind_shape r x)) λ _. ranks_some (kind_shape r x) (kind_ranked r x n w (same_width n g))

      ranks_power : (o : Operator) (r : Power) → operator_rank o ≡ two_words Ok → Ranks (beside_power nodes o r t)
      unfolding k
      ranks_power o r p =
          ranks_on o Ok (λ x c. given (power nodes c) (Some (power_shape r x (exponent nodes c)))) t p lt e λ x c n w u g.
          ranks_given (power nodes c) (Some (power_shape r x (exponent nodes c))) λ h.
          ranks_some (power_shape r x (exponent nodes c)) (power_ranked r x n (exponent nodes c) w (exponent_below c n u h) (same_width n g))
        where
          exponent_below : (c n : ℕ) → IsWide c n → power nodes c ≡ true → exponent nodes c < n
          exponent_below c n u h = go (op_at nodes c) refl h
            where
              go : (o : Op) → op_at nodes c ≡ o → is_power o ≡ true → exponent_in o < n
              go (op.Word m x) q z =
                  let f = trailing_zeros w128 x in
                  let a = and_parts (nat_lt 0 f) (nat_lt f m && (x == 2 ^ f)) z in
                  let b = and_parts (nat_lt f m) (x == 2 ^ f) a.1 in
                  let l = literal_is k c n m x (word_at k c n u.0 u.1) q in
                  subst (λ j. f < j) l.0 (ltb-true f m b.0)
              go _ q z = let f : ⊥ = cc in absurd f

      ranks_past : (o : Operator) → operator_rank o ≡ two_words Ok → Ranks (past_width nodes o t)
      ranks_past o p = ranks_where o (λ x c. past nodes c) kind.Zero p

      ranks_word_twice : (o : Operator) → operator_rank o ≡ one_word word_sort → Ranks (twice_shape nodes o t)
      unfolding k
      ranks_word_twice o p =
          let a = arg nodes 0 t in
          let x = arg nodes 0 a in
          ranks_given (is nodes o t) (given (is nodes o a) (Some (shape.Term x))) λ i. ranks_given (is nodes o a) (Some (shape.Term x)) λ j.
          let q = one_at k AnyWord (λ z. word_sort (width_of z)) (op.Plain o) t p lt (op_is k o t i) in
          let r = one_at k AnyWord (λ z. word_sort (width_of z)) (op.Plain o) a p q.held (op_is k o a j) in
          let f = word_sort_ok (width_of (sort_of nodes a)) s (q.gives ∙ ap Ok e) in
          let g = word_sort_ok (width_of (sort_of nodes x)) (sort_of nodes a) r.gives in
          let y : sort_of nodes x ≡ sort_of nodes a = word_is (sort_of nodes x) r.allowed ∙ g.0 in
          let z : sort_of nodes a ≡ s = word_is (sort_of nodes a) q.allowed ∙ f.0 in
          ranks_some (shape.Term x) (r.held, y ∙ z)

      ranks_truth_twice : Ranks (twice_shape nodes plain.Not t)
      unfolding k
      ranks_truth_twice =
          let a = arg nodes 0 t in
          let x = arg nodes 0 a in
          ranks_given (is nodes plain.Not t) (given (is nodes plain.Not a) (Some (shape.Term x))) λ i. ranks_given (is nodes plain.Not a) (Some (shape.Term x)) λ j.
          let q = one_at k (Exactly sort.Bool) (λ _. truth) (op.Plain plain.Not) t refl lt (op_is k plain.Not t i) in
          let r = one_at k (Exactly sort.Bool) (λ _. truth) (op.Plain plain.Not) a refl q.held (op_is k plain.Not a j) in
          ranks_some (shape.Term x) (r.held, sym (sort_same sort.Bool (sort_of nodes x) r.allowed) ∙ sym (ok_is sort.Bool s (q.gives ∙ ap Ok e)))

      ranks_turned : (o r : Operator) → operator_rank o ≡ two_words (λ _. truth) → operator_rank r ≡ two_words (λ _. truth) → Ranks (turned_shape nodes o r t)
      ranks_turned o r p q = ranks_on o (λ _. truth) (λ x y. Some (shape.Two r y x)) t p lt e λ x y n w u g. ranks_some (shape.Two r y x) (u.0, w.0, (λ i. op_rank (op.Plain r) (u.1 i ∷ w.1 i ∷ [])) ∙ two_rank r (λ _. truth) n q ∙ g)

      ranks_order : (o : Operator) (b : ℕ → ℕ → Bool) (c : Bool) → operator_rank o ≡ two_words (λ _. truth) → Ranks (on_shape nodes o (λ x y. given (b x y) (Some (shape.Truth c))) t)
      ranks_order o b c p = ranks_on o (λ _. truth) (λ x y. given (b x y) (Some (shape.Truth c))) t p lt e λ x y n w u g. ranks_given (b x y) (Some (shape.Truth c)) λ _. ranks_some (shape.Truth c) (ok_is sort.Bool s g)

      ranks_equal : Ranks (becomes nodes EqualSame t)
      unfolding k
      ranks_equal =
          let a = arg nodes 0 t in
          let b = arg nodes 1 t in
          ranks_given (is nodes plain.Equal t) (or_else (given (a == b) (Some (shape.Truth true))) None) λ i.
          let q = two_at k Any (λ p. Exactly p) (λ _ _. truth) (op.Plain plain.Equal) t refl lt (op_is k plain.Equal t i) in
          ranks_or (given (a == b) (Some (shape.Truth true))) None (ranks_given (a == b) (Some (shape.Truth true)) λ _. ranks_some (shape.Truth true) (ok_is sort.Bool s (q.gives ∙ ap Ok e))) ranks_none

      ranks_decided : (o m d : Operator) (b : Bool) → operator_rank o ≡ operator_rank plain.And → Ranks (on_shape nodes o (decided_shape nodes m d b) t)
      unfolding k
      ranks_decided o m d b p =
          let x = arg nodes 0 t in
          let y = arg nodes 1 t in
          let f = decided_shape nodes m d b in
          ranks_given (is nodes o t) (or_else (f x y) (given (commutes o) (f y x))) λ i.
          let q = two_at k (Exactly sort.Bool) (λ _. Exactly sort.Bool) (λ _ _. truth) (op.Plain o) t p lt (op_is k o t i) in
          let w : s ≡ sort.Bool = ok_is sort.Bool s (q.gives ∙ ap Ok e) in
          let one_side : (z u : ℕ) → z < length nodes → sort.Bool ≡ sort_of nodes z → Ranks (f z u) = λ z u l r.
          ranks_or (given ((z == u) || is nodes m u) (Some (shape.Term z))) (given (is nodes d u) (Some (shape.Truth b)))
          (ranks_given ((z == u) || is nodes m u) (Some (shape.Term z)) λ _. ranks_some (shape.Term z) (l, sym r ∙ sym w))
          (ranks_given (is nodes d u) (Some (shape.Truth b)) λ _. ranks_some (shape.Truth b) w) in
          ranks_or (f x y) (given (commutes o) (f y x)) (one_side x y q.first (sort_same sort.Bool (sort_of nodes x) q.left))
          (ranks_given (commutes o) (f y x) λ _. one_side y x q.second (sort_same sort.Bool (sort_of nodes y) q.right))

      ranks_choice : Ranks (becomes nodes Choice t)
      unfolding k
      ranks_choice =
          let c = arg nodes 0 t in
          let x = arg nodes 1 t in
          let y = arg nodes 2 t in
          ranks_given (is nodes plain.Ite t) (or_else (given (is nodes plain.True c) (Some (shape.Term x))) (or_else (given (is nodes plain.False c) (Some (shape.Term y))) (given (x == y) (Some (shape.Term x))))) λ i.
          let q = three_at k (Exactly sort.Bool) (λ _. Any) (λ _ p. Exactly p) (λ _ p _. Ok p) (op.Plain plain.Ite) t refl lt (op_is k plain.Ite t i) in
          let g : s ≡ sort_of nodes x = ok_is (sort_of nodes x) s (q.gives ∙ ap Ok e) in
          let yes = ranks_some (shape.Term x) (q.second, sym g) in
          let no = ranks_some (shape.Term y) (q.third, sym (sort_same (sort_of nodes x) (sort_of nodes y) q.right) ∙ sym g) in
          ranks_or (given (is nodes plain.True c) (Some (shape.Term x))) (or_else (given (is nodes plain.False c) (Some (shape.Term y))) (given (x == y) (Some (shape.Term x))))
          (ranks_given (is nodes plain.True c) (Some (shape.Term x)) λ _. yes)
          (ranks_or (given (is nodes plain.False c) (Some (shape.Term y))) (given (x == y) (Some (shape.Term x)))
          (ranks_given (is nodes plain.False c) (Some (shape.Term y)) λ _. no)
          (ranks_given (x == y) (Some (shape.Term x)) λ _. yes))

      -- ---- parts of words

      extract_op : (o : Op) → is_extract o ≡ true → o ≡ op.Extract (high_in o) (low_in o)
      extract_op (op.Extract i j) z = refl
      extract_op _ z = let f : ⊥ = cc in absurd f

      record Part (u : ℕ) : Type 0 where
        n : ℕ
        word : IsWide (arg nodes 0 u) n
        is : IsPart (high nodes u) (low nodes u) n (sort_of nodes u)

      part_at : (u : ℕ) → u < length nodes → extraction nodes u ≡ true → Part u
      unfolding k
      part_at u l z =
          let i = high nodes u in
          let j = low nodes u in
          let x = arg nodes 0 u in
          let q = one_at k AnyWord (λ p. extract_sort i j (width_of p)) (op.Extract i j) u refl l (extract_op (op_at nodes u) z) in
          let n = width_of (sort_of nodes x) in
          record { n = n; word = wide x n q.held (word_is (sort_of nodes x) q.allowed); is = part_ok i j n (sort_of nodes u) q.gives }

      part_ranked : (x n i j : ℕ) → IsWide x n → j ≤ i → i < n → word_sort (i - j + 1) ≡ Ok s → IsRanked nodes s (shape.Bits i j x)
      part_ranked x n i j w a b g = ((w.0, (λ l. op_rank (op.Extract i j) (w.1 l ∷ [])) ∙ extract_in i j n a b ∙ g), a, let m = w.3 in omega (arith, b, m))

      ranks_all : Ranks (becomes nodes ExtractAll t)
      ranks_all =
          let x = arg nodes 0 t in
          let b = high nodes t + 1 == width_at nodes x in
          let c = low nodes t == 0 in
          ranks_given (extraction nodes t) (given b (given c (Some (shape.Term x)))) λ h. ranks_given b (given c (Some (shape.Term x))) λ f. ranks_given c (Some (shape.Term x)) λ g.
          let p = part_at t lt h in
          let w : width_at nodes x ≡ p.n = ap width_of p.word.1 in
          let n : high nodes t - low nodes t + 1 ≡ p.n = let u = eqb-true (high nodes t + 1) (width_at nodes x) f in let v = eqb-true (low nodes t) 0 g in omega (arith, u, v, w) in
          let r = word_sort_ok (high nodes t - low nodes t + 1) s (p.is.gives ∙ ap Ok e) in
          ranks_some (shape.Term x) (p.word.0, p.word.1 ∙ ap sort.Word (sym n) ∙ r.0)

      ranks_extracts : Ranks (becomes nodes ExtractExtract t)
      ranks_extracts =
          let a = arg nodes 0 t in
          let x = arg nodes 0 a in
          let i = high nodes t in
          let j = low nodes t in
          let l = low nodes a in
          ranks_given (extraction nodes t) (given (extraction nodes a) (Some (shape.Bits (i + l) (j + l) x))) λ h. ranks_given (extraction nodes a) (Some (shape.Bits (i + l) (j + l) x)) λ f.
          let p = part_at t lt h in
          let q = part_at a p.word.0 f in
          let r = word_sort_ok (high nodes a - l + 1) (sort_of nodes a) q.is.gives in
          let n : high nodes a - l + 1 ≡ p.n = ap width_of (r.0 ∙ p.word.1) in
          let size : i + l - (j + l) + 1 ≡ i - j + 1 = omega arith in
          ranks_some (shape.Bits (i + l) (j + l) x)
          (part_ranked x q.n (i + l) (j + l) q.word (omega (arith, p.is.order)) (omega (arith, p.is.within, q.is.within, q.is.order, n))
          (ap word_sort size ∙ p.is.gives ∙ ap Ok e))

      ranks_joined : Ranks (becomes nodes ExtractConcat t)
      unfolding k
      ranks_joined =
          let a = arg nodes 0 t in
          let x = arg nodes 0 a in
          let y = arg nodes 1 a in
          let i = high nodes t in
          let j = low nodes t in
          let m = width_at nodes y in
          ranks_given (extraction nodes t) (given (is nodes plain.Concat a) (part_shape nodes i j m a)) λ h. ranks_given (is nodes plain.Concat a) (part_shape nodes i j m a) λ f.
          let p = part_at t lt h in
          let c = two_at k AnyWord (λ _. AnyWord) (λ r z. word_sort (width_of r + width_of z)) (op.Plain plain.Concat) a refl p.word.0 (op_is k plain.Concat a f) in
          let n = width_of (sort_of nodes x) in
          let left = wide x n c.first (word_is (sort_of nodes x) c.left) in
          let right = wide y m c.second (word_is (sort_of nodes y) c.right) in
          let r = word_sort_ok (n + m) (sort_of nodes a) c.gives in
          let w : n + m ≡ p.n = ap width_of (r.0 ∙ p.word.1) in
          let g : word_sort (i - j + 1) ≡ Ok s = p.is.gives ∙ ap Ok e in
          let low_part = shape.Bits i j y in
          let high_part = shape.Bits (i - m) (j - m) x in
          ranks_or (given (nat_lt i m) (Some low_part)) (given (nat_le m j) (Some high_part))
          (ranks_given (nat_lt i m) (Some low_part) λ z. ranks_some low_part (part_ranked y m i j right p.is.order (ltb-true i m z) g))
          (ranks_given (nat_le m j) (Some high_part) λ z.
          let le : m ≤ j = leb-true m j z in
          let size : i - m - (j - m) + 1 ≡ i - j + 1 = omega (arith, le, p.is.order) in
          ranks_some high_part (part_ranked x n (i - m) (j - m) left (omega (arith, le, p.is.order)) (omega (arith, le, p.is.order, p.is.within, w)) (ap word_sort size ∙ g)))

      -- ---- what changes nothing

      idle_by : (o : Op) (f : ℕ → ℕ) (x : ℕ) → rank_of o ≡ one_word (λ n. word_sort (f n)) → op_at nodes t ≡ o → x ≡ arg nodes 0 t → f (width_at nodes x) ≡ width_at nodes x → (x < length nodes) × (sort_of nodes x ≡ s)
      unfolding k
      idle_by o f x r q p z =
          let y = arg nodes 0 t in
          let a = one_at k AnyWord (λ w. word_sort (f (width_of w))) o t r lt q in
          let g = word_sort_ok (f (width_at nodes y)) s (a.gives ∙ ap Ok e) in
          let w : f (width_at nodes y) ≡ width_at nodes y = subst (λ u. f (width_at nodes u) ≡ width_at nodes u) p z in
          (rw p a.held, ap (sort_of nodes) p ∙ word_is (sort_of nodes y) a.allowed ∙ ap sort.Word (sym w) ∙ g.0)

      idle_sort : (o : Op) (x : ℕ) → op_at nodes t ≡ o → x ≡ arg nodes 0 t → is_idle (width_at nodes x) o ≡ true → (x < length nodes) × (sort_of nodes x ≡ s)
      unfolding k
      idle_sort (op.ZeroExtend i) x q f h = idle_by (op.ZeroExtend i) (λ n. n + i) x refl q f (let z = eqb-true i 0 h in omega (arith, z))
      idle_sort (op.SignExtend i) x q f h = idle_by (op.SignExtend i) (λ n. n + i) x refl q f (let z = eqb-true i 0 h in omega (arith, z))
      idle_sort (op.RotateLeft i) x q f h = idle_by (op.RotateLeft i) (λ n. n) x refl q f refl
      idle_sort (op.RotateRight i) x q f h = idle_by (op.RotateRight i) (λ n. n) x refl q f refl
      idle_sort (op.Repeat i) x q f h =
          let n = width_at nodes x in
          let z = eqb-true i 1 h in
          let one : n * 1 ≡ n = omega arith in
          idle_by (op.Repeat i) (λ n. n * i) x refl q f (ap (λ j. n * j) z ∙ one)
      idle_sort _ x q f h = let z : ⊥ = cc in absurd z

      ranks_idle : Ranks (becomes nodes Idle t)
      ranks_idle =
          let x = arg nodes 0 t in
          ranks_given (is_idle (width_at nodes x) (op_at nodes t)) (Some (shape.Term x)) λ h. ranks_some (shape.Term x) (idle_sort (op_at nodes t) x refl refl h)

      -- ---- arrays

      array_is : (r : Sort) → is_array r ≡ true → (n : ℕ) × (m : ℕ) × (r ≡ sort.Array n m)
      array_is sort.Bool z = never z
      array_is (sort.Word n) z = never z
      array_is (sort.Array n m) z = (n, m, refl)

      select_rank : (r j : Sort) (n m : ℕ) → r ≡ sort.Array n m → j ≡ sort.Word n → op_rank (op.Plain plain.Select) (r ∷ j ∷ []) ≡ Ok (sort.Word m)
      select_rank r j n m p q =
          (λ i. op_rank (op.Plain plain.Select) (p i ∷ q i ∷ []))
          ∙ ap (λ b. if b then Ok (sort.Word m) else Err (WrongSort 1)) (sort_itself (sort.Word n))

      ranks_read : Ranks (becomes nodes SelectStore t)
      unfolding k
      ranks_read =
          let v = arg nodes 0 t in
          let j = arg nodes 1 t in
          let a = arg nodes 0 v in
          let i = arg nodes 1 v in
          let x = arg nodes 2 v in
          ranks_given (is nodes plain.Select t) (given (is nodes plain.Store v) (read_shape nodes v j)) λ h. ranks_given (is nodes plain.Store v) (read_shape nodes v j) λ f.
          let outer = two_at k AnyArray (λ r. Exactly (index_sort r)) (λ r _. Ok (element_sort r)) (op.Plain plain.Select) t refl lt (op_is k plain.Select t h) in
          let store = three_at k AnyArray (λ r. Exactly (index_sort r)) (λ r _. Exactly (element_sort r)) (λ r _ _. Ok r) (op.Plain plain.Store) v refl outer.first (op_is k plain.Store v f) in
          let r = array_is (sort_of nodes a) store.left in
          let sv : sort_of nodes v ≡ sort.Array r.0 r.1 = ok_is (sort_of nodes a) (sort_of nodes v) store.gives ∙ r.2 in
          let sx : sort_of nodes x ≡ sort.Word r.1 = sym (sort_same (element_sort (sort_of nodes a)) (sort_of nodes x) store.right) ∙ ap element_sort r.2 in
          let sj : sort_of nodes j ≡ sort.Word r.0 = sym (sort_same (index_sort (sort_of nodes v)) (sort_of nodes j) outer.right) ∙ ap index_sort sv in
          let st : s ≡ sort.Word r.1 = ok_is (element_sort (sort_of nodes v)) s (outer.gives ∙ ap Ok e) ∙ ap element_sort sv in
          let item = shape.Term x in
          let below = shape.Two plain.Select a j in
          ranks_or (given (i == j) (Some item)) (given (unequal nodes i j) (Some below))
          (ranks_given (i == j) (Some item) λ _. ranks_some item (store.third, sx ∙ sym st))
          (ranks_given (unequal nodes i j) (Some below) λ _. ranks_some below (store.first, outer.second, select_rank (sort_of nodes a) (sort_of nodes j) r.0 r.1 r.2 sj ∙ ap Ok (sym st)))

      -- ---- literals

      ranks_value : (f : Value) → HasSort s f → Ranks (value_shape f)
      ranks_value (VBool b) h = ranks_some (shape.Truth b) (truth_sort s b h)
        where
          truth_sort : (r : Sort) (b : Bool) → HasSort r (VBool b) → r ≡ sort.Bool
          truth_sort sort.Bool b h = refl
          truth_sort (sort.Word n) b h = let q = h.1 in let z : ⊥ = cc in absurd z
          truth_sort (sort.Array n m) b h = let q = h.1 in let z : ⊥ = cc in absurd z
      ranks_value (VWord n x) h = let w = word_sort_of s n x h in let b = wide_sort w.0 in ranks_some (shape.Word x) (word_ranked n x b.0 b.1 w.1 w.0)
        where
          word_sort_of : (r : Sort) (n x : ℕ) → HasSort r (VWord n x) → (r ≡ sort.Word n) × (x < 2 ^ n)
          word_sort_of sort.Bool n x h = let q = h.1 in let z : ⊥ = cc in absurd z
          word_sort_of (sort.Word m) n x h =
              let a : n ≡ m = ap width_in h.1 in
              let b : x ≡ h.0 = ap number_of h.1 in
              (ap sort.Word (sym a), rw (b, a) h.2)
          word_sort_of (sort.Array i m) n x h = let q = h.1 in let z : ⊥ = cc in absurd z

          wide_sort : s ≡ sort.Word n → (1 ≤ n) × (n ≤ 128)
          wide_sort q = let w : IsSort (sort.Word n) = subst IsSort (e ∙ q) (sort_bounded nodes terms t lt) in w
      ranks_value (VArray n m a) h = ranks_none

      ranks_fold : Ranks (becomes nodes Fold t)
      ranks_fold = ranks_given (has_literals nodes t) (value_shape (folded_value nodes t)) λ h. ranks_value (folded_value nodes t) (subst (λ r. HasSort r (folded_value nodes t)) e (folded_sort nodes terms t lt h))

      -- ---- the table

      ranked_by : (rule : Rule) → Ranks (becomes nodes rule t)
      ranked_by BvnotTwice = ranks_word_twice plain.Bvnot refl
      ranked_by BvnegTwice = ranks_word_twice plain.Bvneg refl
      ranked_by AndSame = ranks_where plain.Bvand (λ x y. x == y) kind.Same refl
      ranked_by AndZero = ranks_where plain.Bvand (λ x c. zero_word nodes c) kind.Zero refl
      ranked_by AndOnes = ranks_where plain.Bvand (λ x c. ones nodes c) kind.Same refl
      ranked_by OrSame = ranks_where plain.Bvor (λ x y. x == y) kind.Same refl
      ranked_by OrZero = ranks_where plain.Bvor (λ x c. zero_word nodes c) kind.Same refl
      ranked_by OrOnes = ranks_where plain.Bvor (λ x c. ones nodes c) kind.Ones refl
      ranked_by XorSame = ranks_where plain.Bvxor (λ x y. x == y) kind.Zero refl
      ranked_by XorZero = ranks_where plain.Bvxor (λ x c. zero_word nodes c) kind.Same refl
      ranked_by XorOnes =
          ranks_on plain.Bvxor Ok (λ x c. given (ones nodes c) (Some (shape.One plain.Bvnot x))) t refl lt e λ x c n w u g.
          ranks_given (ones nodes c) (Some (shape.One plain.Bvnot x)) λ _. ranks_some (shape.One plain.Bvnot x) (w.0, (λ i. op_rank (op.Plain plain.Bvnot) (w.1 i ∷ [])) ∙ word_in n w.2 w.3 ∙ g)
      ranked_by AddZero = ranks_where plain.Bvadd (λ x c. zero_word nodes c) kind.Same refl
      ranked_by AddOpposite = ranks_where plain.Bvadd (λ x y. of_term nodes plain.Bvneg x y) kind.Zero refl
      ranked_by Subtract =
          ranks_on plain.Bvsub Ok (λ x y. Some (shape.WithNegated x y)) t refl lt e λ x y n w u g.
          ranks_some (shape.WithNegated x y) (
            (w.0, u.0, (λ i. op_rank (op.Plain plain.Bvadd) (w.1 i ∷ u.1 i ∷ [])) ∙ two_rank plain.Bvadd Ok n refl ∙ g),
            (u.0, (λ i. op_rank (op.Plain plain.Bvneg) (u.1 i ∷ [])) ∙ word_in n u.2 u.3 ∙ ap Ok (sym u.1)),
          )
      ranked_by AddSame = ranks_where plain.Bvadd (λ x y. x == y) kind.Doubled refl
      ranked_by MultiplyZero = ranks_where plain.Bvmul (λ x c. zero_word nodes c) kind.Zero refl
      ranked_by MultiplyOne = ranks_where plain.Bvmul (λ x c. one nodes c) kind.Same refl
      ranked_by MultiplyPower = ranks_power plain.Bvmul by.ShiftedLeft refl
      ranked_by DivideOne = ranks_where plain.Bvudiv (λ x c. one nodes c) kind.Same refl
      ranked_by DivideZero = ranks_where plain.Bvudiv (λ x c. zero_word nodes c) kind.Ones refl
      ranked_by DividePower = ranks_power plain.Bvudiv by.ShiftedRight refl
      ranked_by RemainderZero = ranks_where plain.Bvurem (λ x c. zero_word nodes c) kind.Same refl
      ranked_by RemainderOne = ranks_where plain.Bvurem (λ x c. one nodes c) kind.Zero refl
      ranked_by RemainderPower = ranks_power plain.Bvurem by.Masked refl
      ranked_by ShiftZero =
          let z : Operator → Option Shape = λ o. on_shape nodes o (λ x c. given (zero_word nodes c) (Some (kind_shape kind.Same x))) t in
          ranks_or (z plain.Bvshl) (or_else (z plain.Bvlshr) (z plain.Bvashr)) (ranks_where plain.Bvshl (λ x c. zero_word nodes c) kind.Same refl)
          (ranks_or (z plain.Bvlshr) (z plain.Bvashr) (ranks_where plain.Bvlshr (λ x c. zero_word nodes c) kind.Same refl) (ranks_where plain.Bvashr (λ x c. zero_word nodes c) kind.Same refl))
      ranked_by ShiftPast = ranks_or (past_width nodes plain.Bvshl t) (past_width nodes plain.Bvlshr t) (ranks_past plain.Bvshl refl) (ranks_past plain.Bvlshr refl)
      ranked_by ExtractAll = ranks_all
      ranked_by ExtractExtract = ranks_extracts
      ranked_by ExtractConcat = ranks_joined
      ranked_by Idle = ranks_idle
      ranked_by Less = ranks_order plain.Bvult (λ x y. (x == y) || zero_word nodes y) false refl
      ranked_by AtMost = ranks_order plain.Bvule (λ x y. (x == y) || zero_word nodes x) true refl
      ranked_by Greater =
          let f : Operator → Operator → Option Shape = λ o r. turned_shape nodes o r t in
          ranks_or (f plain.Bvugt plain.Bvult) (or_else (f plain.Bvuge plain.Bvule) (or_else (f plain.Bvsgt plain.Bvslt) (f plain.Bvsge plain.Bvsle))) (ranks_turned plain.Bvugt plain.Bvult refl refl)
          (ranks_or (f plain.Bvuge plain.Bvule) (or_else (f plain.Bvsgt plain.Bvslt) (f plain.Bvsge plain.Bvsle)) (ranks_turned plain.Bvuge plain.Bvule refl refl)
          (ranks_or (f plain.Bvsgt plain.Bvslt) (f plain.Bvsge plain.Bvsle) (ranks_turned plain.Bvsgt plain.Bvslt refl refl) (ranks_turned plain.Bvsge plain.Bvsle refl refl)))
      ranked_by EqualSame = ranks_equal
      ranked_by NotTwice = ranks_truth_twice
      ranked_by Connective =
          ranks_or (on_shape nodes plain.And (decided_shape nodes plain.True plain.False false) t) (on_shape nodes plain.Or (decided_shape nodes plain.False plain.True true) t)
          (ranks_decided plain.And plain.True plain.False false refl)
          (ranks_decided plain.Or plain.False plain.True true refl)
      ranked_by Choice = ranks_choice
      ranked_by SelectStore = ranks_read
      ranked_by Fold = ranks_fold
      ranked_by Inner = ranks_none

pub ranked_shape : (nodes : List Node) (rule : Rule) (t : ℕ) (z : Shape) → IsTermList nodes → t < length nodes → becomes nodes rule t ≡ Some z → IsRanked nodes (sort_of nodes t) z
ranked_shape nodes rule t z terms lt h = ranked_by nodes terms (sort_of nodes t) t lt refl rule z h
