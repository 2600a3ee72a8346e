-- The rules on parts of words, on truth values, on choices and on arrays keep each evaluation.
use Rattle.std.proofs.Common.{◌≡◌, ℕ, ◌+◌, ◌-◌, ◌*◌, ◌%◌, ◌^◌, ◌<◌, ◌≤◌, Bool, true, false, [], ◌∷◌, length, map, refl, sym, ap, ◌∙◌, subst, arith, Ok}
use Rattle.std.specs.Prelude.{◌==◌, ◌&&◌, ◌||◌, nat_lt, nat_le, not, if◌then◌else◌}
use Rattle.std.proofs.lemmas.Bool.{eqb-true, eq-eqb, and_parts, leb-true, ltb-true}
use Rattle.smt_words.specs.Words.{concat_of, extract_of, sign_extend_of, rotate_left_of, rotate_right_of, repeat_of}
use Rattle.smt_terms.specs.declared.sort.Sort.{Sort}
use Rattle.smt_terms.specs.declared.sort.Sort.TheVariants as sort
use Rattle.smt_terms.specs.declared.operator.Operator.{Operator}
use Rattle.smt_terms.specs.declared.operator.Operator.TheVariants as plain
use Rattle.smt_terms.specs.declared.node.Op.{Op}
use Rattle.smt_terms.specs.declared.node.Op.TheVariants.{Plain, Word, Extract, ZeroExtend, SignExtend, RotateLeft, RotateRight, Repeat}
use Rattle.smt_terms.specs.declared.rank.Demand.TheVariants.{Any, AnyWord, AnyArray, Exactly}
use Rattle.smt_terms.specs.Same.{same_sort, sort_same, same_op, op_same}
use Rattle.smt_terms.specs.Nodes.{node_at}
use Rattle.smt_terms.specs.Ranks.{is_array, width_of, index_sort, element_sort, truth, two_truths, word_sort, extract_sort, operator_rank}
use Rattle.smt_terms.specs.Terms.{sort_of}
use Rattle.smt_terms.specs.Values.{held_at, with_entry, Value, VBool, VWord, VArray, HasSort, is_true, number_of, width_in, same_value, select_of, store_of, Is, applied, truths_of, operator_meaning}
use Rattle.smt_terms.specs.Evaluations.{is_witness}
use Rattle.smt_terms.proofs.Arrays.{each_all_below, stored_same, stored_other}
use Rattle.smt_terms.proofs.Typing.{guard_ok}
use Rattle.bv_rules.specs.Reading.{commutes, is_extract, high_in, low_in, is_idle, are_unequal, op_at, arg}
use Rattle.bv_rules.specs.Rules.{width_at, is, on, of_terms, extracts, unequal, extracts_part, reads}
use Rattle.bv_rules.proofs.Numbers.{extract_all, extract_extract, extract_low, extract_high, sign_extend_none, rotate_left_none, rotate_right_none, repeat_one}
use Rattle.bv_rules.proofs.Known.{Context, or_cases, never, word_is, WordAt, word_at, op_is, value_by, one_at, two_at, three_at, on_word, one_word_at}

-- ---- extractions

extract_op : (o : Op) → is_extract o ≡ true → o ≡ Extract (high_in o) (low_in o)
extract_op (Extract i j) e = refl
extract_op _ e = let q : ⊥ = cc in absurd q

abbrev pub part : ℕ → ℕ → ℕ → ℕ → Value
part i j n x = VWord (i - j + 1) (extract_of i j x)

pub record Extracts (k : Context) (i j t : ℕ) : Type 0 where
  pub n : ℕ
  pub word : WordAt k (arg k.nodes 0 t) n
  pub value : k.v t ≡ on_word (part i j) (k.v (arg k.nodes 0 t))
  pub order : j ≤ i
  pub within : i < n

extract_by : (k : Context) (i j t : ℕ) → t < length k.nodes → op_at k.nodes t ≡ Extract i j → Extracts k i j t
extract_by k i j t lt e =
    let w = one_word_at k (Extract i j) (part i j) (extract_sort i j) refl refl refl t lt e in
    let g = guard_ok (nat_le j i && nat_lt i w.n) (word_sort (i - j + 1)) _ (sort_of k.nodes t) w.gives in
    let p = and_parts (nat_le j i) (nat_lt i w.n) g.0 in
    record { n = w.n; word = w.word; value = w.value; order = leb-true j i p.0; within = ltb-true i w.n p.1 }

pub extract_at : (k : Context) (t : ℕ) → t < length k.nodes → is_extract (op_at k.nodes t) ≡ true → Extracts k (high_in (op_at k.nodes t)) (low_in (op_at k.nodes t)) t
extract_at k t lt h = extract_by k (high_in (op_at k.nodes t)) (low_in (op_at k.nodes t)) t lt (extract_op (op_at k.nodes t) h)

extract_of_term : (k : Context) (i j x u : ℕ) → u < length k.nodes → extracts k.nodes i j x u ≡ true → k.v u ≡ on_word (part i j) (k.v x)
extract_of_term k i j x u lu h =
    let p = and_parts (same_op (op_at k.nodes u) (Extract i j)) (arg k.nodes 0 u == x) h in
    let d = extract_by k i j u lu (op_same (op_at k.nodes u) (Extract i j) p.0) in
    d.value ∙ ap (λ y. on_word (part i j) (k.v y)) (eqb-true (arg k.nodes 0 u) x p.1)

module _ (k : Context) (t u : ℕ) (lt : t < length k.nodes) (lu : u < length k.nodes) where
  pub whole_extract : (is_extract (op_at k.nodes t) && ((high_in (op_at k.nodes t) + 1 == width_at k.nodes (arg k.nodes 0 t)) && ((low_in (op_at k.nodes t) == 0) && (u == arg k.nodes 0 t)))) ≡ true → k.v u ≡ k.v t
  whole_extract h =
      let x = arg k.nodes 0 t in
      let i = high_in (op_at k.nodes t) in
      let j = low_in (op_at k.nodes t) in
      let p = and_parts (is_extract (op_at k.nodes t)) ((i + 1 == width_at k.nodes x) && ((j == 0) && (u == x))) h in
      let q = and_parts (i + 1 == width_at k.nodes x) ((j == 0) && (u == x)) p.1 in
      let r = and_parts (j == 0) (u == x) q.1 in
      let d = extract_at k t lt p.0 in
      let y = d.word.number in
      let n : i + 1 ≡ d.n = eqb-true (i + 1) (width_at k.nodes x) q.0 ∙ ap width_of d.word.sort in
      let w : d.n ≡ i - 0 + 1 = omega (arith, n) in
      ap k.v (eqb-true u x r.1)
      ∙ d.word.is
      ∙ (λ z. VWord (w z) (sym (extract_all d.n y i n d.word.fits) z))
      ∙ ap (λ z. VWord (i - z + 1) (extract_of i z y)) (sym (eqb-true j 0 r.0))
      ∙ sym (d.value ∙ ap (on_word (part i j)) d.word.is)

  pub inner_extract : (is_extract (op_at k.nodes t) && (is_extract (op_at k.nodes (arg k.nodes 0 t)) && extracts k.nodes (high_in (op_at k.nodes t) + low_in (op_at k.nodes (arg k.nodes 0 t))) (low_in (op_at k.nodes t) + low_in (op_at k.nodes (arg k.nodes 0 t))) (arg k.nodes 0 (arg k.nodes 0 t)) u)) ≡ true → k.v u ≡ k.v t
  inner_extract h =
      let a = arg k.nodes 0 t in
      let x = arg k.nodes 0 a in
      let i = high_in (op_at k.nodes t) in
      let j = low_in (op_at k.nodes t) in
      let m = high_in (op_at k.nodes a) in
      let l = low_in (op_at k.nodes a) in
      let p = and_parts (is_extract (op_at k.nodes t)) (is_extract (op_at k.nodes a) && extracts k.nodes (i + l) (j + l) x u) h in
      let q = and_parts (is_extract (op_at k.nodes a)) (extracts k.nodes (i + l) (j + l) x u) p.1 in
      let d = extract_at k t lt p.0 in
      let c = extract_at k a d.word.held q.0 in
      let y = c.word.number in
      let n : d.n ≡ m - l + 1 = ap width_in (sym d.word.is ∙ c.value) in
      let below : i < m - l + 1 = omega (arith, d.within, n) in
      let w : i + l - (j + l) + 1 ≡ i - j + 1 = omega (arith, d.order) in
      extract_of_term k (i + l) (j + l) x u lu q.1
      ∙ ap (on_word (part (i + l) (j + l))) c.word.is
      ∙ (λ z. VWord (w z) (sym (extract_extract y i j m l d.order below) z))
      ∙ sym (d.value ∙ ap (on_word (part i j)) (c.value ∙ ap (on_word (part m l)) c.word.is))

  pub concat_extract : (is_extract (op_at k.nodes t) && (is k.nodes plain.Concat (arg k.nodes 0 t) && extracts_part k.nodes (high_in (op_at k.nodes t)) (low_in (op_at k.nodes t)) (width_at k.nodes (arg k.nodes 1 (arg k.nodes 0 t))) (arg k.nodes 0 t) u)) ≡ true → k.v u ≡ k.v t
  concat_extract h =
      let a = arg k.nodes 0 t in
      let x = arg k.nodes 0 a in
      let y = arg k.nodes 1 a in
      let i = high_in (op_at k.nodes t) in
      let j = low_in (op_at k.nodes t) in
      let n = width_at k.nodes x in
      let m = width_at k.nodes y in
      let p = and_parts (is_extract (op_at k.nodes t)) (is k.nodes plain.Concat a && extracts_part k.nodes i j m a u) h in
      let q = and_parts (is k.nodes plain.Concat a) (extracts_part k.nodes i j m a u) p.1 in
      let d = extract_at k t lt p.0 in
      let la = d.word.held in
      let op = op_is k plain.Concat a q.0 in
      let c = two_at k AnyWord (λ s. AnyWord) (λ r s. word_sort (width_of r + width_of s)) (Plain plain.Concat) a refl la op in
      let left = word_at k x n c.first (word_is (sort_of k.nodes x) c.left) in
      let right = word_at k y m c.second (word_is (sort_of k.nodes y) c.right) in
      let va : k.v a ≡ VWord (n + m) (concat_of m left.number right.number) =
      value_by k (Plain plain.Concat) a (x ∷ y ∷ []) la op refl c.args
      ∙ (λ z. VWord (width_in (left.is z) + width_in (right.is z)) (concat_of (width_in (right.is z)) (number_of (left.is z)) (number_of (right.is z)))) in
      let vt : k.v t ≡ part i j (n + m) (concat_of m left.number right.number) = d.value ∙ ap (on_word (part i j)) va in
      or_cases (nat_lt i m && extracts k.nodes i j y u) (nat_le m j && extracts k.nodes (i - m) (j - m) x u) q.1
      (λ g.
      let r = and_parts (nat_lt i m) (extracts k.nodes i j y u) g in
      extract_of_term k i j y u lu r.1
      ∙ ap (on_word (part i j)) right.is
      ∙ ap (VWord (i - j + 1)) (sym (extract_low left.number right.number m i j right.fits d.order (ltb-true i m r.0)))
      ∙ sym vt)
      (λ g.
      let r = and_parts (nat_le m j) (extracts k.nodes (i - m) (j - m) x u) g in
      let le : m ≤ j = leb-true m j r.0 in
      let w : i - m - (j - m) + 1 ≡ i - j + 1 = omega (arith, le, d.order) in
      extract_of_term k (i - m) (j - m) x u lu r.1
      ∙ ap (on_word (part (i - m) (j - m))) left.is
      ∙ (λ z. VWord (w z) (sym (extract_high left.number right.number m i j right.fits d.order le) z))
      ∙ sym vt)

  -- ---- what changes nothing

  idle_case : (o : Op) → op_at k.nodes t ≡ o → is_idle (width_at k.nodes (arg k.nodes 0 t)) o ≡ true → k.v (arg k.nodes 0 t) ≡ k.v t
  idle_case (ZeroExtend i) e h =
      let w = one_word_at k (ZeroExtend i) (λ n x. VWord (n + i) x) (λ n. word_sort (n + i)) refl refl refl t lt e in
      let z : i ≡ 0 = eqb-true i 0 h in
      let n : w.n ≡ w.n + i = omega (arith, z) in
      w.word.is ∙ ap (λ m. VWord m w.word.number) n ∙ sym (w.value ∙ ap (on_word (λ n x. VWord (n + i) x)) w.word.is)
  idle_case (SignExtend i) e h =
      let w = one_word_at k (SignExtend i) (λ n x. VWord (n + i) (sign_extend_of n i x)) (λ n. word_sort (n + i)) refl refl refl t lt e in
      let z : i ≡ 0 = eqb-true i 0 h in
      let y = w.word.number in
      let n : w.n ≡ w.n + 0 = omega arith in
      w.word.is
      ∙ (λ m. VWord (n m) (sym (sign_extend_none w.n y) m))
      ∙ ap (λ m. VWord (w.n + m) (sign_extend_of w.n m y)) (sym z)
      ∙ sym (w.value ∙ ap (on_word (λ n x. VWord (n + i) (sign_extend_of n i x))) w.word.is)
  idle_case (RotateLeft i) e h =
      let w = one_word_at k (RotateLeft i) (λ n x. VWord n (rotate_left_of n i x)) word_sort refl refl refl t lt e in
      let z : i % w.n ≡ 0 = ap (λ m. i % m) (sym (ap width_of w.word.sort)) ∙ eqb-true (i % width_at k.nodes (arg k.nodes 0 t)) 0 h in
      w.word.is ∙ ap (VWord w.n) (sym (rotate_left_none w.n i w.word.number z w.word.fits)) ∙ sym (w.value ∙ ap (on_word (λ n x. VWord n (rotate_left_of n i x))) w.word.is)
  idle_case (RotateRight i) e h =
      let w = one_word_at k (RotateRight i) (λ n x. VWord n (rotate_right_of n i x)) word_sort refl refl refl t lt e in
      let z : i % w.n ≡ 0 = ap (λ m. i % m) (sym (ap width_of w.word.sort)) ∙ eqb-true (i % width_at k.nodes (arg k.nodes 0 t)) 0 h in
      w.word.is ∙ ap (VWord w.n) (sym (rotate_right_none w.n i w.word.number z w.word.fits)) ∙ sym (w.value ∙ ap (on_word (λ n x. VWord n (rotate_right_of n i x))) w.word.is)
  idle_case (Repeat i) e h =
      let w = one_word_at k (Repeat i) (λ n x. VWord (n * i) (repeat_of n i x)) (λ n. word_sort (n * i)) refl refl refl t lt e in
      let z : i ≡ 1 = eqb-true i 1 h in
      let y = w.word.number in
      let n : w.n ≡ w.n * 1 = omega arith in
      w.word.is
      ∙ (λ m. VWord (n m) (sym (repeat_one w.n y) m))
      ∙ ap (λ m. VWord (w.n * m) (repeat_of w.n m y)) (sym z)
      ∙ sym (w.value ∙ ap (on_word (λ n x. VWord (n * i) (repeat_of n i x))) w.word.is)
  idle_case _ e h = let q : ⊥ = cc in absurd q

  pub idle : (is_idle (width_at k.nodes (arg k.nodes 0 t)) (op_at k.nodes t) && (u == arg k.nodes 0 t)) ≡ true → k.v u ≡ k.v t
  idle h =
      let p = and_parts (is_idle (width_at k.nodes (arg k.nodes 0 t)) (op_at k.nodes t)) (u == arg k.nodes 0 t) h in
      ap k.v (eqb-true u (arg k.nodes 0 t) p.1) ∙ idle_case (op_at k.nodes t) refl p.0

-- ---- equalities

same_self : (w : Value) → same_value w w ≡ true
same_self (VBool true) = refl
same_self (VBool false) = refl
same_self (VWord n x) = rw (eq-eqb n n refl, eq-eqb x x refl) refl
same_self (VArray n m a) = each_all_below (λ i. held_at a i == held_at a i) (2 ^ n) (λ i lt. eq-eqb (held_at a i) (held_at a i) refl)

-- ---- truth values

truth_at : (k : Context) (o : Operator) (b : Bool) → operator_meaning o ≡ Is (VBool b) → is_witness (Plain o) ≡ false → (x : ℕ) → x < length k.nodes → is k.nodes o x ≡ true → k.v x ≡ VBool b
truth_at k o b m w x lt h = value_by k (Plain o) x (node_at k.nodes x).args lt (op_is k o x h) w refl ∙ ap (λ p. applied p (map k.v (node_at k.nodes x).args)) m

pub bool_at : (k : Context) (x : ℕ) → x < length k.nodes → same_sort sort.Bool (sort_of k.nodes x) ≡ true → HasSort sort.Bool (k.v x)
bool_at k x lt h = subst (λ s. HasSort s (k.v x)) (sym (sort_same sort.Bool (sort_of k.nodes x) h)) (k.evaluation.sorted x lt)

pub record OnTruths (o : Operator) (f : Bool → Bool → Bool) : Type 0 where
  pub rank : operator_rank o ≡ two_truths
  pub meaning : operator_meaning o ≡ truths_of f
  pub other : is_witness (Plain o) ≡ false
  pub turns : (a b : Bool) → f a b ≡ f b a

record Truths (k : Context) (f : Bool → Bool → Bool) (p : ℕ → ℕ → Bool) (t : ℕ) : Type 0 where
  x : ℕ
  y : ℕ
  a : Bool
  b : Bool
  holds : p x y ≡ true
  second : y < length k.nodes
  left : k.v x ≡ VBool a
  right : k.v y ≡ VBool b
  value : k.v t ≡ VBool (f a b)

truths_at : (k : Context) (o : Operator) (f : Bool → Bool → Bool) → OnTruths o f → (p : ℕ → ℕ → Bool) (t : ℕ) → t < length k.nodes → on k.nodes o p t ≡ true → Truths k f p t
truths_at k o f w p t lt e =
    let x = arg k.nodes 0 t in
    let y = arg k.nodes 1 t in
    let parts = and_parts (is k.nodes o t) (p x y || (commutes o && p y x)) e in
    let op = op_is k o t parts.0 in
    let q = two_at k (Exactly sort.Bool) (λ _. Exactly sort.Bool) (λ _ _. truth) (Plain o) t w.rank lt op in
    let l = bool_at k x q.first q.left in
    let r = bool_at k y q.second q.right in
    let val : k.v t ≡ VBool (f l.0 r.0) =
    value_by k (Plain o) t (x ∷ y ∷ []) lt op w.other q.args
    ∙ ap (λ m. applied m (k.v x ∷ k.v y ∷ [])) w.meaning
    ∙ (λ i. VBool (f (is_true (l.1 i)) (is_true (r.1 i)))) in
    or_cases (p x y) (commutes o && p y x) parts.1
    (λ z. record { x = x; y = y; a = l.0; b = r.0; holds = z; second = q.second; left = l.1; right = r.1; value = val })
    (λ z.
    let c = and_parts (commutes o) (p y x) z in
    record { x = y; y = x; a = r.0; b = l.0; holds = c.1; second = q.first; left = r.1; right = l.1; value = val ∙ ap VBool (w.turns l.0 r.0) })

pub and_truths : OnTruths plain.And (λ a b. a && b)
and_truths = record { rank = refl; meaning = refl; other = refl; turns = turns } where
  turns : (a b : Bool) → (a && b) ≡ (b && a)
  turns true true = refl
  turns true false = refl
  turns false true = refl
  turns false false = refl

pub or_truths : OnTruths plain.Or (λ a b. a || b)
or_truths = record { rank = refl; meaning = refl; other = refl; turns = turns } where
  turns : (a b : Bool) → (a || b) ≡ (b || a)
  turns true true = refl
  turns true false = refl
  turns false true = refl
  turns false false = refl

-- a truth value that changes nothing, and one that decides
pub record Neutral (f : Bool → Bool → Bool) (c d : Bool) : Type 0 where
  pub same : (a : Bool) → f a a ≡ a
  pub neutral : (a : Bool) → f a c ≡ a
  pub deciding : (a : Bool) → f a d ≡ d

pub and_neutral : Neutral (λ a b. a && b) true false
and_neutral = record { same = elim [ true ↦ refl | false ↦ refl ]; neutral = elim [ true ↦ refl | false ↦ refl ]; deciding = elim [ true ↦ refl | false ↦ refl ] }

pub or_neutral : Neutral (λ a b. a || b) false true
or_neutral = record { same = elim [ true ↦ refl | false ↦ refl ]; neutral = elim [ true ↦ refl | false ↦ refl ]; deciding = elim [ true ↦ refl | false ↦ refl ] }

not_twice : (b : Bool) → not (not b) ≡ b
not_twice true = refl
not_twice false = refl

module _ (k : Context) (t u : ℕ) (lt : t < length k.nodes) (lu : u < length k.nodes) where
  pub equal_same : on k.nodes plain.Equal (λ x y. (x == y) && is k.nodes plain.True u) t ≡ true → k.v u ≡ k.v t
  equal_same h =
      let x = arg k.nodes 0 t in
      let y = arg k.nodes 1 t in
      let p = and_parts (is k.nodes plain.Equal t) (((x == y) && is k.nodes plain.True u) || (commutes plain.Equal && ((y == x) && is k.nodes plain.True u))) h in
      let op = op_is k plain.Equal t p.0 in
      let q = two_at k Any (λ s. Exactly s) (λ _ _. truth) (Plain plain.Equal) t refl lt op in
      or_cases ((x == y) && is k.nodes plain.True u) (commutes plain.Equal && ((y == x) && is k.nodes plain.True u)) p.1
      (λ g.
      let r = and_parts (x == y) (is k.nodes plain.True u) g in
      truth_at k plain.True true refl refl u lu r.1
      ∙ ap VBool (sym (same_self (k.v x)))
      ∙ ap (λ z. VBool (same_value (k.v x) (k.v z))) (eqb-true x y r.0)
      ∙ sym (value_by k (Plain plain.Equal) t (x ∷ y ∷ []) lt op refl q.args))
      (λ g. never g)

  pub negated_twice : (is k.nodes plain.Not t && (is k.nodes plain.Not (arg k.nodes 0 t) && (u == arg k.nodes 0 (arg k.nodes 0 t)))) ≡ true → k.v u ≡ k.v t
  negated_twice h =
      let a = arg k.nodes 0 t in
      let x = arg k.nodes 0 a in
      let p = and_parts (is k.nodes plain.Not t) (is k.nodes plain.Not a && (u == x)) h in
      let q = and_parts (is k.nodes plain.Not a) (u == x) p.1 in
      let op = op_is k plain.Not t p.0 in
      let outer = one_at k (Exactly sort.Bool) (λ _. truth) (Plain plain.Not) t refl lt op in
      let inner_op = op_is k plain.Not a q.0 in
      let inner = one_at k (Exactly sort.Bool) (λ _. truth) (Plain plain.Not) a refl outer.held inner_op in
      let b = bool_at k x inner.held inner.allowed in
      let va : k.v a ≡ VBool (not b.0) = value_by k (Plain plain.Not) a (x ∷ []) outer.held inner_op refl inner.args ∙ (λ i. VBool (not (is_true (b.1 i)))) in
      let vt : k.v t ≡ VBool (not (not b.0)) = value_by k (Plain plain.Not) t (a ∷ []) lt op refl outer.args ∙ (λ i. VBool (not (is_true (va i)))) in
      ap k.v (eqb-true u x q.1) ∙ b.1 ∙ ap VBool (sym (not_twice b.0)) ∙ sym vt

  pub connected : (o n d : Operator) (f : Bool → Bool → Bool) (a b : Bool) → OnTruths o f → Neutral f a b → operator_meaning n ≡ Is (VBool a) → operator_meaning d ≡ Is (VBool b) → is_witness (Plain n) ≡ false → is_witness (Plain d) ≡ false
      → on k.nodes o (λ p q. (((p == q) || is k.nodes n q) && (u == p)) || (is k.nodes d q && is k.nodes d u)) t ≡ true → k.v u ≡ k.v t
  connected o n d f a b w law mn md wn wd h =
      let r = truths_at k o f w (λ p q. (((p == q) || is k.nodes n q) && (u == p)) || (is k.nodes d q && is k.nodes d u)) t lt h in
      or_cases (((r.x == r.y) || is k.nodes n r.y) && (u == r.x)) (is k.nodes d r.y && is k.nodes d u) r.holds
      (λ g.
      let p = and_parts ((r.x == r.y) || is k.nodes n r.y) (u == r.x) g in
      let same : f r.a r.b ≡ r.a = or_cases (r.x == r.y) (is k.nodes n r.y) p.0
      (λ e.
      let q : VBool r.b ≡ VBool r.a = sym r.right ∙ ap k.v (sym (eqb-true r.x r.y e)) ∙ r.left in
      ap (f r.a) (ap is_true q) ∙ law.same r.a)
      (λ e.
      let q : VBool r.b ≡ VBool a = sym r.right ∙ truth_at k n a mn wn r.y r.second e in
      ap (f r.a) (ap is_true q) ∙ law.neutral r.a) in
      ap k.v (eqb-true u r.x p.1) ∙ r.left ∙ ap VBool (sym same) ∙ sym r.value)
      (λ g.
      let p = and_parts (is k.nodes d r.y) (is k.nodes d u) g in
      let q : VBool r.b ≡ VBool b = sym r.right ∙ truth_at k d b md wd r.y r.second p.0 in
      truth_at k d b md wd u lu p.1 ∙ ap VBool (sym (ap (f r.a) (ap is_true q) ∙ law.deciding r.a)) ∙ sym r.value)

  -- ---- choices

  pub chosen : (is k.nodes plain.Ite t && ((is k.nodes plain.True (arg k.nodes 0 t) && (u == arg k.nodes 1 t)) || ((is k.nodes plain.False (arg k.nodes 0 t) && (u == arg k.nodes 2 t)) || ((arg k.nodes 1 t == arg k.nodes 2 t) && (u == arg k.nodes 1 t))))) ≡ true → k.v u ≡ k.v t
  chosen h =
      let c = arg k.nodes 0 t in
      let x = arg k.nodes 1 t in
      let y = arg k.nodes 2 t in
      let first = is k.nodes plain.True c && (u == x) in
      let second = is k.nodes plain.False c && (u == y) in
      let third = (x == y) && (u == x) in
      let p = and_parts (is k.nodes plain.Ite t) (first || (second || third)) h in
      let op = op_is k plain.Ite t p.0 in
      let q = three_at k (Exactly sort.Bool) (λ _. Any) (λ _ s. Exactly s) (λ _ s _. Ok s) (Plain plain.Ite) t refl lt op in
      let vt : k.v t ≡ (if is_true (k.v c) then k.v x else k.v y) = value_by k (Plain plain.Ite) t (c ∷ x ∷ y ∷ []) lt op refl q.args in
      or_cases first (second || third) p.1
      (λ g.
      let r = and_parts (is k.nodes plain.True c) (u == x) g in
      ap k.v (eqb-true u x r.1) ∙ sym (vt ∙ ap (λ b. if is_true b then k.v x else k.v y) (truth_at k plain.True true refl refl c q.first r.0)))
      (λ g. or_cases second third g
      (λ g.
      let r = and_parts (is k.nodes plain.False c) (u == y) g in
      ap k.v (eqb-true u y r.1) ∙ sym (vt ∙ ap (λ b. if is_true b then k.v x else k.v y) (truth_at k plain.False false refl refl c q.first r.0)))
      (λ g.
      let r = and_parts (x == y) (u == x) g in
      ap k.v (eqb-true u x r.1) ∙ sym (vt ∙ ap (λ z. if is_true (k.v c) then k.v x else k.v z) (sym (eqb-true x y r.0)) ∙ either (is_true (k.v c)) (k.v x))))
    where
      either : (b : Bool) (w : Value) → (if b then w else w) ≡ w
      either true w = refl
      either false w = refl

  -- ---- arrays

  unequal_ops : (o r : Op) → are_unequal o r ≡ true → (n : ℕ) × (m : ℕ) × (x : ℕ) × (y : ℕ) × (o ≡ Word n x) × (r ≡ Word m y) × (y ≡ x → ⊥)
  unequal_ops (Word n x) (Word m y) e = (n, m, x, y, refl, refl, λ q. apart (eq-eqb x y (sym q)) e)
    where
      apart : {b : Bool} → b ≡ true → not b ≡ true → ⊥
      apart p q = let z : true ≡ false = cc in let f : ⊥ = cc in f
  unequal_ops (Word n x) _ e = let q : ⊥ = cc in absurd q
  unequal_ops _ r e = let q : ⊥ = cc in absurd q

  array_is : (s : Sort) → is_array s ≡ true → (n : ℕ) × (m : ℕ) × (s ≡ sort.Array n m)
  array_is sort.Bool e = never e
  array_is (sort.Word n) e = never e
  array_is (sort.Array n m) e = (n, m, refl)

  pub read_stored : (is k.nodes plain.Select t && (is k.nodes plain.Store (arg k.nodes 0 t) && reads k.nodes (arg k.nodes 0 t) (arg k.nodes 1 t) u)) ≡ true → k.v u ≡ k.v t
  read_stored h =
      let s = arg k.nodes 0 t in
      let j = arg k.nodes 1 t in
      let a = arg k.nodes 0 s in
      let i = arg k.nodes 1 s in
      let x = arg k.nodes 2 s in
      let p = and_parts (is k.nodes plain.Select t) (is k.nodes plain.Store s && reads k.nodes s j u) h in
      let q = and_parts (is k.nodes plain.Store s) (reads k.nodes s j u) p.1 in
      let op = op_is k plain.Select t p.0 in
      let outer = two_at k AnyArray (λ r. Exactly (index_sort r)) (λ r _. Ok (element_sort r)) (Plain plain.Select) t refl lt op in
      let ls = outer.first in
      let store_op = op_is k plain.Store s q.0 in
      let store = three_at k AnyArray (λ r. Exactly (index_sort r)) (λ r _. Exactly (element_sort r)) (λ r _ _. Ok r) (Plain plain.Store) s refl ls store_op in
      let r = array_is (sort_of k.nodes a) store.left in
      let va : HasSort (sort.Array r.0 r.1) (k.v a) = subst (λ w. HasSort w (k.v a)) r.2 (k.evaluation.sorted a store.first) in
      let sx : sort_of k.nodes x ≡ sort.Word r.1 = sym (sort_same (element_sort (sort_of k.nodes a)) (sort_of k.nodes x) store.right) ∙ ap element_sort r.2 in
      let vx : HasSort (sort.Word r.1) (k.v x) = subst (λ w. HasSort w (k.v x)) sx (k.evaluation.sorted x store.third) in
      let vs : k.v s ≡ VArray r.0 r.1 (with_entry va.0 (number_of (k.v i)) vx.0) =
      value_by k (Plain plain.Store) s (a ∷ i ∷ x ∷ []) ls store_op refl store.args
      ∙ (λ z. store_of (va.1 z) (k.v i) (vx.1 z)) in
      let vt : k.v t ≡ VWord r.1 (held_at (with_entry va.0 (number_of (k.v i)) vx.0) (number_of (k.v j))) =
      value_by k (Plain plain.Select) t (s ∷ j ∷ []) lt op refl outer.args ∙ (λ z. select_of (vs z) (k.v j)) in
      or_cases ((i == j) && (u == x)) (unequal k.nodes i j && of_terms k.nodes plain.Select a j u) q.1
      (λ g.
      let d = and_parts (i == j) (u == x) g in
      ap k.v (eqb-true u x d.1)
      ∙ vx.1
      ∙ ap (VWord r.1) (sym (stored_same va.0 (number_of (k.v i)) vx.0 (number_of (k.v j)) (ap (λ z. number_of (k.v z)) (sym (eqb-true i j d.0)))))
      ∙ sym vt)
      (λ g.
      let d = and_parts (unequal k.nodes i j) (of_terms k.nodes plain.Select a j u) g in
      let c = and_parts (is k.nodes plain.Select u) ((arg k.nodes 0 u == a) && (arg k.nodes 1 u == j)) d.1 in
      let b = and_parts (arg k.nodes 0 u == a) (arg k.nodes 1 u == j) c.1 in
      let w = unequal_ops (op_at k.nodes i) (op_at k.nodes j) d.0 in
      let ni : number_of (k.v i) ≡ w.2 = ap number_of (value_by k (Word w.0 w.2) i (node_at k.nodes i).args store.second w.4 refl refl) in
      let nj : number_of (k.v j) ≡ w.3 = ap number_of (value_by k (Word w.1 w.3) j (node_at k.nodes j).args outer.second w.5 refl refl) in
      let ne : number_of (k.v j) ≡ number_of (k.v i) → ⊥ = λ z. w.6 (sym nj ∙ z ∙ ni) in
      let uop = op_is k plain.Select u c.0 in
      let taken = two_at k AnyArray (λ r. Exactly (index_sort r)) (λ r _. Ok (element_sort r)) (Plain plain.Select) u refl lu uop in
      value_by k (Plain plain.Select) u (arg k.nodes 0 u ∷ arg k.nodes 1 u ∷ []) lu uop refl taken.args
      ∙ (λ z. select_of (k.v (eqb-true (arg k.nodes 0 u) a b.0 z)) (k.v (eqb-true (arg k.nodes 1 u) j b.1 z)))
      ∙ ap (λ z. select_of z (k.v j)) va.1
      ∙ ap (VWord r.1) (sym (stored_other va.0 (number_of (k.v i)) vx.0 (number_of (k.v j)) ne))
      ∙ sym vt)
