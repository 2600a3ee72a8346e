-- The rules on all arguments of a term keep each evaluation.
use Rattle.std.proofs.Common.{◌≡◌, ℕ, zero, suc, ◌<◌, Bool, true, false, List, [], ◌∷◌, length, map, refl, sym, ap, ◌∙◌, subst, arith, inl, inr, ⊎_elim, Option, Some, None, Ok}
use Rattle.std.specs.Prelude.{◌==◌, ◌⊎◌, ◌&&◌, ◌||◌, not}
use Rattle.std.specs.List.{AllByRecursion, list_all}
use Rattle.std.specs.Cmp.Lexicographic.{pointwise}
use Rattle.std.proofs.lemmas.Bool.{eqb-true, and_parts}
use Rattle.smt_words.specs.Words.{and_of, or_of, xor_of, add_of, mul_of}
use Rattle.smt_terms.specs.declared.sort.Sort.{Sort}
use Rattle.smt_terms.specs.declared.sort.Sort.TheVariants as sort
use Rattle.smt_terms.specs.declared.operator.Operator.{Operator}
use Rattle.smt_terms.specs.declared.operator.Operator.TheVariants as plain
use Rattle.smt_terms.specs.declared.node.Op.{Op}
use Rattle.smt_terms.specs.declared.node.Op.TheVariants.{Plain, Word, Extract, ZeroExtend, SignExtend, RotateLeft, RotateRight, Repeat}
use Rattle.smt_terms.specs.declared.node.Node.{Node}
use Rattle.smt_terms.specs.declared.rank.Demand.TheVariants.{AnyWord, AnyArray, Exactly}
use Rattle.smt_terms.specs.Operators.{same_operator, operator_same}
use Rattle.smt_terms.specs.Same.{same_op, op_same, sort_same}
use Rattle.smt_terms.specs.Nodes.{node_at}
use Rattle.smt_terms.specs.Ranks.{is_array, is_plain, index_sort, width_of, truth}
use Rattle.smt_terms.specs.Scalars.{is_fixed}
use Rattle.smt_terms.specs.Terms.{sort_of}
use Rattle.smt_terms.specs.Values.{Value, VBool, VWord, VArray, HasSort, same_value, Interpretation, applied, meaning_of, op_value}
use Rattle.smt_terms.specs.Evaluations.{is_witness}
use Rattle.bv_rules.specs.Reading.{op_at, arg, commutes}
use Rattle.bv_rules.specs.Arguments.{is_literal, any_interpretation, at_some, reaches, commutes_in, literal_at, has_literals, folded_value, folds, leads, has_reached}
use Rattle.bv_rules.specs.Matches.{KeepValues}
use Rattle.bv_rules.proofs.Known.{Context, or_cases, never, word_is, word_at, value_by, two_at, OnWords}
use Rattle.bv_rules.proofs.WordRules.{and_words, or_words, xor_words, add_words, mul_words}
use Rattle.bv_rules.proofs.OtherRules.{bool_at, OnTruths, and_truths, or_truths}

-- ---- literals

-- the value of a literal, in every interpretation and for every arguments
pub record IsScalar (o : Op) : Type 0 where
  pub value : Value
  pub plain : (M : Interpretation) (vs : List Value) → op_value M o vs ≡ value
  pub scalar : ((b : Bool) × (value ≡ VBool b)) ⊎ ((n : ℕ) × (x : ℕ) × (value ≡ VWord n x))

literal_plain : (o : Operator) → (same_operator o plain.True || same_operator o plain.False) ≡ true → IsScalar (Plain o)
literal_plain o h =
    or_cases (same_operator o plain.True) (same_operator o plain.False) h
    (λ e. subst (λ p. IsScalar (Plain p)) (sym (operator_same o plain.True e)) (record { value = VBool true; plain = λ M vs. refl; scalar = inl (true, refl) }))
    (λ e. subst (λ p. IsScalar (Plain p)) (sym (operator_same o plain.False e)) (record { value = VBool false; plain = λ M vs. refl; scalar = inl (false, refl) }))

pub literal_op : (o : Op) → is_literal o ≡ true → IsScalar o
literal_op (Plain o) h = literal_plain o h
literal_op (Word n x) h = record { value = VWord n x; plain = λ M vs. refl; scalar = inr (n, x, refl) }
literal_op _ h = let q : ⊥ = cc in absurd q

-- an operator of the theories means the same in every interpretation
fixed_meaning : (M N : Interpretation) (o : Op) → is_fixed o ≡ true → meaning_of M o ≡ meaning_of N o
fixed_meaning M N (Plain o) h = refl
fixed_meaning M N (Word n x) h = refl
fixed_meaning M N (Extract i j) h = refl
fixed_meaning M N (ZeroExtend i) h = refl
fixed_meaning M N (SignExtend i) h = refl
fixed_meaning M N (RotateLeft i) h = refl
fixed_meaning M N (RotateRight i) h = refl
fixed_meaning M N (Repeat i) h = refl
fixed_meaning M N _ h = let q : ⊥ = cc in absurd q

-- values that are the same where one is no array
same_truth : (a : Bool) (v : Value) → same_value v (VBool a) ≡ true → v ≡ VBool a
same_truth true (VBool true) e = refl
same_truth true (VBool false) e = never e
same_truth false (VBool true) e = never e
same_truth false (VBool false) e = refl
same_truth a (VWord n x) e = never e
same_truth a (VArray n m x) e = never e

same_word : (n x : ℕ) (v : Value) → same_value v (VWord n x) ≡ true → v ≡ VWord n x
same_word n x (VBool b) e = never e
same_word n x (VWord m y) e = let p = and_parts (m == n) (y == x) e in (λ i. VWord (eqb-true m n p.0 i) (eqb-true y x p.1 i))
same_word n x (VArray k m y) e = never e

pub same_scalar : (o : Op) (s : IsScalar o) (v : Value) → same_value v s.value ≡ true → v ≡ s.value
same_scalar o s v e =
    ⊎_elim
    (λ p. same_truth p.0 v (subst (λ w. same_value v w ≡ true) p.1 e) ∙ sym p.1)
    (λ p. same_word p.0 p.1 v (subst (λ w. same_value v w ≡ true) p.2 e) ∙ sym p.2)
    s.scalar

array_no_scalar : (k : Context) (a : ℕ) (o : Op) → a < length k.nodes → is_array (sort_of k.nodes a) ≡ true → op_at k.nodes a ≡ o → is_witness o ≡ false → IsScalar o → ⊥
array_no_scalar k a o lt h e w s = go (sort_of k.nodes a) h (k.evaluation.sorted a lt) where
  value : k.v a ≡ s.value
  value = value_by k o a (node_at k.nodes a).args lt e w refl ∙ s.plain k.M (map k.v (node_at k.nodes a).args)

  go : (q : Sort) → is_array q ≡ true → HasSort q (k.v a) → ⊥
  go sort.Bool g v = never g
  go (sort.Word n) g v = never g
  go (sort.Array n m) g v =
      let e : VArray n m v.0 ≡ s.value = sym v.1 ∙ value in
      ⊎_elim
      (λ p. let q : VArray n m v.0 ≡ VBool p.0 = e ∙ p.1 in let f : ⊥ = cc in f)
      (λ p. let q : VArray n m v.0 ≡ VWord p.0 p.1 = e ∙ p.2 in let f : ⊥ = cc in f)
      s.scalar

literal_no_witness : (o : Op) → is_literal o ≡ true → is_witness o ≡ false
literal_no_witness (Plain o) h =
    or_cases (same_operator o plain.True) (same_operator o plain.False) h
    (λ e. ap (λ p. is_witness (Plain p)) (operator_same o plain.True e))
    (λ e. ap (λ p. is_witness (Plain p)) (operator_same o plain.False e))
literal_no_witness (Word n x) h = refl
literal_no_witness _ h = let q : ⊥ = cc in absurd q

module _ (k : Context) where
  pub literal_v : (a : ℕ) → a < length k.nodes → is_literal (op_at k.nodes a) ≡ true → k.v a ≡ literal_at k.nodes a
  literal_v a lt h =
      let s = literal_op (op_at k.nodes a) h in
      value_by k (op_at k.nodes a) a (node_at k.nodes a).args lt refl (literal_no_witness (op_at k.nodes a) h) refl
      ∙ s.plain k.M (map k.v (node_at k.nodes a).args)
      ∙ sym (s.plain any_interpretation [])

  pub literals_v : (n : ℕ) → n < length k.nodes → (args : List ℕ) → AllByRecursion (λ a. a < n) args → list_all (λ a. is_literal (op_at k.nodes a)) args ≡ true → map k.v args ≡ map (literal_at k.nodes) args
  literals_v n lt [] within h = refl
  literals_v n lt (a ∷ args) within h =
      let p = and_parts (is_literal (op_at k.nodes a)) (list_all (λ a. is_literal (op_at k.nodes a)) args) h in
      let here = literal_v a (omega (arith, within.0, lt)) p.0 in
      (λ i. here i ∷ literals_v n lt args within.1 p.1 i)

  -- no literal is an array, so no witness is folded
  pub no_witness : (t : ℕ) → t < length k.nodes → list_all (λ a. is_literal (op_at k.nodes a)) (node_at k.nodes t).args ≡ true → is_witness (op_at k.nodes t) ≡ false
  no_witness t lt h = go (is_witness (op_at k.nodes t)) refl where
    witness_op : (o : Op) → is_witness o ≡ true → o ≡ Plain plain.Witness
    witness_op (Plain o) e = ap Plain (operator_same o plain.Witness e)
    witness_op _ e = let q : ⊥ = cc in absurd q

    go : (b : Bool) → is_witness (op_at k.nodes t) ≡ b → is_witness (op_at k.nodes t) ≡ false
    go false e = e
    go true e =
        let op = witness_op (op_at k.nodes t) e in
        let q = two_at k AnyArray (λ r. Exactly r) (λ r _. Ok (index_sort r)) (Plain plain.Witness) t refl lt op in
        let all : list_all (λ a. is_literal (op_at k.nodes a)) (arg k.nodes 0 t ∷ arg k.nodes 1 t ∷ []) ≡ true = subst (λ l. list_all (λ a. is_literal (op_at k.nodes a)) l ≡ true) q.args h in
        let first = and_parts (is_literal (op_at k.nodes (arg k.nodes 0 t))) (list_all (λ a. is_literal (op_at k.nodes a)) (arg k.nodes 1 t ∷ [])) all in
        let a = arg k.nodes 0 t in
        absurd (array_no_scalar k a (op_at k.nodes a) q.first q.left refl (literal_no_witness (op_at k.nodes a) first.0) (literal_op (op_at k.nodes a) first.0))

  pub folded : (t u : ℕ) → t < length k.nodes → u < length k.nodes → folds k.nodes t u ≡ true → k.v u ≡ k.v t
  folded t u lt lu h =
      let args = (node_at k.nodes t).args in
      let lit : ℕ → Bool = λ a. is_literal (op_at k.nodes a) in
      let same = same_value (folded_value k.nodes t) (literal_at k.nodes u) in
      let h' = and_parts (has_literals k.nodes t) (lit u && same) h in
      let a = and_parts (is_fixed (op_at k.nodes t)) (not (length args == 0) && list_all lit args) h'.0 in
      let c = and_parts (not (length args == 0)) (list_all lit args) a.1 in
      let d = and_parts (lit u) same h'.1 in
      let s = literal_op (op_at k.nodes u) d.0 in
      let lu_is : literal_at k.nodes u ≡ s.value = s.plain any_interpretation [] in
      let value = same_scalar (op_at k.nodes u) s (op_value any_interpretation (op_at k.nodes t) (map (literal_at k.nodes) args)) (subst (λ w. same_value (op_value any_interpretation (op_at k.nodes t) (map (literal_at k.nodes) args)) w ≡ true) lu_is d.1) in
      literal_v u lu d.0
      ∙ lu_is
      ∙ sym value
      ∙ ap (λ m. applied m (map (literal_at k.nodes) args)) (fixed_meaning any_interpretation k.M (op_at k.nodes t) a.0)
      ∙ ap (op_value k.M (op_at k.nodes t)) (sym (literals_v t lt args (k.terms t lt).earlier c.1))
      ∙ sym (k.evaluation.means t lt (no_witness t lt c.1))

-- ---- images

-- operators that commute
record Turns (k : Context) (t : ℕ) : Type 0 where
  args : (node_at k.nodes t).args ≡ arg k.nodes 0 t ∷ arg k.nodes 1 t ∷ []
  value : op_value k.M (op_at k.nodes t) (k.v (arg k.nodes 0 t) ∷ k.v (arg k.nodes 1 t) ∷ []) ≡ op_value k.M (op_at k.nodes t) (k.v (arg k.nodes 1 t) ∷ k.v (arg k.nodes 0 t) ∷ [])

module _ (k : Context) (t : ℕ) (lt : t < length k.nodes) where
  words_turn : (o : Operator) (f : ℕ → ℕ → ℕ → ℕ) → OnWords o (λ n x y. VWord n (f n x y)) Ok → commutes o ≡ true → op_at k.nodes t ≡ Plain o → Turns k t
  words_turn o f w c e =
      let a = arg k.nodes 0 t in
      let b = arg k.nodes 1 t in
      let q = two_at k AnyWord (λ r. Exactly r) (λ r _. Ok r) (Plain o) t w.rank lt e in
      let n = width_of (sort_of k.nodes a) in
      let sa : sort_of k.nodes a ≡ sort.Word n = word_is (sort_of k.nodes a) q.left in
      let x = word_at k a n q.first sa in
      let y = word_at k b n q.second (sym (sort_same (sort_of k.nodes a) (sort_of k.nodes b) q.right) ∙ sa) in
      let g : Value → Value → Value = λ p r. applied (meaning_of k.M (Plain o)) (p ∷ r ∷ []) in
      let turn : g (VWord n x.number) (VWord n y.number) ≡ g (VWord n y.number) (VWord n x.number) =
      ap (λ m. applied m (VWord n x.number ∷ VWord n y.number ∷ [])) w.meaning
      ∙ w.turns c n x.number y.number
      ∙ ap (λ m. applied m (VWord n y.number ∷ VWord n x.number ∷ [])) (sym w.meaning) in
      record {
        args = q.args;
        value = ap (λ p. op_value k.M p (k.v a ∷ k.v b ∷ [])) e ∙ (λ i. g (x.is i) (y.is i)) ∙ turn ∙ (λ i. g (sym y.is i) (sym x.is i)) ∙ ap (λ p. op_value k.M p (k.v b ∷ k.v a ∷ [])) (sym e);
      }

  truths_turn : (o : Operator) (f : Bool → Bool → Bool) → OnTruths o f → op_at k.nodes t ≡ Plain o → Turns k t
  truths_turn o f w e =
      let a = arg k.nodes 0 t in
      let b = arg k.nodes 1 t in
      let q = two_at k (Exactly sort.Bool) (λ _. Exactly sort.Bool) (λ _ _. truth) (Plain o) t w.rank lt e in
      let x = bool_at k a q.first q.left in
      let y = bool_at k b q.second q.right in
      let g : Value → Value → Value = λ p r. applied (meaning_of k.M (Plain o)) (p ∷ r ∷ []) in
      let turn : g (VBool x.0) (VBool y.0) ≡ g (VBool y.0) (VBool x.0) =
      ap (λ m. applied m (VBool x.0 ∷ VBool y.0 ∷ [])) w.meaning
      ∙ ap VBool (w.turns x.0 y.0)
      ∙ ap (λ m. applied m (VBool y.0 ∷ VBool x.0 ∷ [])) (sym w.meaning) in
      record {
        args = q.args;
        value = ap (λ p. op_value k.M p (k.v a ∷ k.v b ∷ [])) e ∙ (λ i. g (x.1 i) (y.1 i)) ∙ turn ∙ (λ i. g (sym y.1 i) (sym x.1 i)) ∙ ap (λ p. op_value k.M p (k.v b ∷ k.v a ∷ [])) (sym e);
      }

  turns_case : (o : Operator) → commutes o ≡ true → op_at k.nodes t ≡ Plain o → Turns k t
  turns_case plain.Bvand c e = words_turn plain.Bvand and_of and_words c e
  turns_case plain.Bvor c e = words_turn plain.Bvor or_of or_words c e
  turns_case plain.Bvxor c e = words_turn plain.Bvxor xor_of xor_words c e
  turns_case plain.Bvadd c e = words_turn plain.Bvadd add_of add_words c e
  turns_case plain.Bvmul c e = words_turn plain.Bvmul mul_of mul_words c e
  turns_case plain.And c e = truths_turn plain.And (λ a b. a && b) and_truths e
  turns_case plain.Or c e = truths_turn plain.Or (λ a b. a || b) or_truths e
  turns_case _ c e = let q : ⊥ = cc in absurd q

  turns_op : (o : Op) → commutes_in o ≡ true → op_at k.nodes t ≡ o → Turns k t
  turns_op (Plain o) c e = turns_case o c e
  turns_op _ c e = let q : ⊥ = cc in absurd q

-- terms that are the same node have one value
abbrev pub AreAlike : Context → Type 0
AreAlike k = (t u : ℕ) → t < length k.nodes → u < length k.nodes → node_at k.nodes t ≡ node_at k.nodes u → k.v t ≡ k.v u

module _ (k : Context) (images : ℕ → Option ℕ) (good : KeepValues k.nodes k.v images) where
  reaches_keeps : (n a b : ℕ) → reaches images n a b ≡ true → k.v b ≡ k.v a
  reaches_keeps zero a b h = sym (ap k.v (eqb-true a b h))
  reaches_keeps (suc n) a b h =
      or_cases (a == b) (at_some (images a) (λ c. reaches images n c b)) h
      (λ e. sym (ap k.v (eqb-true a b e)))
      (λ e. step (images a) (λ c. reaches_keeps n c b) refl e)
    where
      step : (o : Option ℕ) → ((c : ℕ) → reaches images n c b ≡ true → k.v b ≡ k.v c) → images a ≡ o → at_some o (λ c. reaches images n c b) ≡ true → k.v b ≡ k.v a
      step None ih p e = never e
      step (Some c) ih p e = ih c e ∙ (good a c p).1

  -- an array has no image
  reaches_array : (n a b : ℕ) → is_plain (sort_of k.nodes a) ≡ false → reaches images n a b ≡ true → a ≡ b
  reaches_array zero a b s h = eqb-true a b h
  reaches_array (suc n) a b s h =
      or_cases (a == b) (at_some (images a) (λ c. reaches images n c b)) h
      (λ e. eqb-true a b e)
      (λ e. step (images a) refl e)
    where
      step : (o : Option ℕ) → images a ≡ o → at_some o (λ c. reaches images n c b) ≡ true → a ≡ b
      step None p e = never e
      step (Some c) p e = never (sym s ∙ (good a c p).0)

  each_keeps : (n : ℕ) (as' bs : List ℕ) → pointwise (reaches images n) as' bs ≡ true → map k.v bs ≡ map k.v as'
  each_keeps n [] [] h = refl
  each_keeps n [] (b ∷ bs) h = never h
  each_keeps n (a ∷ as') [] h = never h
  each_keeps n (a ∷ as') (b ∷ bs) h =
      let p = and_parts (reaches images n a b) (pointwise (reaches images n) as' bs) h in
      (λ i. reaches_keeps n a b p.0 i ∷ each_keeps n as' bs p.1 i)

  each_array : (n a b : ℕ) (cs : List ℕ) → is_plain (sort_of k.nodes a) ≡ false → is_plain (sort_of k.nodes b) ≡ false → pointwise (reaches images n) (a ∷ b ∷ []) cs ≡ true → cs ≡ a ∷ b ∷ []
  each_array n a b [] s r h = never h
  each_array n a b (c ∷ []) s r h =
      let p = and_parts (reaches images n a c) (pointwise (reaches images n) (b ∷ []) []) h in never p.1
  each_array n a b (c ∷ d ∷ []) s r h =
      let p = and_parts (reaches images n a c) (pointwise (reaches images n) (b ∷ []) (d ∷ [])) h in
      let q = and_parts (reaches images n b d) true p.1 in
      (λ i. sym (reaches_array n a c s p.0) i ∷ sym (reaches_array n b d r q.0) i ∷ [])
  each_array n a b (c ∷ d ∷ f ∷ cs) s r h =
      let p = and_parts (reaches images n a c) (pointwise (reaches images n) (b ∷ []) (d ∷ f ∷ cs)) h in
      let q = and_parts (reaches images n b d) (pointwise (reaches images n) [] (f ∷ cs)) p.1 in
      never q.1

  array_not_plain : (q : Sort) → is_array q ≡ true → is_plain q ≡ false
  array_not_plain sort.Bool e = never e
  array_not_plain (sort.Word n) e = never e
  array_not_plain (sort.Array n m) e = refl

  witness_is : (o : Op) → is_witness o ≡ true → o ≡ Plain plain.Witness
  witness_is (Plain o) e = ap Plain (operator_same o plain.Witness e)
  witness_is _ e = let q : ⊥ = cc in absurd q

  pub reached : AreAlike k → (t u : ℕ) → t < length k.nodes → u < length k.nodes → has_reached k.nodes images t u ≡ true → k.v u ≡ k.v t
  reached alike t u lt lu h =
      let n = length k.nodes in
      let ta = (node_at k.nodes t).args in
      let ua = (node_at k.nodes u).args in
      let each = pointwise (leads k.nodes images) ta ua in
      let crossed = leads k.nodes images (arg k.nodes 0 t) (arg k.nodes 1 u) && leads k.nodes images (arg k.nodes 1 t) (arg k.nodes 0 u) in
      let p = and_parts (same_op (op_at k.nodes t) (op_at k.nodes u)) (each || (commutes_in (op_at k.nodes t) && crossed)) h in
      let op : op_at k.nodes t ≡ op_at k.nodes u = op_same (op_at k.nodes t) (op_at k.nodes u) p.0 in
      go (is_witness (op_at k.nodes t)) refl op p.1
    where
      straight : is_witness (op_at k.nodes t) ≡ false → op_at k.nodes t ≡ op_at k.nodes u → map k.v (node_at k.nodes u).args ≡ map k.v (node_at k.nodes t).args → k.v u ≡ k.v t
      straight w op e =
          k.evaluation.means u lu (ap is_witness (sym op) ∙ w)
          ∙ (λ i. op_value k.M (sym op i) (e i))
          ∙ sym (k.evaluation.means t lt w)

      node_by : (a b : Node) → a.op ≡ b.op → a.args ≡ b.args → a ≡ b
      node_by a b x y = λ i. record { op = x i; args = y i }

      go : (b : Bool) → is_witness (op_at k.nodes t) ≡ b → op_at k.nodes t ≡ op_at k.nodes u
          → (pointwise (leads k.nodes images) (node_at k.nodes t).args (node_at k.nodes u).args || (commutes_in (op_at k.nodes t) && (leads k.nodes images (arg k.nodes 0 t) (arg k.nodes 1 u) && leads k.nodes images (arg k.nodes 1 t) (arg k.nodes 0 u)))) ≡ true
          → k.v u ≡ k.v t
      go true w op g =
          let is = witness_is (op_at k.nodes t) w in
          let q = two_at k AnyArray (λ r. Exactly r) (λ r _. Ok (index_sort r)) (Plain plain.Witness) t refl lt is in
          let a = arg k.nodes 0 t in
          let b = arg k.nodes 1 t in
          or_cases (pointwise (leads k.nodes images) (node_at k.nodes t).args (node_at k.nodes u).args) (commutes_in (op_at k.nodes t) && (leads k.nodes images (arg k.nodes 0 t) (arg k.nodes 1 u) && leads k.nodes images (arg k.nodes 1 t) (arg k.nodes 0 u))) g
          (λ e.
          let same : sort_of k.nodes a ≡ sort_of k.nodes b = sort_same (sort_of k.nodes a) (sort_of k.nodes b) q.right in
          let sa = array_not_plain (sort_of k.nodes a) q.left in
          let sb : is_plain (sort_of k.nodes b) ≡ false = ap is_plain (sym same) ∙ sa in
          let args = each_array (length k.nodes) a b (node_at k.nodes u).args sa sb (subst (λ l. pointwise (leads k.nodes images) l (node_at k.nodes u).args ≡ true) q.args e) in
          sym (alike t u lt lu (node_by (node_at k.nodes t) (node_at k.nodes u) op (q.args ∙ sym args))))
          (λ e. let c = and_parts (commutes_in (op_at k.nodes t)) (leads k.nodes images (arg k.nodes 0 t) (arg k.nodes 1 u) && leads k.nodes images (arg k.nodes 1 t) (arg k.nodes 0 u)) e in never (ap commutes_in (sym is) ∙ c.0))
      go false w op g =
          or_cases (pointwise (leads k.nodes images) (node_at k.nodes t).args (node_at k.nodes u).args) (commutes_in (op_at k.nodes t) && (leads k.nodes images (arg k.nodes 0 t) (arg k.nodes 1 u) && leads k.nodes images (arg k.nodes 1 t) (arg k.nodes 0 u))) g
          (λ e. straight w op (each_keeps (length k.nodes) (node_at k.nodes t).args (node_at k.nodes u).args e))
          (λ e.
          let c = and_parts (commutes_in (op_at k.nodes t)) (leads k.nodes images (arg k.nodes 0 t) (arg k.nodes 1 u) && leads k.nodes images (arg k.nodes 1 t) (arg k.nodes 0 u)) e in
          let d = and_parts (leads k.nodes images (arg k.nodes 0 t) (arg k.nodes 1 u)) (leads k.nodes images (arg k.nodes 1 t) (arg k.nodes 0 u)) c.1 in
          let x = turns_op k t lt (op_at k.nodes t) c.0 refl in
          let y = turns_op k u lu (op_at k.nodes u) (ap commutes_in (sym op) ∙ c.0) refl in
          let l = reaches_keeps (length k.nodes) (arg k.nodes 0 t) (arg k.nodes 1 u) d.0 in
          let r = reaches_keeps (length k.nodes) (arg k.nodes 1 t) (arg k.nodes 0 u) d.1 in
          k.evaluation.means u lu (ap is_witness (sym op) ∙ w)
          ∙ ap (λ z. op_value k.M (op_at k.nodes u) (map k.v z)) y.args
          ∙ (λ i. op_value k.M (sym op i) (r i ∷ l i ∷ []))
          ∙ sym x.value
          ∙ ap (λ z. op_value k.M (op_at k.nodes t) (map k.v z)) (sym x.args)
          ∙ sym (k.evaluation.means t lt w))
