-- A shape is that of the terms that its rule makes.
use Rattle.std.proofs.Common.{◌≡◌, ℕ, ◌+◌, ◌-◌, ◌<◌, Bool, true, false, List, [], length, refl, sym, ap, ◌∙◌, subst, ⊎_elim, Option, Some, None}
use Rattle.std.specs.Prelude.{◌==◌, ◌&&◌, ◌||◌, nat_lt, nat_le, not, if◌then◌else◌, IsSome}
use Rattle.std.specs.List.{list_all}
use Rattle.std.proofs.lemmas.Bool.{and_parts, lt-ltb, eq-eqb}
use Rattle.smt_terms.specs.declared.sort.Sort.{Sort}
use Rattle.smt_terms.specs.declared.sort.Sort.TheVariants as sort
use Rattle.smt_terms.specs.declared.operator.Operator.{Operator}
use Rattle.smt_terms.specs.declared.operator.Operator.TheVariants as plain
use Rattle.smt_terms.specs.declared.node.Op.TheVariants as op
use Rattle.smt_terms.specs.declared.node.Node.{Node}
use Rattle.smt_terms.specs.Same.{same_sort, sort_itself, op_same}
use Rattle.smt_terms.specs.Nodes.{node_at}
use Rattle.smt_terms.specs.Ranks.{is_plain}
use Rattle.smt_terms.specs.Scalars.{is_fixed}
use Rattle.smt_terms.specs.Terms.{sort_of, IsTermList}
use Rattle.smt_terms.specs.Values.{Value, VBool, VWord, VArray, HasSort, width_in, same_value, value, op_value}
use Rattle.smt_terms.proofs.Evaluating.{value_is_evaluation}
use Rattle.bv_rules.specs.declared.rule.Rule.{Rule}
use Rattle.bv_rules.specs.declared.rule.Rule.TheVariants.{BvnotTwice, BvnegTwice, AndSame, AndZero, AndOnes, OrSame, OrZero, OrOnes, XorSame, XorZero, XorOnes, AddZero, AddOpposite, Subtract, AddSame, MultiplyZero, MultiplyOne, MultiplyPower, DivideOne, DivideZero, DividePower, RemainderZero, RemainderOne, RemainderPower, ShiftZero, ShiftPast, ExtractAll, ExtractExtract, ExtractConcat, Idle, Less, AtMost, Greater, EqualSame, NotTwice, Connective, Choice, SelectStore, Fold, Inner}
use Rattle.bv_rules.specs.declared.reading.Constant.{Constant}
use Rattle.bv_rules.specs.declared.reading.Constant.TheVariants as bits
use Rattle.bv_rules.specs.Reading.{commutes, is_idle, op_at, arg}
use Rattle.bv_rules.specs.Arguments.{is_literal, any_interpretation, literal_at, has_literals, folded_value}
use Rattle.bv_rules.specs.Rules.{width_at, is, on, of_term, constant, zero, power, exponent, past, unequal, extraction, high, low, takes}
use Rattle.bv_rules.specs.Matches.{matches}
use Rattle.bv_rules.proofs.Known.{Context, or_cases, never, number_op, value_by}
use Rattle.bv_rules.proofs.ArgumentRules.{literal_op, same_scalar, literals_v, no_witness}
use Rattle.bv_rules.proofs.Keeping.{matched}
use Rattle.bv_rewrite.specs.declared.shape.Shape.{Shape}
use Rattle.bv_rewrite.specs.declared.shape.Shape.TheVariants.{Term, Truth, Word, One, Two, WithNegated, Bits}
use Rattle.bv_rewrite.specs.declared.shape.Kind.{Kind}
use Rattle.bv_rewrite.specs.declared.shape.Kind.TheVariants as kind
use Rattle.bv_rewrite.specs.declared.shape.Power.{Power}
use Rattle.bv_rewrite.specs.declared.shape.Power.TheVariants as by
use Rattle.bv_rewrite.specs.Shapes.{has_shape, kind_shape, power_shape, given, or_else}
use Rattle.bv_rewrite.specs.Becoming.{value_shape, on_shape, twice_shape, beside_itself, beside_power, past_width, turned_shape, decided_shape, part_shape, read_shape, becomes}

or_first : (b c : Bool) → b ≡ true → (b || c) ≡ true
or_first b c e = ap (λ d. d || c) e

or_second : (b c : Bool) → c ≡ true → (b || c) ≡ true
or_second true c e = refl
or_second false c e = e

both : (a b : Bool) → a ≡ true → b ≡ true → (a && b) ≡ true
both a b p q = λ i. p i && q i

-- a word is of one width
one_width : (s : Sort) (n m x y : ℕ) → HasSort s (VWord n x) → HasSort s (VWord m y) → n ≡ m
one_width sort.Bool n m x y h k = let p = h.1 in let q : ⊥ = cc in absurd q
one_width (sort.Word w) n m x y h k = ap width_in h.1 ∙ sym (ap width_in k.1)
one_width (sort.Array i j) n m x y h k = let p = h.1 in let q : ⊥ = cc in absurd q

-- of u is known what G says
module _ (nodes : List Node) (G : ℕ → Type 0) where
  -- the terms of a shape are those of which a test holds
  pub record Fits (o : Option Shape) (r : ℕ → Bool) : Type 0 where
    pub sound : (s : Shape) (u : ℕ) → G u → o ≡ Some s → has_shape nodes s u ≡ true → r u ≡ true
    pub whole : (u : ℕ) → G u → r u ≡ true → o ≡ None → ⊥

  fits_some : (s : Shape) → Fits (Some s) (λ u. has_shape nodes s u)
  fits_some s = record {
    sound = λ z u g e h. let q : s ≡ z = cc in subst (λ w. has_shape nodes w u ≡ true) (sym q) h;
    whole = λ u g h e. let q : ⊥ = cc in q;
  }

  fits_given : (b : Bool) (o : Option Shape) (r : ℕ → Bool) → Fits o r → Fits (given b o) (λ u. b && r u)
  fits_given true o r f = f
  fits_given false o r f = record {
    sound = λ z u g e h. let q : ⊥ = cc in absurd q;
    whole = λ u g h e. never h;
  }

  fits_or : (a b : Option Shape) (p q : ℕ → Bool) → Fits a p → Fits b q → Fits (or_else a b) (λ u. p u || q u)
  fits_or (Some s) b p q f h = record {
    sound = λ z u g e k. or_first (p u) (q u) (f.sound z u g e k);
    whole = λ u g k e. let z : ⊥ = cc in z;
  }
  fits_or None b p q f h = record {
    sound = λ z u g e k. or_second (p u) (q u) (h.sound z u g e k);
    whole = λ u g k e. or_cases (p u) (q u) k (λ l. f.whole u g l refl) (λ l. h.whole u g l e);
  }

  fits_on : (o : Operator) (f : ℕ → ℕ → Option Shape) (p : ℕ → ℕ → ℕ → Bool) (t : ℕ) → ((x y : ℕ) → Fits (f x y) (λ u. p u x y)) → Fits (on_shape nodes o f t) (λ u. on nodes o (p u) t)
  fits_on o f p t h =
      let a = arg nodes 0 t in
      let b = arg nodes 1 t in
      fits_given (is nodes o t) (or_else (f a b) (given (commutes o) (f b a))) (λ u. p u a b || (commutes o && p u b a))
      (fits_or (f a b) (given (commutes o) (f b a)) (λ u. p u a b) (λ u. commutes o && p u b a) (h a b) (fits_given (commutes o) (f b a) (λ u. p u b a) (h b a)))

  -- a shape where a test of the arguments holds
  fits_where : (o : Operator) (b : ℕ → ℕ → Bool) (s : ℕ → ℕ → Shape) (t : ℕ) → Fits (on_shape nodes o (λ x y. given (b x y) (Some (s x y))) t) (λ u. on nodes o (λ x y. b x y && has_shape nodes (s x y) u) t)
  fits_where o b s t = fits_on o (λ x y. given (b x y) (Some (s x y))) (λ u x y. b x y && has_shape nodes (s x y) u) t (λ x y. fits_given (b x y) (Some (s x y)) (λ u. has_shape nodes (s x y) u) (fits_some (s x y)))

  fits_always : (o : Operator) (s : ℕ → ℕ → Shape) (t : ℕ) → Fits (on_shape nodes o (λ x y. Some (s x y)) t) (λ u. on nodes o (λ x y. has_shape nodes (s x y) u) t)
  fits_always o s t = fits_on o (λ x y. Some (s x y)) (λ u x y. has_shape nodes (s x y) u) t (λ x y. fits_some (s x y))

  fits_beside : (o : Operator) (z : Constant) (r : Kind) (t : ℕ) → Fits (on_shape nodes o (λ x c. given (constant nodes z c) (Some (kind_shape r x))) t) (λ u. on nodes o (λ x c. constant nodes z c && has_shape nodes (kind_shape r x) u) t)
  fits_beside o z r t = fits_where o (λ x c. constant nodes z c) (λ x c. kind_shape r x) t

  fits_same : (o : Operator) (r : Kind) (t : ℕ) → Fits (beside_itself nodes o r t) (λ u. on nodes o (λ x y. (x == y) && has_shape nodes (kind_shape r x) u) t)
  fits_same o r t = fits_where o (λ x y. x == y) (λ x y. kind_shape r x) t

  fits_power : (o : Operator) (r : Power) (t : ℕ) → Fits (beside_power nodes o r t) (λ u. on nodes o (λ x c. power nodes c && has_shape nodes (power_shape r x (exponent nodes c)) u) t)
  fits_power o r t = fits_where o (λ x c. power nodes c) (λ x c. power_shape r x (exponent nodes c)) t

  fits_past : (o : Operator) (t : ℕ) → Fits (past_width nodes o t) (λ u. on nodes o (λ x c. past nodes c && zero nodes u) t)
  fits_past o t = fits_where o (λ x c. past nodes c) (λ x c. Word 0) t

  fits_twice : (o : Operator) (t : ℕ) → Fits (twice_shape nodes o t) (λ u. is nodes o t && (is nodes o (arg nodes 0 t) && (u == arg nodes 0 (arg nodes 0 t))))
  fits_twice o t =
      let a = arg nodes 0 t in
      let x = arg nodes 0 a in
      fits_given (is nodes o t) (given (is nodes o a) (Some (Term x))) (λ u. is nodes o a && (u == x)) (fits_given (is nodes o a) (Some (Term x)) (λ u. u == x) (fits_some (Term x)))

  fits_decided : (o n d : Operator) (b : Bool) (t : ℕ) → (if b then plain.True else plain.False) ≡ d → Fits (on_shape nodes o (decided_shape nodes n d b) t) (λ u. on nodes o (λ p q. (((p == q) || is nodes n q) && (u == p)) || (is nodes d q && is nodes d u)) t)
  fits_decided o n d b t e =
      fits_on o (decided_shape nodes n d b) (λ u p q. (((p == q) || is nodes n q) && (u == p)) || (is nodes d q && is nodes d u)) t
      (λ p q. fits_or (given ((p == q) || is nodes n q) (Some (Term p))) (given (is nodes d q) (Some (Truth b))) (λ u. ((p == q) || is nodes n q) && (u == p)) (λ u. is nodes d q && is nodes d u)
      (fits_given ((p == q) || is nodes n q) (Some (Term p)) (λ u. u == p) (fits_some (Term p)))
      (fits_given (is nodes d q) (Some (Truth b)) (λ u. is nodes d u) (subst (λ w. Fits (Some (Truth b)) (λ u. is nodes w u)) e (fits_some (Truth b)))))

  fits_part : (i j m a : ℕ) → Fits (part_shape nodes i j m a) (λ u. (nat_lt i m && has_shape nodes (Bits i j (arg nodes 1 a)) u) || (nat_le m j && has_shape nodes (Bits (i - m) (j - m) (arg nodes 0 a)) u))
  fits_part i j m a =
      let low = Bits i j (arg nodes 1 a) in
      let high = Bits (i - m) (j - m) (arg nodes 0 a) in
      fits_or (given (nat_lt i m) (Some low)) (given (nat_le m j) (Some high)) (λ u. nat_lt i m && has_shape nodes low u) (λ u. nat_le m j && has_shape nodes high u)
      (fits_given (nat_lt i m) (Some low) (λ u. has_shape nodes low u) (fits_some low))
      (fits_given (nat_le m j) (Some high) (λ u. has_shape nodes high u) (fits_some high))

  fits_read : (s j : ℕ) → Fits (read_shape nodes s j) (λ u. ((arg nodes 1 s == j) && (u == arg nodes 2 s)) || (unequal nodes (arg nodes 1 s) j && has_shape nodes (Two plain.Select (arg nodes 0 s) j) u))
  fits_read s j =
      let below = Two plain.Select (arg nodes 0 s) j in
      let item = Term (arg nodes 2 s) in
      fits_or (given (arg nodes 1 s == j) (Some item)) (given (unequal nodes (arg nodes 1 s) j) (Some below)) (λ u. (arg nodes 1 s == j) && (u == arg nodes 2 s)) (λ u. unequal nodes (arg nodes 1 s) j && has_shape nodes below u)
      (fits_given (arg nodes 1 s == j) (Some item) (λ u. u == arg nodes 2 s) (fits_some item))
      (fits_given (unequal nodes (arg nodes 1 s) j) (Some below) (λ u. has_shape nodes below u) (fits_some below))

  fits_choice : (t : ℕ) → Fits (becomes nodes Choice t) (λ u. is nodes plain.Ite t && ((is nodes plain.True (arg nodes 0 t) && (u == arg nodes 1 t)) || ((is nodes plain.False (arg nodes 0 t) && (u == arg nodes 2 t)) || ((arg nodes 1 t == arg nodes 2 t) && (u == arg nodes 1 t)))))
  fits_choice t =
      let c = arg nodes 0 t in
      let x = arg nodes 1 t in
      let y = arg nodes 2 t in
      let yes = given (is nodes plain.True c) (Some (Term x)) in
      let no = given (is nodes plain.False c) (Some (Term y)) in
      let same = given (x == y) (Some (Term x)) in
      fits_given (is nodes plain.Ite t) (or_else yes (or_else no same)) (λ u. (is nodes plain.True c && (u == x)) || ((is nodes plain.False c && (u == y)) || ((x == y) && (u == x))))
      (fits_or yes (or_else no same) (λ u. is nodes plain.True c && (u == x)) (λ u. (is nodes plain.False c && (u == y)) || ((x == y) && (u == x)))
      (fits_given (is nodes plain.True c) (Some (Term x)) (λ u. u == x) (fits_some (Term x)))
      (fits_or no same (λ u. is nodes plain.False c && (u == y)) (λ u. (x == y) && (u == x))
      (fits_given (is nodes plain.False c) (Some (Term y)) (λ u. u == y) (fits_some (Term y)))
      (fits_given (x == y) (Some (Term x)) (λ u. u == x) (fits_some (Term x)))))

-- ---- literals

module _ (nodes : List Node) (terms : IsTermList nodes) (t : ℕ) (lt : t < length nodes) where
  abbrev Like : ℕ → Type 0
  Like u = (u < length nodes) × (sort_of nodes u ≡ sort_of nodes t)

  k : Context
  k = record { M = any_interpretation; nodes = nodes; v = value any_interpretation nodes; terms = terms; evaluation = value_is_evaluation any_interpretation nodes terms }

  pub folded_sort : has_literals nodes t ≡ true → HasSort (sort_of nodes t) (folded_value nodes t)
  unfolding k
  folded_sort h =
      let args = (node_at nodes t).args in
      let all = list_all (λ a. is_literal (op_at nodes a)) args in
      let p = and_parts (is_fixed (op_at nodes t)) (not (length args == 0) && all) h in
      let q = and_parts (not (length args == 0)) all p.1 in
      let e : value any_interpretation nodes t ≡ folded_value nodes t =
      k.evaluation.means t lt (no_witness k t lt q.1)
      ∙ ap (op_value any_interpretation (op_at nodes t)) (literals_v k t lt args (terms t lt).earlier q.1) in
      subst (HasSort (sort_of nodes t)) e (k.evaluation.sorted t lt)

  literal_here : (f : Value) → HasSort (sort_of nodes t) f → (s : Shape) (u : ℕ) → Like u → value_shape f ≡ Some s → has_shape nodes s u ≡ true → (is_literal (op_at nodes u) && same_value f (literal_at nodes u)) ≡ true
  unfolding k
  literal_here (VBool true) hs s u g e h =
      let q : Truth true ≡ s = cc in
      let o : op_at nodes u ≡ op.Plain plain.True = op_same (op_at nodes u) (op.Plain plain.True) (subst (λ w. has_shape nodes w u ≡ true) (sym q) h) in
      (λ i. is_literal (o i) && same_value (VBool true) (op_value any_interpretation (o i) []))
  literal_here (VBool false) hs s u g e h =
      let q : Truth false ≡ s = cc in
      let o : op_at nodes u ≡ op.Plain plain.False = op_same (op_at nodes u) (op.Plain plain.False) (subst (λ w. has_shape nodes w u ≡ true) (sym q) h) in
      (λ i. is_literal (o i) && same_value (VBool false) (op_value any_interpretation (o i) []))
  literal_here (VWord n x) hs s u g e h =
      let q : Word x ≡ s = cc in
      let w = number_op x (op_at nodes u) (subst (λ z. has_shape nodes z u ≡ true) (sym q) h) in
      let m = w.0 in
      let vu : k.v u ≡ VWord m x = value_by k (op.Word m x) u (node_at nodes u).args g.0 w.1 refl refl in
      let su : HasSort (sort_of nodes t) (VWord m x) = subst (HasSort (sort_of nodes t)) vu (subst (λ z. HasSort z (k.v u)) g.1 (k.evaluation.sorted u g.0)) in
      let same : n ≡ m = one_width (sort_of nodes t) n m x x hs su in
      (λ i. is_literal (w.1 i) && same_value (VWord n x) (op_value any_interpretation (w.1 i) []))
      ∙ (λ i. eq-eqb n m same i && eq-eqb x x refl i)
  literal_here (VArray n m a) hs s u g e h = let q : ⊥ = cc in absurd q

  has_value : (f : Value) (u : ℕ) → (is_literal (op_at nodes u) && same_value f (literal_at nodes u)) ≡ true → value_shape f ≡ None → ⊥
  has_value f u h e =
      let p = and_parts (is_literal (op_at nodes u)) (same_value f (literal_at nodes u)) h in
      let s = literal_op (op_at nodes u) p.0 in
      let is : f ≡ s.value = same_scalar (op_at nodes u) s f (subst (λ w. same_value f w ≡ true) (s.plain any_interpretation []) p.1) in
      ⊎_elim
      (λ b. let q : Some (Truth b.0) ≡ None = sym (ap value_shape (is ∙ b.1)) ∙ e in let z : ⊥ = cc in z)
      (λ w. let q : Some (Word w.1) ≡ None = sym (ap value_shape (is ∙ w.2)) ∙ e in let z : ⊥ = cc in z)
      s.scalar

  fits_fold : Fits nodes Like (given (has_literals nodes t) (value_shape (folded_value nodes t))) (λ u. has_literals nodes t && (is_literal (op_at nodes u) && same_value (folded_value nodes t) (literal_at nodes u)))
  fits_fold = go (has_literals nodes t) refl where
    go : (b : Bool) → has_literals nodes t ≡ b → Fits nodes Like (given b (value_shape (folded_value nodes t))) (λ u. b && (is_literal (op_at nodes u) && same_value (folded_value nodes t) (literal_at nodes u)))
    go true p = record {
      sound = λ s u g e h. literal_here (folded_value nodes t) (folded_sort p) s u g e h;
      whole = λ u g h e. has_value (folded_value nodes t) u h e;
    }
    go false p = record {
      sound = λ s u g e h. let q : ⊥ = cc in absurd q;
      whole = λ u g h e. never h;
    }

  -- ---- the table

  pub fits : (images : ℕ → Option ℕ) (rule : Rule) → (rule ≡ Inner → ⊥) → Fits nodes Like (becomes nodes rule t) (λ u. takes nodes images rule t u)
  fits images BvnotTwice n = fits_twice nodes Like plain.Bvnot t
  fits images BvnegTwice n = fits_twice nodes Like plain.Bvneg t
  fits images AndSame n = fits_same nodes Like plain.Bvand kind.Same t
  fits images AndZero n = fits_beside nodes Like plain.Bvand bits.Zero kind.Zero t
  fits images AndOnes n = fits_beside nodes Like plain.Bvand bits.Ones kind.Same t
  fits images OrSame n = fits_same nodes Like plain.Bvor kind.Same t
  fits images OrZero n = fits_beside nodes Like plain.Bvor bits.Zero kind.Same t
  fits images OrOnes n = fits_beside nodes Like plain.Bvor bits.Ones kind.Ones t
  fits images XorSame n = fits_same nodes Like plain.Bvxor kind.Zero t
  fits images XorZero n = fits_beside nodes Like plain.Bvxor bits.Zero kind.Same t
  fits images XorOnes n = fits_where nodes Like plain.Bvxor (λ x c. constant nodes bits.Ones c) (λ x c. One plain.Bvnot x) t
  fits images AddZero n = fits_beside nodes Like plain.Bvadd bits.Zero kind.Same t
  fits images AddOpposite n = fits_where nodes Like plain.Bvadd (λ x y. of_term nodes plain.Bvneg x y) (λ x y. Word 0) t
  fits images Subtract n = fits_always nodes Like plain.Bvsub (λ x y. WithNegated x y) t
  fits images AddSame n = fits_same nodes Like plain.Bvadd kind.Doubled t
  fits images MultiplyZero n = fits_beside nodes Like plain.Bvmul bits.Zero kind.Zero t
  fits images MultiplyOne n = fits_beside nodes Like plain.Bvmul bits.One kind.Same t
  fits images MultiplyPower n = fits_power nodes Like plain.Bvmul by.ShiftedLeft t
  fits images DivideOne n = fits_beside nodes Like plain.Bvudiv bits.One kind.Same t
  fits images DivideZero n = fits_beside nodes Like plain.Bvudiv bits.Zero kind.Ones t
  fits images DividePower n = fits_power nodes Like plain.Bvudiv by.ShiftedRight t
  fits images RemainderZero n = fits_beside nodes Like plain.Bvurem bits.Zero kind.Same t
  fits images RemainderOne n = fits_beside nodes Like plain.Bvurem bits.One kind.Zero t
  fits images RemainderPower n = fits_power nodes Like plain.Bvurem by.Masked t
  fits images ShiftZero n =
      let same : Operator → ℕ → Bool = λ o u. on nodes o (λ x c. zero nodes c && (u == x)) t in
      let shape : Operator → Option Shape = λ o. on_shape nodes o (λ x c. given (zero nodes c) (Some (kind_shape kind.Same x))) t in
      fits_or nodes Like (shape plain.Bvshl) (or_else (shape plain.Bvlshr) (shape plain.Bvashr)) (same plain.Bvshl) (λ u. same plain.Bvlshr u || same plain.Bvashr u)
      (fits_beside nodes Like plain.Bvshl bits.Zero kind.Same t)
      (fits_or nodes Like (shape plain.Bvlshr) (shape plain.Bvashr) (same plain.Bvlshr) (same plain.Bvashr)
      (fits_beside nodes Like plain.Bvlshr bits.Zero kind.Same t)
      (fits_beside nodes Like plain.Bvashr bits.Zero kind.Same t))
  fits images ShiftPast n =
      let nothing : Operator → ℕ → Bool = λ o u. on nodes o (λ x c. past nodes c && zero nodes u) t in
      fits_or nodes Like (past_width nodes plain.Bvshl t) (past_width nodes plain.Bvlshr t) (nothing plain.Bvshl) (nothing plain.Bvlshr) (fits_past nodes Like plain.Bvshl t) (fits_past nodes Like plain.Bvlshr t)
  fits images ExtractAll n =
      let x = arg nodes 0 t in
      let b = high nodes t + 1 == width_at nodes x in
      let c = low nodes t == 0 in
      fits_given nodes Like (extraction nodes t) (given b (given c (Some (Term x)))) (λ u. b && (c && (u == x)))
      (fits_given nodes Like b (given c (Some (Term x))) (λ u. c && (u == x)) (fits_given nodes Like c (Some (Term x)) (λ u. u == x) (fits_some nodes Like (Term x))))
  fits images ExtractExtract n =
      let a = arg nodes 0 t in
      let s = Bits (high nodes t + low nodes a) (low nodes t + low nodes a) (arg nodes 0 a) in
      fits_given nodes Like (extraction nodes t) (given (extraction nodes a) (Some s)) (λ u. extraction nodes a && has_shape nodes s u) (fits_given nodes Like (extraction nodes a) (Some s) (λ u. has_shape nodes s u) (fits_some nodes Like s))
  fits images ExtractConcat n =
      let a = arg nodes 0 t in
      let m = width_at nodes (arg nodes 1 a) in
      let part : ℕ → Bool = λ u. (nat_lt (high nodes t) m && has_shape nodes (Bits (high nodes t) (low nodes t) (arg nodes 1 a)) u) || (nat_le m (low nodes t) && has_shape nodes (Bits (high nodes t - m) (low nodes t - m) (arg nodes 0 a)) u) in
      fits_given nodes Like (extraction nodes t) (given (is nodes plain.Concat a) (part_shape nodes (high nodes t) (low nodes t) m a)) (λ u. is nodes plain.Concat a && part u)
      (fits_given nodes Like (is nodes plain.Concat a) (part_shape nodes (high nodes t) (low nodes t) m a) part (fits_part nodes Like (high nodes t) (low nodes t) m a))
  fits images Idle n = fits_given nodes Like (is_idle (width_at nodes (arg nodes 0 t)) (op_at nodes t)) (Some (Term (arg nodes 0 t))) (λ u. u == arg nodes 0 t) (fits_some nodes Like (Term (arg nodes 0 t)))
  fits images Less n = fits_where nodes Like plain.Bvult (λ x y. (x == y) || zero nodes y) (λ x y. Truth false) t
  fits images AtMost n = fits_where nodes Like plain.Bvule (λ x y. (x == y) || zero nodes x) (λ x y. Truth true) t
  fits images Greater n =
      let turned : Operator → Operator → ℕ → Bool = λ o r u. on nodes o (λ x y. has_shape nodes (Two r y x) u) t in
      let s : Operator → Operator → Option Shape = λ o r. turned_shape nodes o r t in
      let f : (o r : Operator) → Fits nodes Like (s o r) (turned o r) = λ o r. fits_always nodes Like o (λ x y. Two r y x) t in
      fits_or nodes Like (s plain.Bvugt plain.Bvult) (or_else (s plain.Bvuge plain.Bvule) (or_else (s plain.Bvsgt plain.Bvslt) (s plain.Bvsge plain.Bvsle))) (turned plain.Bvugt plain.Bvult) (λ u. turned plain.Bvuge plain.Bvule u || (turned plain.Bvsgt plain.Bvslt u || turned plain.Bvsge plain.Bvsle u))
      (f plain.Bvugt plain.Bvult)
      (fits_or nodes Like (s plain.Bvuge plain.Bvule) (or_else (s plain.Bvsgt plain.Bvslt) (s plain.Bvsge plain.Bvsle)) (turned plain.Bvuge plain.Bvule) (λ u. turned plain.Bvsgt plain.Bvslt u || turned plain.Bvsge plain.Bvsle u)
      (f plain.Bvuge plain.Bvule)
      (fits_or nodes Like (s plain.Bvsgt plain.Bvslt) (s plain.Bvsge plain.Bvsle) (turned plain.Bvsgt plain.Bvslt) (turned plain.Bvsge plain.Bvsle) (f plain.Bvsgt plain.Bvslt) (f plain.Bvsge plain.Bvsle)))
  fits images EqualSame n = fits_where nodes Like plain.Equal (λ x y. x == y) (λ x y. Truth true) t
  fits images NotTwice n = fits_twice nodes Like plain.Not t
  fits images Connective n =
      let decided : Operator → Operator → Operator → ℕ → Bool = λ o a d u. on nodes o (λ p q. (((p == q) || is nodes a q) && (u == p)) || (is nodes d q && is nodes d u)) t in
      fits_or nodes Like (on_shape nodes plain.And (decided_shape nodes plain.True plain.False false) t) (on_shape nodes plain.Or (decided_shape nodes plain.False plain.True true) t) (decided plain.And plain.True plain.False) (decided plain.Or plain.False plain.True)
      (fits_decided nodes Like plain.And plain.True plain.False false t refl)
      (fits_decided nodes Like plain.Or plain.False plain.True true t refl)
  fits images Choice n = fits_choice nodes Like t
  fits images SelectStore n =
      let s = arg nodes 0 t in
      let j = arg nodes 1 t in
      let read : ℕ → Bool = λ u. ((arg nodes 1 s == j) && (u == arg nodes 2 s)) || (unequal nodes (arg nodes 1 s) j && has_shape nodes (Two plain.Select (arg nodes 0 s) j) u) in
      fits_given nodes Like (is nodes plain.Select t) (given (is nodes plain.Store s) (read_shape nodes s j)) (λ u. is nodes plain.Store s && read u)
      (fits_given nodes Like (is nodes plain.Store s) (read_shape nodes s j) read (fits_read nodes Like s j))
  fits images Fold n = fits_fold
  fits images Inner n = absurd (n refl)

is_some : (o : Option Shape) → (o ≡ None → ⊥) → IsSome o
is_some (Some s) h = refl
is_some None h = absurd (h refl)

pub not_inner : (nodes : List Node) (t : ℕ) (rule : Rule) (s : Shape) → becomes nodes rule t ≡ Some s → rule ≡ Inner → ⊥
not_inner nodes t rule s e q = let p : None ≡ Some s = sym (ap (λ r. becomes nodes r t) q) ∙ e in let z : ⊥ = cc in z

pub made : (nodes : List Node) (images : ℕ → Option ℕ) (rule : Rule) (t u : ℕ) (s : Shape) → IsTermList nodes → t < length nodes → u < length nodes → is_plain (sort_of nodes t) ≡ true → sort_of nodes u ≡ sort_of nodes t → becomes nodes rule t ≡ Some s → has_shape nodes s u ≡ true → matches nodes images rule t u ≡ true
made nodes images rule t u s terms lt lu p same e h =
    let by = takes nodes images rule t u in
    let st = sort_of nodes t in
    let su = sort_of nodes u in
    let taken : by ≡ true = (fits nodes terms t lt images rule (not_inner nodes t rule s e)).sound s u (lu, same) e h in
    both (nat_lt t (length nodes)) (nat_lt u (length nodes) && (is_plain st && (same_sort st su && by))) (lt-ltb t (length nodes) lt)
    (both (nat_lt u (length nodes)) (is_plain st && (same_sort st su && by)) (lt-ltb u (length nodes) lu)
    (both (is_plain st) (same_sort st su && by) p
    (both (same_sort st su) by (ap (same_sort st) same ∙ sort_itself st) taken)))

pub shaped : (nodes : List Node) (images : ℕ → Option ℕ) (rule : Rule) (t u : ℕ) → IsTermList nodes → (rule ≡ Inner → ⊥) → matches nodes images rule t u ≡ true → IsSome (becomes nodes rule t)
shaped nodes images rule t u terms n h =
    let m = matched nodes images rule t u h in
    is_some (becomes nodes rule t) ((fits nodes terms t m.from images rule n).whole u (m.to, m.sort) m.takes)
