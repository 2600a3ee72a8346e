-- No rule takes a witness further, and a select at one only to what was stored there.
use Rattle.std.proofs.Common.{◌≡◌, ℕ, zero, suc, ◌+◌, ◌<◌, Bool, true, false, List, [], ◌∷◌, length, refl, sym, ap, ◌∙◌, subst, inl, inr, arith, Option, Some, None, Result, Ok}
use Rattle.std.specs.Prelude.{◌⊎◌, ◌==◌, ◌&&◌, ◌||◌, ◌^◌, nat_lt, not, Contains, slice_index_or}
use Rattle.std.specs.List.{list_all, AllByRecursion}
use Rattle.std.specs.Cmp.Lexicographic.{pointwise}
use Rattle.std.proofs.lemmas.Bool.{and_parts, eqb-true}
use Rattle.smt_terms.specs.declared.sort.Sort.{Sort}
use Rattle.smt_terms.specs.declared.sort.Sort.TheVariants as sort
use Rattle.smt_terms.specs.declared.operator.Operator.{Operator}
use Rattle.smt_terms.specs.declared.operator.Operator.TheVariants as plain
use Rattle.smt_terms.specs.declared.node.Op.{Op}
use Rattle.smt_terms.specs.declared.node.Op.TheVariants.{Plain, Word, ConstantArray}
use Rattle.smt_terms.specs.declared.node.Node.{Node}
use Rattle.smt_terms.specs.declared.fault.MakeFault.{MakeFault}
use Rattle.smt_terms.specs.declared.fault.MakeFault.TheVariants.{WrongSort}
use Rattle.smt_terms.specs.Operators.{same_operator}
use Rattle.smt_terms.specs.Same.{same_op, op_same}
use Rattle.smt_terms.specs.Scalars.{is_fixed}
use Rattle.smt_terms.specs.Nodes.{node_at}
use Rattle.smt_terms.specs.Ranks.{is_array, rank_of, word_sort}
use Rattle.smt_terms.specs.Terms.{sort_of, IsTermList, AreDifferent}
use Rattle.smt_terms.proofs.Typing.{guard_ok}
use Rattle.smt_terms.specs.Values.{same_value}
use Rattle.theory_terms.specs.declared.shape.Shape.TheVariants.{Selecting, Witnessing}
use Rattle.theory_terms.specs.Shapes.{shape_of, shape_at}
use Rattle.term_reach.specs.Reach.{arguments}
use Rattle.access_tables.proofs.Building.{args_at}
use Rattle.bv_rules.specs.declared.rule.Rule.{Rule}
use Rattle.bv_rules.specs.declared.rule.Rule.TheVariants.{BvnotTwice, BvnegTwice, AndSame, AndZero, AndOnes, OrSame, OrZero, OrOnes, XorSame, XorZero, XorOnes, AddZero, AddOpposite, Subtract, AddSame, MultiplyZero, MultiplyOne, MultiplyPower, DivideOne, DivideZero, DividePower, RemainderZero, RemainderOne, RemainderPower, ShiftZero, ShiftPast, ExtractAll, ExtractExtract, ExtractConcat, Idle, Less, AtMost, Greater, EqualSame, NotTwice, Connective, Choice, SelectStore, Fold, Inner}
use Rattle.bv_rules.specs.Reading.{op_at, arg, are_unequal, commutes, is_extract, is_idle}
use Rattle.bv_rules.specs.Arguments.{is_literal, are_literals, has_literals, folded_value, literal_at, folds, at_some, reaches, leads, has_reached, commutes_in}
use Rattle.bv_rules.specs.Rules as by
use Rattle.bv_rules.specs.Rules.{is, on, takes, of_terms, unequal, reads}
use Rattle.bv_rules.proofs.Known.{or_cases, never, ok_is}
use Rattle.array_images.proofs.Ranked.{GivesNoArray, arg_in, plain_of}
use Rattle.array_images.proofs.Parts.{words_no_array}

-- ---- literals are no arrays

literals_no_array : (n x : ℕ) → GivesNoArray (rank_of (Word n x))
literals_no_array n x = λ s e. words_no_array n s (guard_ok (nat_lt x (2 ^ n)) (word_sort n) (WrongSort 0) s e).1

truths_no_array : (s : Sort) → (let r : Result Sort MakeFault = Ok sort.Bool in r) ≡ Ok s → is_array s ≡ false
truths_no_array s e = ap is_array (ok_is sort.Bool s e)

literal_plain : (nodes : List Node) (list : IsTermList nodes) (a : ℕ) → a < length nodes → (o : Op) → op_at nodes a ≡ o → is_literal o ≡ true → is_array (sort_of nodes a) ≡ false
literal_plain nodes list a lt (Word n x) e h = plain_of nodes list a lt (Word n x) e (literals_no_array n x)
literal_plain nodes list a lt (Plain o) e h =
    or_cases (same_operator o plain.True) (same_operator o plain.False) h
    (λ g. truth plain.True (ap (λ p. same_op p (Plain plain.True)) e ∙ g) (λ q. plain_of nodes list a lt (Plain plain.True) q truths_no_array))
    (λ g. truth plain.False (ap (λ p. same_op p (Plain plain.False)) e ∙ g) (λ q. plain_of nodes list a lt (Plain plain.False) q truths_no_array))
  where
    truth : (p : Operator) → same_op (op_at nodes a) (Plain p) ≡ true → (op_at nodes a ≡ Plain p → is_array (sort_of nodes a) ≡ false) → is_array (sort_of nodes a) ≡ false
    truth p g f = f (op_same (op_at nodes a) (Plain p) g)
literal_plain nodes list a lt _ e h = let q : ⊥ = cc in absurd q

-- ---- the rules on a witness and on a select

-- a rule that is none of the three on arrays and on all arguments
abbrev IsElse : Rule → Type 0
IsElse SelectStore = ⊥
IsElse Fold = ⊥
IsElse Inner = ⊥
IsElse rule = Unit {0}

abbrev of_arrays : Bool → Operator
of_arrays true = plain.Select
of_arrays false = plain.Witness

module _ (nodes : List Node) (image : ℕ → Option ℕ) (t u : ℕ) (b : Bool) (e : op_at nodes t ≡ Plain (of_arrays b)) where
  both : (p : Operator) → same_operator plain.Select p ≡ false → same_operator plain.Witness p ≡ false → (c : Bool) → same_op (Plain (of_arrays c)) (Plain p) ≡ false
  both p x y true = x
  both p x y false = y

  other : {C : Type 0} (p : Operator) (c : Bool) → same_operator plain.Select p ≡ false → same_operator plain.Witness p ≡ false → (is nodes p t && c) ≡ true → C
  other p c x y h = never (sym (both p x y b) ∙ ap (λ q. same_op q (Plain p)) (sym e) ∙ (and_parts (is nodes p t) c h).0)

  no_extract : {C : Type 0} (c : Bool) → (is_extract (op_at nodes t) && c) ≡ true → C
  no_extract c h = never (ap is_extract (sym e) ∙ (and_parts (is_extract (op_at nodes t)) c h).0)

  no_idle : {C : Type 0} (n : ℕ) (c : Bool) → (is_idle n (op_at nodes t) && c) ≡ true → C
  no_idle n c h = never (ap (is_idle n) (sym e) ∙ (and_parts (is_idle n (op_at nodes t)) c h).0)

  on_none : {C : Type 0} (p : Operator) (q : ℕ → ℕ → Bool) → same_operator plain.Select p ≡ false → same_operator plain.Witness p ≡ false → on nodes p q t ≡ true → C
  on_none p q x y h = other p (q (arg nodes 0 t) (arg nodes 1 t) || (commutes p && q (arg nodes 1 t) (arg nodes 0 t))) x y h

  abbrev under : ℕ
  under = arg nodes 0 t

  abbrev of_same : ℕ → ℕ → Bool
  of_same x y = (x == y) && (u == x)

  abbrev of_zero : ℕ → ℕ → Bool
  of_zero x c = by.zero nodes c && (u == x)

  abbrev of_one : ℕ → ℕ → Bool
  of_one x c = by.one nodes c && (u == x)

  abbrev to_zero : ℕ → ℕ → Bool
  to_zero x c = by.zero nodes c && by.zero nodes u

  abbrev past : ℕ → ℕ → Bool
  past x c = by.past nodes c && by.zero nodes u

  abbrev turns : Operator → ℕ → ℕ → Bool
  turns r x y = of_terms nodes r y x u

  abbrev turned : Operator → Operator → Bool
  turned o r = on nodes o (turns r) t

  else_taken : (rule : Rule) → IsElse rule → takes nodes image rule t u ≡ true → ⊥
  else_taken BvnotTwice i h = other plain.Bvnot (is nodes plain.Bvnot under && (u == arg nodes 0 under)) refl refl h
  else_taken BvnegTwice i h = other plain.Bvneg (is nodes plain.Bvneg under && (u == arg nodes 0 under)) refl refl h
  else_taken AndSame i h = on_none plain.Bvand of_same refl refl h
  else_taken AndZero i h = on_none plain.Bvand to_zero refl refl h
  else_taken AndOnes i h = on_none plain.Bvand (λ x c. by.ones nodes c && (u == x)) refl refl h
  else_taken OrSame i h = on_none plain.Bvor of_same refl refl h
  else_taken OrZero i h = on_none plain.Bvor of_zero refl refl h
  else_taken OrOnes i h = on_none plain.Bvor (λ x c. by.ones nodes c && by.ones nodes u) refl refl h
  else_taken XorSame i h = on_none plain.Bvxor (λ x y. (x == y) && by.zero nodes u) refl refl h
  else_taken XorZero i h = on_none plain.Bvxor of_zero refl refl h
  else_taken XorOnes i h = on_none plain.Bvxor (λ x c. by.ones nodes c && by.of_term nodes plain.Bvnot x u) refl refl h
  else_taken AddZero i h = on_none plain.Bvadd of_zero refl refl h
  else_taken AddOpposite i h = on_none plain.Bvadd (λ x y. by.of_term nodes plain.Bvneg x y && by.zero nodes u) refl refl h
  else_taken Subtract i h = on_none plain.Bvsub (λ x y. by.with_term nodes plain.Bvadd x (by.of_term nodes plain.Bvneg y) u) refl refl h
  else_taken AddSame i h = on_none plain.Bvadd (λ x y. (x == y) && by.with_term nodes plain.Bvshl x (by.one nodes) u) refl refl h
  else_taken MultiplyZero i h = on_none plain.Bvmul to_zero refl refl h
  else_taken MultiplyOne i h = on_none plain.Bvmul of_one refl refl h
  else_taken MultiplyPower i h = on_none plain.Bvmul (by.by_exponent nodes plain.Bvshl u) refl refl h
  else_taken DivideOne i h = on_none plain.Bvudiv of_one refl refl h
  else_taken DivideZero i h = on_none plain.Bvudiv (λ x c. by.zero nodes c && by.ones nodes u) refl refl h
  else_taken DividePower i h = on_none plain.Bvudiv (by.by_exponent nodes plain.Bvlshr u) refl refl h
  else_taken RemainderZero i h = on_none plain.Bvurem of_zero refl refl h
  else_taken RemainderOne i h = on_none plain.Bvurem (λ x c. by.one nodes c && by.zero nodes u) refl refl h
  else_taken RemainderPower i h = on_none plain.Bvurem (by.by_mask nodes u) refl refl h
  else_taken ShiftZero i h =
      or_cases (on nodes plain.Bvshl of_zero t) (on nodes plain.Bvlshr of_zero t || on nodes plain.Bvashr of_zero t) h
      (λ f. on_none plain.Bvshl of_zero refl refl f)
      (λ f. or_cases (on nodes plain.Bvlshr of_zero t) (on nodes plain.Bvashr of_zero t) f (λ g. on_none plain.Bvlshr of_zero refl refl g) (λ g. on_none plain.Bvashr of_zero refl refl g))
  else_taken ShiftPast i h = or_cases (on nodes plain.Bvshl past t) (on nodes plain.Bvlshr past t) h (λ f. on_none plain.Bvshl past refl refl f) (λ f. on_none plain.Bvlshr past refl refl f)
  else_taken ExtractAll i h = no_extract ((by.high nodes t + 1 == by.width_at nodes under) && ((by.low nodes t == 0) && (u == under))) h
  else_taken ExtractExtract i h =
      no_extract (by.extraction nodes under && by.extracts nodes (by.high nodes t + by.low nodes under) (by.low nodes t + by.low nodes under) (arg nodes 0 under) u) h
  else_taken ExtractConcat i h = no_extract (is nodes plain.Concat under && by.extracts_part nodes (by.high nodes t) (by.low nodes t) (by.width_at nodes (arg nodes 1 under)) under u) h
  else_taken Idle i h = no_idle (by.width_at nodes under) (u == under) h
  else_taken Less i h = on_none plain.Bvult (λ x y. ((x == y) || by.zero nodes y) && is nodes plain.False u) refl refl h
  else_taken AtMost i h = on_none plain.Bvule (λ x y. ((x == y) || by.zero nodes x) && is nodes plain.True u) refl refl h
  else_taken Greater i h =
      or_cases (turned plain.Bvugt plain.Bvult) (turned plain.Bvuge plain.Bvule || (turned plain.Bvsgt plain.Bvslt || turned plain.Bvsge plain.Bvsle)) h
      (λ f. on_none plain.Bvugt (turns plain.Bvult) refl refl f)
      (λ f. or_cases (turned plain.Bvuge plain.Bvule) (turned plain.Bvsgt plain.Bvslt || turned plain.Bvsge plain.Bvsle) f
      (λ g. on_none plain.Bvuge (turns plain.Bvule) refl refl g)
      (λ g. or_cases (turned plain.Bvsgt plain.Bvslt) (turned plain.Bvsge plain.Bvsle) g (λ k. on_none plain.Bvsgt (turns plain.Bvslt) refl refl k) (λ k. on_none plain.Bvsge (turns plain.Bvsle) refl refl k)))
  else_taken EqualSame i h = on_none plain.Equal (λ x y. (x == y) && is nodes plain.True u) refl refl h
  else_taken NotTwice i h = other plain.Not (is nodes plain.Not under && (u == arg nodes 0 under)) refl refl h
  else_taken Connective i h =
      or_cases (on nodes plain.And (by.decides nodes plain.True plain.False u) t) (on nodes plain.Or (by.decides nodes plain.False plain.True u) t) h
      (λ f. on_none plain.And (by.decides nodes plain.True plain.False u) refl refl f)
      (λ f. on_none plain.Or (by.decides nodes plain.False plain.True u) refl refl f)
  else_taken Choice i h =
      let c = under in
      let x = arg nodes 1 t in
      let y = arg nodes 2 t in
      other plain.Ite ((is nodes plain.True c && (u == x)) || ((is nodes plain.False c && (u == y)) || ((x == y) && (u == x)))) refl refl h
  else_taken SelectStore i h = i
  else_taken Fold i h = i
  else_taken Inner i h = i

-- ---- the rules on all arguments

-- arguments without images stay
unmoved : (image : ℕ → Option ℕ) (n : ℕ) (xs ys : List ℕ) → AllByRecursion (λ x. image x ≡ None) xs → pointwise (reaches image n) xs ys ≡ true → xs ≡ ys
unmoved image n [] [] none h = refl
unmoved image n [] (y ∷ ys) none h = never h
unmoved image n (x ∷ xs) [] none h = never h
unmoved image n (x ∷ xs) (y ∷ ys) none h =
    let p = and_parts (reaches image n x y) (pointwise (reaches image n) xs ys) h in
    let first = same n p.0 in
    let rest = unmoved image n xs ys none.1 p.1 in
    (λ i. first i ∷ rest i)
  where
    step : (m : ℕ) (o : Option ℕ) → o ≡ None → at_some o (λ c. reaches image m c y) ≡ true → x ≡ y
    step m None e k = never k
    step m (Some c) e k = let f : ⊥ = cc in absurd f

    same : (m : ℕ) → reaches image m x y ≡ true → x ≡ y
    same zero k = eqb-true x y k
    same (suc m) k = or_cases (x == y) (at_some (image x) (λ c. reaches image m c y)) k (λ g. eqb-true x y g) (λ g. step m (image x) none.0 g)

module _ (nodes : List Node) (list : IsTermList nodes) (different : AreDifferent nodes) (image : ℕ → Option ℕ) (t u : ℕ) (lt : t < length nodes) (lu : u < length nodes) where
  -- a term without images under it stays, where it does not turn
  inner_same : commutes_in (op_at nodes t) ≡ false → AllByRecursion (λ x. image x ≡ None) (node_at nodes t).args → has_reached nodes image t u ≡ true → t ≡ u
  inner_same straight none h =
      let each = pointwise (leads nodes image) (node_at nodes t).args (node_at nodes u).args in
      let crossed = leads nodes image (arg nodes 0 t) (arg nodes 1 u) && leads nodes image (arg nodes 1 t) (arg nodes 0 u) in
      let p = and_parts (same_op (op_at nodes t) (op_at nodes u)) (each || (commutes_in (op_at nodes t) && crossed)) h in
      or_cases each (commutes_in (op_at nodes t) && crossed) p.1
      (λ e. (let args = unmoved image (length nodes) (node_at nodes t).args (node_at nodes u).args none e in different t u lt lu (node_by (node_at nodes t) (node_at nodes u) (op_same (op_at nodes t) (op_at nodes u) p.0) args)))
      (λ e. never (sym straight ∙ (and_parts (commutes_in (op_at nodes t)) crossed e).0))
    where
      node_by : (a b : Node) → a.op ≡ b.op → a.args ≡ b.args → a ≡ b
      node_by a b x y = λ i. record { op = x i; args = y i }

  -- an operator on arguments one of which is no literal is not computed
  not_folded : (args : List ℕ) → (node_at nodes t).args ≡ args → list_all (λ x. is_literal (op_at nodes x)) args ≡ false → folds nodes t u ≡ true → ⊥
  not_folded args own off h =
      let literals = are_literals nodes (node_at nodes t).args in
      let some = not (length (node_at nodes t).args == 0) in
      let p = and_parts (has_literals nodes t) (is_literal (op_at nodes u) && same_value (folded_value nodes t) (literal_at nodes u)) h in
      let q = and_parts (is_fixed (op_at nodes t)) (some && literals) p.0 in
      let r = and_parts some literals q.1 in
      never (sym off ∙ ap (are_literals nodes) (sym own) ∙ r.1)

-- ---- witnesses and selects at them

abbrev WitnessOp : Type 0
WitnessOp = (o : Op) (args : List ℕ) (a b : ℕ) → shape_of o args ≡ Witnessing a b → o ≡ Plain plain.Witness

witness_op : WitnessOp
witness_op (Plain plain.Witness) args a b e = refl
witness_op (Plain plain.Ite) (x ∷ y ∷ z ∷ []) a b e = let f : ⊥ = cc in absurd f
witness_op (Plain plain.Equal) (x ∷ y ∷ []) a b e = let f : ⊥ = cc in absurd f
witness_op (Plain plain.Store) (x ∷ y ∷ z ∷ []) a b e = let f : ⊥ = cc in absurd f
witness_op (Plain plain.Select) (x ∷ y ∷ []) a b e = let f : ⊥ = cc in absurd f
witness_op (ConstantArray k) (x ∷ []) a b e = let f : ⊥ = cc in absurd f
witness_op op args a b e = let f : ⊥ = cc in absurd f

select_op : (o : Op) (args : List ℕ) (a i : ℕ) → shape_of o args ≡ Selecting a i → o ≡ Plain plain.Select
select_op (Plain plain.Select) args a i e = refl
select_op (Plain plain.Ite) (x ∷ y ∷ z ∷ []) a i e = let f : ⊥ = cc in absurd f
select_op (Plain plain.Equal) (x ∷ y ∷ []) a i e = let f : ⊥ = cc in absurd f
select_op (Plain plain.Store) (x ∷ y ∷ z ∷ []) a i e = let f : ⊥ = cc in absurd f
select_op (Plain plain.Witness) (x ∷ y ∷ []) a i e = let f : ⊥ = cc in absurd f
select_op (ConstantArray k) (x ∷ []) a i e = let f : ⊥ = cc in absurd f
select_op op args a i e = let f : ⊥ = cc in absurd f

first_false : (b c : Bool) → b ≡ false → (b && c) ≡ false
first_false true c e = never (sym e)
first_false false c e = refl

false_of : (b : Bool) → (b ≡ true → ⊥) → b ≡ false
false_of true h = absurd (h refl)
false_of false h = refl

module _ (nodes : List Node) (list : IsTermList nodes) (different : AreDifferent nodes) (image : ℕ → Option ℕ) (t u : ℕ) (lt : t < length nodes) (lu : u < length nodes) where
  -- a rule takes a witness of arrays without images to itself
  pub witness_stays : (a b : ℕ) → shape_at nodes t ≡ Witnessing a b → a < length nodes → is_array (sort_of nodes a) ≡ true → image a ≡ None → image b ≡ None → (rule : Rule) → takes nodes image rule t u ≡ true → t ≡ u
  witness_stays a b shape held array left right rule h = go rule h
    where
      op : op_at nodes t ≡ Plain plain.Witness
      op = witness_op (node_at nodes t).op (node_at nodes t).args a b shape

      args : (node_at nodes t).args ≡ a ∷ b ∷ []
      args = args_at nodes t (Witnessing a b) shape

      none : (r : Rule) → IsElse r → takes nodes image r t u ≡ true → t ≡ u
      none r i k = absurd (else_taken nodes image t u false op r i k)

      literal : is_literal (op_at nodes a) ≡ true → ⊥
      literal k = never (sym (literal_plain nodes list a held (op_at nodes a) refl k) ∙ array)

      go : (r : Rule) → takes nodes image r t u ≡ true → t ≡ u
      go SelectStore k = never (ap (λ q. same_op q (Plain plain.Select)) (sym op) ∙ (and_parts (is nodes plain.Select t) (is nodes plain.Store (arg nodes 0 t) && reads nodes (arg nodes 0 t) (arg nodes 1 t) u) k).0)
      go Fold k = absurd (not_folded nodes list different image t u lt lu (a ∷ b ∷ []) args (first_false (is_literal (op_at nodes a)) (is_literal (op_at nodes b) && true) (false_of (is_literal (op_at nodes a)) literal)) k)
      go Inner k = inner_same nodes list different image t u lt lu (ap commutes_in op) (subst (AllByRecursion (λ x. image x ≡ None)) (sym args) (left, (right, tt))) k
      go r k = none r tt k

  -- a rule takes a select at a witness to itself, or to an argument of its array
  pub select_stays : (a w b c : ℕ) → shape_at nodes t ≡ Selecting a w → shape_at nodes w ≡ Witnessing b c → a < length nodes → image a ≡ None → image w ≡ None → (rule : Rule) → takes nodes image rule t u ≡ true → (t ≡ u) ⊎ Contains (arguments nodes a) u
  select_stays a w b c shape witness held left right rule h = go rule h
    where
      op : op_at nodes t ≡ Plain plain.Select
      op = select_op (node_at nodes t).op (node_at nodes t).args a w shape

      index : op_at nodes w ≡ Plain plain.Witness
      index = witness_op (node_at nodes w).op (node_at nodes w).args b c witness

      args : (node_at nodes t).args ≡ a ∷ w ∷ []
      args = args_at nodes t (Selecting a w) shape

      first : arg nodes 0 t ≡ a
      first = ap (λ l. slice_index_or l 0 0) args

      second : arg nodes 1 t ≡ w
      second = ap (λ l. slice_index_or l 1 0) args

      none : (r : Rule) → IsElse r → takes nodes image r t u ≡ true → (t ≡ u) ⊎ Contains (arguments nodes a) u
      none r i k = absurd (else_taken nodes image t u true op r i k)

      literals : (is_literal (op_at nodes a) && (is_literal (op_at nodes w) && true)) ≡ false
      literals = ap (λ o. is_literal (op_at nodes a) && (is_literal o && true)) index ∙ and_false (is_literal (op_at nodes a))
        where
          and_false : (d : Bool) → (d && false) ≡ false
          and_false true = refl
          and_false false = refl

      no_words : (o : Op) → are_unequal o (Plain plain.Witness) ≡ true → ⊥
      no_words (Word n x) k = never k
      no_words o k = never k

      read : (s j : ℕ) → s ≡ a → j ≡ w → (is nodes plain.Store s && reads nodes s j u) ≡ true → Contains (arguments nodes a) u
      read s j e f k =
          let kept = (arg nodes 1 s == j) && (u == arg nodes 2 s) in
          let passed = unequal nodes (arg nodes 1 s) j && of_terms nodes plain.Select (arg nodes 0 s) j u in
          let q = and_parts (is nodes plain.Store s) (kept || passed) k in
          let store = op_same (op_at nodes s) (Plain plain.Store) q.0 in
          let lt : s < length nodes = subst (λ x. x < length nodes) (sym e) held in
          or_cases kept passed q.1
          (λ g.
          let is_third : u ≡ arg nodes 2 s = eqb-true u (arg nodes 2 s) (and_parts (arg nodes 1 s == j) (u == arg nodes 2 s) g).1 in
          subst (λ x. Contains (arguments nodes x) u) e
          (subst (Contains (arguments nodes s)) (sym is_third) (arg_in nodes list s lt (Plain plain.Store) store 3 2 (λ x y z. tt) (omega arith))))
          (λ g. absurd (no_words (op_at nodes (arg nodes 1 s)) (ap (are_unequal (op_at nodes (arg nodes 1 s))) (sym (ap (op_at nodes) f ∙ index)) ∙ (and_parts (unequal nodes (arg nodes 1 s) j) (of_terms nodes plain.Select (arg nodes 0 s) j u) g).0)))

      go : (r : Rule) → takes nodes image r t u ≡ true → (t ≡ u) ⊎ Contains (arguments nodes a) u
      go SelectStore k = inr (read (arg nodes 0 t) (arg nodes 1 t) first second (and_parts (is nodes plain.Select t) (is nodes plain.Store (arg nodes 0 t) && reads nodes (arg nodes 0 t) (arg nodes 1 t) u) k).1)
      go Fold k = absurd (not_folded nodes list different image t u lt lu (a ∷ w ∷ []) args literals k)
      go Inner k = inl (inner_same nodes list different image t u lt lu (ap commutes_in op) (subst (AllByRecursion (λ x. image x ≡ None)) (sym args) (left, (right, tt))) k)
      go r k = none r tt k
