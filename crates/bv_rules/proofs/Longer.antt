-- More terms change no rule.
use Rattle.std.proofs.Common.{◌≡◌, ℕ, zero, suc, ◌+◌, ◌-◌, ◌^◌, ◌<◌, Bool, true, false, List, [], ◌∷◌, ◌++◌, length, map, refl, sym, ap, ◌∙◌, subst, arith, length-append, Option, Some, None}
use Rattle.std.specs.Prelude.{◌==◌, ◌&&◌, ◌||◌, nat_lt, nat_le, not, slice_index_or}
use Rattle.std.specs.List.{AllByRecursion, list_all}
use Rattle.std.specs.Cmp.Lexicographic.{pointwise}
use Rattle.std.proofs.lemmas.Bool.{and_parts, lt-ltb}
use Rattle.smt_terms.specs.declared.operator.Operator.{Operator}
use Rattle.smt_terms.specs.declared.operator.Operator.TheVariants as plain
use Rattle.smt_terms.specs.declared.node.Op.{Op}
use Rattle.smt_terms.specs.declared.node.Op.TheVariants.{Plain, Extract}
use Rattle.smt_terms.specs.declared.node.Node.{Node}
use Rattle.smt_terms.specs.Same.{same_op, same_sort}
use Rattle.smt_terms.specs.Nodes.{node_at}
use Rattle.smt_terms.specs.Ranks.{is_plain, width_of}
use Rattle.smt_terms.specs.Scalars.{is_fixed}
use Rattle.smt_terms.specs.Terms.{sort_of, IsTermList}
use Rattle.smt_terms.specs.Values.{same_value, op_value}
use Rattle.smt_terms.proofs.Growing.{node_longer, sort_longer}
use Rattle.smt_terms.proofs.Evaluating.{evaluation_shorter}
use Rattle.bv_rules.specs.declared.reading.Constant.{Constant}
use Rattle.bv_rules.specs.declared.reading.Constant.TheVariants.{Zero, One, Ones}
use Rattle.bv_rules.specs.declared.rule.Rule.{Rule}
use Rattle.bv_rules.specs.declared.rule.Rule.TheVariants.{BvnotTwice, BvnegTwice, AndSame, AndZero, AndOnes, OrSame, OrZero, OrOnes, XorSame, XorZero, XorOnes, AddZero, AddOpposite, Subtract, AddSame, MultiplyZero, MultiplyOne, MultiplyPower, DivideOne, DivideZero, DividePower, RemainderZero, RemainderOne, RemainderPower, ShiftZero, ShiftPast, ExtractAll, ExtractExtract, ExtractConcat, Idle, Less, AtMost, Greater, EqualSame, NotTwice, Connective, Choice, SelectStore, Fold, Inner}
use Rattle.bv_rules.specs.Reading.{commutes, is_number, is_constant, exponent_in, is_power, is_past, are_unequal, is_extract, high_in, low_in, is_idle, op_at, arg}
use Rattle.bv_rules.specs.Arguments.{is_literal, any_interpretation, at_some, reaches, commutes_in, literal_at, folds, leads, has_reached}
use Rattle.bv_rules.specs.Rules.{width_at, is, on, with_term, of_term, of_terms, twice, extracts, turned, extracts_part, reads, takes}
use Rattle.bv_rules.specs.Matches.{matches, IsImage, AreImages}
use Rattle.bv_rules.proofs.Known.{or_cases, never}
use Rattle.bv_rules.proofs.Keeping.{matched}

-- ---- ways

pub reaches_more : (images : ℕ → Option ℕ) (n m a b : ℕ) → reaches images n a b ≡ true → reaches images (n + m) a b ≡ true
reaches_more images zero m a b h = let e : m ≡ 0 + m = omega arith in subst (λ k. reaches images k a b ≡ true) e (at_once m) where
  or_true : (b c : Bool) → b ≡ true → (b || c) ≡ true
  or_true b c e = ap (λ d. d || c) e

  at_once : (m : ℕ) → reaches images m a b ≡ true
  at_once zero = h
  at_once (suc m) = or_true (a == b) (at_some (images a) (λ c. reaches images m c b)) h
reaches_more images (suc n) m a b h =
    let e : suc n + m ≡ suc (n + m) = omega arith in
    let more : reaches images (suc (n + m)) a b ≡ true =
    or_cases (a == b) (at_some (images a) (λ c. reaches images n c b)) h
    (λ p. ap (λ d. d || at_some (images a) (λ c. reaches images (n + m) c b)) p)
    (λ p. either (a == b) (at_some (images a) (λ c. reaches images (n + m) c b)) (step (images a) (λ c. reaches_more images n m c b) p)) in
    ap (λ k. reaches images k a b) e ∙ more
  where
    either : (b c : Bool) → c ≡ true → (b || c) ≡ true
    either true c p = refl
    either false c p = p

    step : (o : Option ℕ) → ((c : ℕ) → reaches images n c b ≡ true → reaches images (n + m) c b ≡ true) → at_some o (λ c. reaches images n c b) ≡ true → at_some o (λ c. reaches images (n + m) c b) ≡ true
    step None ih p = never p
    step (Some c) ih p = ih c p

each_more : (p q : ℕ → ℕ → Bool) → ((a b : ℕ) → p a b ≡ true → q a b ≡ true) → (xs ys : List ℕ) → pointwise p xs ys ≡ true → pointwise q xs ys ≡ true
each_more p q f [] [] h = refl
each_more p q f [] (y ∷ ys) h = never h
each_more p q f (x ∷ xs) [] h = never h
each_more p q f (x ∷ xs) (y ∷ ys) h =
    let r = and_parts (p x y) (pointwise p xs ys) h in
    (λ i. f x y r.0 i && each_more p q f xs ys r.1 i)

both : (a b : Bool) → a ≡ true → b ≡ true → (a && b) ≡ true
both a b p q = λ i. p i && q i

module _ (nodes more : List Node) (terms : IsTermList nodes) where
  argument_in : (n k : ℕ) (args : List ℕ) → n < length nodes → AllByRecursion (λ a. a < n) args → slice_index_or args k 0 < length nodes
  argument_in n k [] lt h = omega (arith, lt)
  argument_in n zero (a ∷ args) lt h = omega (arith, lt, h.0)
  argument_in n (suc k) (a ∷ args) lt h = argument_in n k args lt h.1

  pub arg_held : (k t : ℕ) → t < length nodes → arg nodes k t < length nodes
  arg_held k t lt = argument_in t k (node_at nodes t).args lt (terms t lt).earlier

  pub op_longer : (t : ℕ) → t < length nodes → op_at (nodes ++ more) t ≡ op_at nodes t
  op_longer t lt = ap (λ n. n.op) (node_longer nodes more t lt)

  pub arg_longer : (k t : ℕ) → t < length nodes → arg (nodes ++ more) k t ≡ arg nodes k t
  arg_longer k t lt = ap (λ n. slice_index_or n.args k 0) (node_longer nodes more t lt)

  pub width_longer : (t : ℕ) → t < length nodes → width_at (nodes ++ more) t ≡ width_at nodes t
  width_longer t lt = ap width_of (sort_longer nodes more t lt)

  pub is_longer : (o : Operator) (t : ℕ) → t < length nodes → is (nodes ++ more) o t ≡ is nodes o t
  is_longer o t lt = ap (λ p. same_op p (Plain o)) (op_longer t lt)

  -- a test of operators alone
  pub by_op : (f : Op → Bool) (t : ℕ) → t < length nodes → f (op_at (nodes ++ more) t) ≡ f (op_at nodes t)
  by_op f t lt = ap f (op_longer t lt)

  on_longer : (o : Operator) (p q : ℕ → ℕ → Bool) (t : ℕ) → t < length nodes → ((x y : ℕ) → x < length nodes → y < length nodes → p x y ≡ q x y) → on (nodes ++ more) o p t ≡ on nodes o q t
  on_longer o p q t lt same =
      let a = arg_longer 0 t lt in
      let b = arg_longer 1 t lt in
      let first = (λ i. p (a i) (b i)) ∙ same (arg nodes 0 t) (arg nodes 1 t) (arg_held 0 t lt) (arg_held 1 t lt) in
      let second = (λ i. p (b i) (a i)) ∙ same (arg nodes 1 t) (arg nodes 0 t) (arg_held 1 t lt) (arg_held 0 t lt) in
      (λ i. is_longer o t lt i && (first i || (commutes o && second i)))

  with_longer : (o : Operator) (x : ℕ) (p q : ℕ → Bool) (t : ℕ) → t < length nodes → ((z : ℕ) → z < length nodes → p z ≡ q z) → with_term (nodes ++ more) o x p t ≡ with_term nodes o x q t
  with_longer o x p q t lt same = on_longer o (λ y z. (y == x) && p z) (λ y z. (y == x) && q z) t lt (λ y z ly lz. ap (λ b. (y == x) && b) (same z lz))

  pub of_longer : (o : Operator) (x t : ℕ) → t < length nodes → of_term (nodes ++ more) o x t ≡ of_term nodes o x t
  of_longer o x t lt = (λ i. is_longer o t lt i && (arg_longer 0 t lt i == x))

  of_two_longer : (o : Operator) (x y t : ℕ) → t < length nodes → of_terms (nodes ++ more) o x y t ≡ of_terms nodes o x y t
  of_two_longer o x y t lt = (λ i. is_longer o t lt i && ((arg_longer 0 t lt i == x) && (arg_longer 1 t lt i == y)))

  pub inner_longer : (j k t : ℕ) → t < length nodes → arg (nodes ++ more) j (arg (nodes ++ more) k t) ≡ arg nodes j (arg nodes k t)
  inner_longer j k t lt = ap (arg (nodes ++ more) j) (arg_longer k t lt) ∙ arg_longer j (arg nodes k t) (arg_held k t lt)

  pub inner_is : (o : Operator) (k t : ℕ) → t < length nodes → is (nodes ++ more) o (arg (nodes ++ more) k t) ≡ is nodes o (arg nodes k t)
  inner_is o k t lt = ap (is (nodes ++ more) o) (arg_longer k t lt) ∙ is_longer o (arg nodes k t) (arg_held k t lt)

  pub inner_op : (k t : ℕ) → t < length nodes → op_at (nodes ++ more) (arg (nodes ++ more) k t) ≡ op_at nodes (arg nodes k t)
  inner_op k t lt = ap (op_at (nodes ++ more)) (arg_longer k t lt) ∙ op_longer (arg nodes k t) (arg_held k t lt)

  twice_longer : (o : Operator) (x t : ℕ) → t < length nodes → twice (nodes ++ more) o x t ≡ twice nodes o x t
  twice_longer o x t lt = (λ i. is_longer o t lt i && (inner_is o 0 t lt i && (x == inner_longer 0 0 t lt i)))

  extracts_longer : (i j x t : ℕ) → t < length nodes → extracts (nodes ++ more) i j x t ≡ extracts nodes i j x t
  extracts_longer i j x t lt = (λ z. same_op (op_longer t lt z) (Extract i j) && (arg_longer 0 t lt z == x))

  module _ (t u : ℕ) (lt : t < length nodes) (lu : u < length nodes) where
    constant_u : (z : Constant) → is_constant z (op_at (nodes ++ more) u) ≡ is_constant z (op_at nodes u)
    constant_u z = by_op (is_constant z) u lu

    beside_term : (o : Operator) (z : Constant) → on (nodes ++ more) o (λ x c. is_constant z (op_at (nodes ++ more) c) && (u == x)) t ≡ on nodes o (λ x c. is_constant z (op_at nodes c) && (u == x)) t
    beside_term o z = on_longer o (λ x c. is_constant z (op_at (nodes ++ more) c) && (u == x)) (λ x c. is_constant z (op_at nodes c) && (u == x)) t lt (λ x c lx lc. ap (λ b. b && (u == x)) (by_op (is_constant z) c lc))

    beside_word : (o : Operator) (z r : Constant) → on (nodes ++ more) o (λ x c. is_constant z (op_at (nodes ++ more) c) && is_constant r (op_at (nodes ++ more) u)) t ≡ on nodes o (λ x c. is_constant z (op_at nodes c) && is_constant r (op_at nodes u)) t
    beside_word o z r = on_longer o (λ x c. is_constant z (op_at (nodes ++ more) c) && is_constant r (op_at (nodes ++ more) u)) (λ x c. is_constant z (op_at nodes c) && is_constant r (op_at nodes u)) t lt (λ x c lx lc. λ i. by_op (is_constant z) c lc i && constant_u r i)

    same_term : (o : Operator) → on (nodes ++ more) o (λ x y. (x == y) && (u == x)) t ≡ on nodes o (λ x y. (x == y) && (u == x)) t
    same_term o = on_longer o (λ x y. (x == y) && (u == x)) (λ x y. (x == y) && (u == x)) t lt (λ x y lx ly. refl)

    same_constant : (o : Operator) (r : Constant) → on (nodes ++ more) o (λ x y. (x == y) && is_constant r (op_at (nodes ++ more) u)) t ≡ on nodes o (λ x y. (x == y) && is_constant r (op_at nodes u)) t
    same_constant o r = on_longer o (λ x y. (x == y) && is_constant r (op_at (nodes ++ more) u)) (λ x y. (x == y) && is_constant r (op_at nodes u)) t lt (λ x y lx ly. ap (λ b. (x == y) && b) (constant_u r))

    by_power : (o r : Operator) (m : ℕ → ℕ)
        → on (nodes ++ more) o (λ x c. is_power (op_at (nodes ++ more) c) && with_term (nodes ++ more) r x (λ z. is_number (m (exponent_in (op_at (nodes ++ more) c))) (op_at (nodes ++ more) z)) u) t
        ≡ on nodes o (λ x c. is_power (op_at nodes c) && with_term nodes r x (λ z. is_number (m (exponent_in (op_at nodes c))) (op_at nodes z)) u) t
    by_power o r m =
        on_longer o
        (λ x c. is_power (op_at (nodes ++ more) c) && with_term (nodes ++ more) r x (λ z. is_number (m (exponent_in (op_at (nodes ++ more) c))) (op_at (nodes ++ more) z)) u)
        (λ x c. is_power (op_at nodes c) && with_term nodes r x (λ z. is_number (m (exponent_in (op_at nodes c))) (op_at nodes z)) u)
        t lt
        (λ x c lx lc.
        let e = op_longer c lc in
        let w = with_longer r x (λ z. is_number (m (exponent_in (op_at (nodes ++ more) c))) (op_at (nodes ++ more) z)) (λ z. is_number (m (exponent_in (op_at nodes c))) (op_at nodes z)) u lu
        (λ z lz. λ i. is_number (m (exponent_in (e i))) (op_longer z lz i)) in
        (λ i. is_power (e i) && w i))

    past_zero : (o : Operator) → on (nodes ++ more) o (λ x c. is_past (op_at (nodes ++ more) c) && is_constant Zero (op_at (nodes ++ more) u)) t ≡ on nodes o (λ x c. is_past (op_at nodes c) && is_constant Zero (op_at nodes u)) t
    past_zero o = on_longer o (λ x c. is_past (op_at (nodes ++ more) c) && is_constant Zero (op_at (nodes ++ more) u)) (λ x c. is_past (op_at nodes c) && is_constant Zero (op_at nodes u)) t lt (λ x c lx lc. λ i. by_op is_past c lc i && constant_u Zero i)

    turned_longer : (o r : Operator) → turned (nodes ++ more) o r t u ≡ turned nodes o r t u
    turned_longer o r = on_longer o (λ x y. of_terms (nodes ++ more) r y x u) (λ x y. of_terms nodes r y x u) t lt (λ x y lx ly. of_two_longer r y x u lu)

    truths_longer : (o n d : Operator)
        → on (nodes ++ more) o (λ p q. (((p == q) || is (nodes ++ more) n q) && (u == p)) || (is (nodes ++ more) d q && is (nodes ++ more) d u)) t
        ≡ on nodes o (λ p q. (((p == q) || is nodes n q) && (u == p)) || (is nodes d q && is nodes d u)) t
    truths_longer o n d =
        on_longer o
        (λ p q. (((p == q) || is (nodes ++ more) n q) && (u == p)) || (is (nodes ++ more) d q && is (nodes ++ more) d u))
        (λ p q. (((p == q) || is nodes n q) && (u == p)) || (is nodes d q && is nodes d u))
        t lt
        (λ p q lp lq. λ i. (((p == q) || is_longer n q lq i) && (u == p)) || (is_longer d q lq i && is_longer d u lu i))

    part_longer : (i j m a : ℕ) → a < length nodes → extracts_part (nodes ++ more) i j m a u ≡ extracts_part nodes i j m a u
    part_longer i j m a la =
        let low = ap (λ x. extracts (nodes ++ more) i j x u) (arg_longer 1 a la) ∙ extracts_longer i j (arg nodes 1 a) u lu in
        let high = ap (λ x. extracts (nodes ++ more) (i - m) (j - m) x u) (arg_longer 0 a la) ∙ extracts_longer (i - m) (j - m) (arg nodes 0 a) u lu in
        (λ z. (nat_lt i m && low z) || (nat_le m j && high z))

    reads_longer : (s j : ℕ) → s < length nodes → j < length nodes → reads (nodes ++ more) s j u ≡ reads nodes s j u
    reads_longer s j ls lj =
        let a = arg_longer 0 s ls in
        let i = arg_longer 1 s ls in
        let x = arg_longer 2 s ls in
        let unequal : are_unequal (op_at (nodes ++ more) (arg (nodes ++ more) 1 s)) (op_at (nodes ++ more) j) ≡ are_unequal (op_at nodes (arg nodes 1 s)) (op_at nodes j) = (λ z. are_unequal (inner_op 1 s ls z) (op_longer j lj z)) in
        let selects = ap (λ y. of_terms (nodes ++ more) plain.Select y j u) a ∙ of_two_longer plain.Select (arg nodes 0 s) j u lu in
        (λ z. ((i z == j) && (u == x z)) || (unequal z && selects z))

    pub literals_longer : (n : ℕ) (args : List ℕ) → n < length nodes → AllByRecursion (λ a. a < n) args → list_all (λ a. is_literal (op_at (nodes ++ more) a)) args ≡ list_all (λ a. is_literal (op_at nodes a)) args
    literals_longer n [] l h = refl
    literals_longer n (a ∷ args) l h = (λ i. by_op is_literal a (omega (arith, l, h.0)) i && literals_longer n args l h.1 i)

    pub values_longer : (n : ℕ) (args : List ℕ) → n < length nodes → AllByRecursion (λ a. a < n) args → map (literal_at (nodes ++ more)) args ≡ map (literal_at nodes) args
    values_longer n [] l h = refl
    values_longer n (a ∷ args) l h = (λ i. op_value any_interpretation (op_longer a (omega (arith, l, h.0)) i) [] ∷ values_longer n args l h.1 i)

    folds_longer : folds (nodes ++ more) t u ≡ folds nodes t u
    folds_longer =
        let n = node_longer nodes more t lt in
        let args = (node_at nodes t).args in
        let early = (terms t lt).earlier in
        let all : list_all (λ a. is_literal (op_at (nodes ++ more) a)) (node_at (nodes ++ more) t).args ≡ list_all (λ a. is_literal (op_at nodes a)) args =
        ap (λ m. list_all (λ a. is_literal (op_at (nodes ++ more) a)) m.args) n ∙ literals_longer t args lt early in
        let values : map (literal_at (nodes ++ more)) (node_at (nodes ++ more) t).args ≡ map (literal_at nodes) args =
        ap (λ m. map (literal_at (nodes ++ more)) m.args) n ∙ values_longer t args lt early in
        (λ i. (is_fixed (n i).op && (not (length (n i).args == 0) && all i)) && (is_literal (op_longer u lu i)
        && same_value (op_value any_interpretation (n i).op (values i)) (op_value any_interpretation (op_longer u lu i) [])))

    leads_more : (images : ℕ → Option ℕ) (a b : ℕ) → leads nodes images a b ≡ true → leads (nodes ++ more) images a b ≡ true
    leads_more images a b h = ap (λ k. reaches images k a b) (length-append nodes more) ∙ reaches_more images (length nodes) (length more) a b h

    reached_longer : (images : ℕ → Option ℕ) → has_reached nodes images t u ≡ true → has_reached (nodes ++ more) images t u ≡ true
    reached_longer images h =
        let N = nodes ++ more in
        let each = pointwise (leads nodes images) (node_at nodes t).args (node_at nodes u).args in
        let crossed = leads nodes images (arg nodes 0 t) (arg nodes 1 u) && leads nodes images (arg nodes 1 t) (arg nodes 0 u) in
        let p = and_parts (same_op (op_at nodes t) (op_at nodes u)) (each || (commutes_in (op_at nodes t) && crossed)) h in
        let op : same_op (op_at N t) (op_at N u) ≡ true = (λ i. same_op (op_longer t lt i) (op_longer u lu i)) ∙ p.0 in
        let n = node_longer nodes more t lt in
        let m = node_longer nodes more u lu in
        let each' = pointwise (leads N images) (node_at N t).args (node_at N u).args in
        let crossed' = leads N images (arg N 0 t) (arg N 1 u) && leads N images (arg N 1 t) (arg N 0 u) in
        both (same_op (op_at N t) (op_at N u)) (each' || (commutes_in (op_at N t) && crossed')) op
        (or_cases each (commutes_in (op_at nodes t) && crossed) p.1
        (λ e. first each' (commutes_in (op_at N t) && crossed') ((λ i. pointwise (leads N images) (n i).args (m i).args) ∙ each_more (leads nodes images) (leads N images) (leads_more images) (node_at nodes t).args (node_at nodes u).args e))
        (λ e.
        let c = and_parts (commutes_in (op_at nodes t)) crossed e in
        let d = and_parts (leads nodes images (arg nodes 0 t) (arg nodes 1 u)) (leads nodes images (arg nodes 1 t) (arg nodes 0 u)) c.1 in
        let l = (λ i. leads N images (arg_longer 0 t lt i) (arg_longer 1 u lu i)) ∙ leads_more images (arg nodes 0 t) (arg nodes 1 u) d.0 in
        let r = (λ i. leads N images (arg_longer 1 t lt i) (arg_longer 0 u lu i)) ∙ leads_more images (arg nodes 1 t) (arg nodes 0 u) d.1 in
        second each' (commutes_in (op_at N t) && crossed') (both (commutes_in (op_at N t)) crossed' (by_op commutes_in t lt ∙ c.0) (both (leads N images (arg N 0 t) (arg N 1 u)) (leads N images (arg N 1 t) (arg N 0 u)) l r))))
      where
        first : (b c : Bool) → b ≡ true → (b || c) ≡ true
        first b c e = ap (λ d. d || c) e

        second : (b c : Bool) → c ≡ true → (b || c) ≡ true
        second true c e = refl
        second false c e = e

    takes_longer : (images : ℕ → Option ℕ) (rule : Rule) → takes nodes images rule t u ≡ true → takes (nodes ++ more) images rule t u ≡ true
    takes_longer images BvnotTwice h = twice_longer plain.Bvnot u t lt ∙ h
    takes_longer images BvnegTwice h = twice_longer plain.Bvneg u t lt ∙ h
    takes_longer images AndSame h = same_term plain.Bvand ∙ h
    takes_longer images AndZero h = beside_word plain.Bvand Zero Zero ∙ h
    takes_longer images AndOnes h = beside_term plain.Bvand Ones ∙ h
    takes_longer images OrSame h = same_term plain.Bvor ∙ h
    takes_longer images OrZero h = beside_term plain.Bvor Zero ∙ h
    takes_longer images OrOnes h = beside_word plain.Bvor Ones Ones ∙ h
    takes_longer images XorSame h = same_constant plain.Bvxor Zero ∙ h
    takes_longer images XorZero h = beside_term plain.Bvxor Zero ∙ h
    takes_longer images XorOnes h = on_longer plain.Bvxor (λ x c. is_constant Ones (op_at (nodes ++ more) c) && of_term (nodes ++ more) plain.Bvnot x u) (λ x c. is_constant Ones (op_at nodes c) && of_term nodes plain.Bvnot x u) t lt (λ x c lx lc. λ i. by_op (is_constant Ones) c lc i && of_longer plain.Bvnot x u lu i) ∙ h
    takes_longer images AddZero h = beside_term plain.Bvadd Zero ∙ h
    takes_longer images AddOpposite h = on_longer plain.Bvadd (λ x y. of_term (nodes ++ more) plain.Bvneg x y && is_constant Zero (op_at (nodes ++ more) u)) (λ x y. of_term nodes plain.Bvneg x y && is_constant Zero (op_at nodes u)) t lt (λ x y lx ly. λ i. of_longer plain.Bvneg x y ly i && constant_u Zero i) ∙ h
    takes_longer images Subtract h = on_longer plain.Bvsub (λ x y. with_term (nodes ++ more) plain.Bvadd x (of_term (nodes ++ more) plain.Bvneg y) u) (λ x y. with_term nodes plain.Bvadd x (of_term nodes plain.Bvneg y) u) t lt (λ x y lx ly. with_longer plain.Bvadd x (of_term (nodes ++ more) plain.Bvneg y) (of_term nodes plain.Bvneg y) u lu (λ z lz. of_longer plain.Bvneg y z lz)) ∙ h
    takes_longer images AddSame h = on_longer plain.Bvadd (λ x y. (x == y) && with_term (nodes ++ more) plain.Bvshl x (λ z. is_constant One (op_at (nodes ++ more) z)) u) (λ x y. (x == y) && with_term nodes plain.Bvshl x (λ z. is_constant One (op_at nodes z)) u) t lt (λ x y lx ly. ap (λ b. (x == y) && b) (with_longer plain.Bvshl x (λ z. is_constant One (op_at (nodes ++ more) z)) (λ z. is_constant One (op_at nodes z)) u lu (λ z lz. by_op (is_constant One) z lz))) ∙ h
    takes_longer images MultiplyZero h = beside_word plain.Bvmul Zero Zero ∙ h
    takes_longer images MultiplyOne h = beside_term plain.Bvmul One ∙ h
    takes_longer images MultiplyPower h = by_power plain.Bvmul plain.Bvshl (λ e. e) ∙ h
    takes_longer images DivideOne h = beside_term plain.Bvudiv One ∙ h
    takes_longer images DivideZero h = beside_word plain.Bvudiv Zero Ones ∙ h
    takes_longer images DividePower h = by_power plain.Bvudiv plain.Bvlshr (λ e. e) ∙ h
    takes_longer images RemainderZero h = beside_term plain.Bvurem Zero ∙ h
    takes_longer images RemainderOne h = beside_word plain.Bvurem One Zero ∙ h
    takes_longer images RemainderPower h = by_power plain.Bvurem plain.Bvand (λ e. 2 ^ e - 1) ∙ h
    takes_longer images ShiftZero h = (λ i. beside_term plain.Bvshl Zero i || (beside_term plain.Bvlshr Zero i || beside_term plain.Bvashr Zero i)) ∙ h
    takes_longer images ShiftPast h = (λ i. past_zero plain.Bvshl i || past_zero plain.Bvlshr i) ∙ h
    takes_longer images ExtractAll h =
        let o = op_longer t lt in
        let w = ap (width_at (nodes ++ more)) (arg_longer 0 t lt) ∙ width_longer (arg nodes 0 t) (arg_held 0 t lt) in
        (λ i. is_extract (o i) && ((high_in (o i) + 1 == w i) && ((low_in (o i) == 0) && (u == arg_longer 0 t lt i)))) ∙ h
    takes_longer images ExtractExtract h =
        let o = op_longer t lt in
        let r = inner_op 0 t lt in
        let i = high_in (op_at nodes t) + low_in (op_at nodes (arg nodes 0 t)) in
        let j = low_in (op_at nodes t) + low_in (op_at nodes (arg nodes 0 t)) in
        let e = (λ z. extracts (nodes ++ more) (high_in (o z) + low_in (r z)) (low_in (o z) + low_in (r z)) (inner_longer 0 0 t lt z) u) ∙ extracts_longer i j (arg nodes 0 (arg nodes 0 t)) u lu in
        (λ z. is_extract (o z) && (is_extract (r z) && e z)) ∙ h
    takes_longer images ExtractConcat h =
        let o = op_longer t lt in
        let a = arg nodes 0 t in
        let la = arg_held 0 t lt in
        let w : width_at (nodes ++ more) (arg (nodes ++ more) 1 (arg (nodes ++ more) 0 t)) ≡ width_at nodes (arg nodes 1 a) = ap (width_at (nodes ++ more)) (inner_longer 1 0 t lt) ∙ width_longer (arg nodes 1 a) (arg_held 1 a la) in
        let e = (λ z. extracts_part (nodes ++ more) (high_in (o z)) (low_in (o z)) (w z) (arg_longer 0 t lt z) u) ∙ part_longer (high_in (op_at nodes t)) (low_in (op_at nodes t)) (width_at nodes (arg nodes 1 a)) a la in
        (λ z. is_extract (o z) && (inner_is plain.Concat 0 t lt z && e z)) ∙ h
    takes_longer images Idle h =
        let w = ap (width_at (nodes ++ more)) (arg_longer 0 t lt) ∙ width_longer (arg nodes 0 t) (arg_held 0 t lt) in
        (λ i. is_idle (w i) (op_longer t lt i) && (u == arg_longer 0 t lt i)) ∙ h
    takes_longer images Less h = on_longer plain.Bvult (λ x y. ((x == y) || is_constant Zero (op_at (nodes ++ more) y)) && is (nodes ++ more) plain.False u) (λ x y. ((x == y) || is_constant Zero (op_at nodes y)) && is nodes plain.False u) t lt (λ x y lx ly. λ i. ((x == y) || by_op (is_constant Zero) y ly i) && is_longer plain.False u lu i) ∙ h
    takes_longer images AtMost h = on_longer plain.Bvule (λ x y. ((x == y) || is_constant Zero (op_at (nodes ++ more) x)) && is (nodes ++ more) plain.True u) (λ x y. ((x == y) || is_constant Zero (op_at nodes x)) && is nodes plain.True u) t lt (λ x y lx ly. λ i. ((x == y) || by_op (is_constant Zero) x lx i) && is_longer plain.True u lu i) ∙ h
    takes_longer images Greater h = (λ i. turned_longer plain.Bvugt plain.Bvult i || (turned_longer plain.Bvuge plain.Bvule i || (turned_longer plain.Bvsgt plain.Bvslt i || turned_longer plain.Bvsge plain.Bvsle i))) ∙ h
    takes_longer images EqualSame h = on_longer plain.Equal (λ x y. (x == y) && is (nodes ++ more) plain.True u) (λ x y. (x == y) && is nodes plain.True u) t lt (λ x y lx ly. ap (λ b. (x == y) && b) (is_longer plain.True u lu)) ∙ h
    takes_longer images NotTwice h = twice_longer plain.Not u t lt ∙ h
    takes_longer images Connective h = (λ i. truths_longer plain.And plain.True plain.False i || truths_longer plain.Or plain.False plain.True i) ∙ h
    takes_longer images Choice h =
        let x = arg_longer 1 t lt in
        let y = arg_longer 2 t lt in
        (λ i. is_longer plain.Ite t lt i && ((inner_is plain.True 0 t lt i && (u == x i)) || ((inner_is plain.False 0 t lt i && (u == y i)) || ((x i == y i) && (u == x i))))) ∙ h
    takes_longer images SelectStore h =
        let r = (λ z. reads (nodes ++ more) (arg_longer 0 t lt z) (arg_longer 1 t lt z) u) ∙ reads_longer (arg nodes 0 t) (arg nodes 1 t) (arg_held 0 t lt) (arg_held 1 t lt) in
        (λ z. is_longer plain.Select t lt z && (inner_is plain.Store 0 t lt z && r z)) ∙ h
    takes_longer images Fold h = folds_longer ∙ h
    takes_longer images Inner h = reached_longer images h

  within : (t : ℕ) → t < length nodes → t < length (nodes ++ more)
  within t lt = omega (arith, lt, length-append nodes more)

  pub matches_longer : (images : ℕ → Option ℕ) (rule : Rule) (t u : ℕ) → matches nodes images rule t u ≡ true → matches (nodes ++ more) images rule t u ≡ true
  matches_longer images rule t u h =
      let m = matched nodes images rule t u h in
      let N = nodes ++ more in
      let st = sort_longer nodes more t m.from in
      let su = sort_longer nodes more u m.to in
      let same : same_sort (sort_of N t) (sort_of N u) ≡ true = (λ i. same_sort (st i) (su i)) ∙ m.same in
      both (nat_lt t (length N)) (nat_lt u (length N) && (is_plain (sort_of N t) && (same_sort (sort_of N t) (sort_of N u) && takes N images rule t u))) (lt-ltb t (length N) (within t m.from))
      (both (nat_lt u (length N)) (is_plain (sort_of N t) && (same_sort (sort_of N t) (sort_of N u) && takes N images rule t u)) (lt-ltb u (length N) (within u m.to))
      (both (is_plain (sort_of N t)) (same_sort (sort_of N t) (sort_of N u) && takes N images rule t u) (ap is_plain st ∙ m.plain)
      (both (same_sort (sort_of N t) (sort_of N u)) (takes N images rule t u) same (takes_longer t u m.from m.to images rule m.takes))))

  pub image_longer : (t u : ℕ) → IsImage nodes t u → IsImage (nodes ++ more) t u
  image_longer t u m = record {
    from = within t m.from;
    to = within u m.to;
    plain = ap is_plain (sort_longer nodes more t m.from) ∙ m.plain;
    sort = sort_longer nodes more u m.to ∙ m.sort ∙ sym (sort_longer nodes more t m.from);
    value = λ M v e. m.value M v (evaluation_shorter M nodes more v e);
  }

pub matches_more : (nodes more : List Node) (images : ℕ → Option ℕ) (rule : Rule) (t u : ℕ) → IsTermList nodes → matches nodes images rule t u ≡ true → matches (nodes ++ more) images rule t u ≡ true
matches_more nodes more images rule t u terms h = matches_longer nodes more terms images rule t u h

pub images_more : (nodes more : List Node) (images : ℕ → Option ℕ) → IsTermList nodes → AreImages nodes images → AreImages (nodes ++ more) images
images_more nodes more images terms h t u e = image_longer nodes more terms t u (h t u e)
