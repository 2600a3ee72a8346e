-- What is known of literals, and of how many arguments an operator of the theories has.
use Rattle.std.proofs.Common.{◌≡◌, ℕ, zero, suc, ◌<◌, Bool, true, false, List, [], ◌∷◌, length, map, refl, sym, ap, ◌∙◌, subst, arith, inl, inr, ⊎_elim, Option, Some, None, Ok}
use Rattle.std.specs.Prelude.{◌==◌, ◌&&◌, ◌||◌, ◌⊎◌, not, IfSome, IsErr}
use Rattle.std.specs.List.{list_all}
use Rattle.std.proofs.lemmas.List.{length-map}
use Rattle.smt_terms.specs.declared.sort.Sort.{Sort}
use Rattle.smt_terms.specs.declared.sort.Sort.TheVariants as sort
use Rattle.smt_terms.specs.declared.operator.Operator.{Operator}
use Rattle.smt_terms.specs.declared.operator.Operator.TheVariants as plain
use Rattle.smt_terms.specs.declared.node.Op.{Op}
use Rattle.smt_terms.specs.declared.node.Op.TheVariants.{Plain, Word, Extract, ZeroExtend, SignExtend, RotateLeft, RotateRight, Repeat}
use Rattle.smt_terms.specs.declared.node.Node.{Node}
use Rattle.smt_terms.specs.declared.scalar.Scalar.{Scalar}
use Rattle.smt_terms.specs.declared.scalar.Scalar.TheVariants as scalar
use Rattle.smt_terms.specs.Operators.{same_operator, operator_same}
use Rattle.smt_terms.specs.Nodes.{node_at}
use Rattle.smt_terms.specs.Ranks.{rank_of}
use Rattle.smt_terms.specs.Scalars.{is_fixed, scalar_sort, scalar_value, Gives}
use Rattle.smt_terms.specs.Terms.{IsTerm, op_rank, sort_of}
use Rattle.smt_terms.specs.Values.{HasSort, width_in}
use Rattle.smt_terms.proofs.Arities.{too_many, four_are_too_many}
use Rattle.smt_terms.proofs.Typing.{typed_op}
use Rattle.bv_rules.specs.Reading.{op_at}
use Rattle.bv_rules.specs.Arguments.{is_literal, any_interpretation, has_literals}
use Rattle.bv_rules.proofs.Known.{or_cases, never}

-- ---- literals

leaf_rank : (o : Operator) → (same_operator o plain.True || same_operator o plain.False) ≡ true → (ss : List Sort) (s : Sort) → op_rank (Plain o) ss ≡ Ok s → op_rank (Plain o) [] ≡ Ok s
leaf_rank o h ss s e =
    or_cases (same_operator o plain.True) (same_operator o plain.False) h
    (λ p. subst (λ q. op_rank (Plain q) ss ≡ Ok s → op_rank (Plain q) [] ≡ Ok s) (sym (operator_same o plain.True p)) (truth ss) e)
    (λ p. subst (λ q. op_rank (Plain q) ss ≡ Ok s → op_rank (Plain q) [] ≡ Ok s) (sym (operator_same o plain.False p)) (falsity ss) e)
  where
    truth : (ss : List Sort) → op_rank (Plain plain.True) ss ≡ Ok s → op_rank (Plain plain.True) [] ≡ Ok s
    truth [] e = e
    truth (x ∷ ss) e = let q : ⊥ = cc in absurd q

    falsity : (ss : List Sort) → op_rank (Plain plain.False) ss ≡ Ok s → op_rank (Plain plain.False) [] ≡ Ok s
    falsity [] e = e
    falsity (x ∷ ss) e = let q : ⊥ = cc in absurd q

literal_rank : (o : Op) → is_literal o ≡ true → (ss : List Sort) (s : Sort) → op_rank o ss ≡ Ok s → op_rank o [] ≡ Ok s
literal_rank (Plain o) h ss s e = leaf_rank o h ss s e
literal_rank (Word n x) h [] s e = e
literal_rank (Word n x) h (y ∷ ss) s e = let q : ⊥ = cc in absurd q
literal_rank _ h ss s e = let q : ⊥ = cc in absurd q

of_sort : (s : Sort) (r : Scalar) → HasSort s (scalar_value r) → scalar_sort r ≡ s
of_sort sort.Bool (scalar.Bool b) h = refl
of_sort (sort.Word n) (scalar.Bool b) h = let p = h.1 in let q : ⊥ = cc in absurd q
of_sort (sort.Array n m) (scalar.Bool b) h = let p = h.1 in let q : ⊥ = cc in absurd q
of_sort sort.Bool (scalar.Word w) h = let p = h.1 in let q : ⊥ = cc in absurd q
of_sort (sort.Word n) (scalar.Word w) h = ap sort.Word (ap width_in h.1)
of_sort (sort.Array n m) (scalar.Word w) h = let p = h.1 in let q : ⊥ = cc in absurd q

-- the value of a literal has the sort of its term
pub literal_sort : (nodes : List Node) (t : ℕ) (n : Node) → IsTerm nodes t → n ≡ node_at nodes t → is_literal n.op ≡ true → (r : Option Scalar) → Gives n.op [] [] r → IfSome r (λ s. scalar_sort s ≡ sort_of nodes t)
literal_sort nodes t n h e l None g = tt
literal_sort nodes t n h e l (Some s) g =
    let rank : op_rank n.op (map (sort_of nodes) (node_at nodes t).args) ≡ Ok (sort_of nodes t) = ap (λ m. op_rank m.op (map (sort_of nodes) (node_at nodes t).args)) e ∙ h.rank in
    let own = typed_op any_interpretation n.op [] [] (sort_of nodes t) (literal_rank n.op l (map (sort_of nodes) (node_at nodes t).args) (sort_of nodes t) rank) tt in
    of_sort (sort_of nodes t) s (subst (HasSort (sort_of nodes t)) (g any_interpretation) own)

-- ---- arguments

fixed_too_many : (o : Op) → is_fixed o ≡ true → (ss : List Sort) → 3 < length ss → IsErr (op_rank o ss)
fixed_too_many (Plain o) h ss lt = four_are_too_many o ss lt
fixed_too_many (Word n x) h ss lt = too_many 0 (rank_of (Word n x)) tt 0 (map Some ss) (omega (arith, lt, length-map ss Some))
fixed_too_many (Extract i j) h ss lt = too_many 1 (rank_of (Extract i j)) (λ a. tt) 0 (map Some ss) (omega (arith, lt, length-map ss Some))
fixed_too_many (ZeroExtend i) h ss lt = too_many 1 (rank_of (ZeroExtend i)) (λ a. tt) 0 (map Some ss) (omega (arith, lt, length-map ss Some))
fixed_too_many (SignExtend i) h ss lt = too_many 1 (rank_of (SignExtend i)) (λ a. tt) 0 (map Some ss) (omega (arith, lt, length-map ss Some))
fixed_too_many (RotateLeft i) h ss lt = too_many 1 (rank_of (RotateLeft i)) (λ a. tt) 0 (map Some ss) (omega (arith, lt, length-map ss Some))
fixed_too_many (RotateRight i) h ss lt = too_many 1 (rank_of (RotateRight i)) (λ a. tt) 0 (map Some ss) (omega (arith, lt, length-map ss Some))
fixed_too_many (Repeat i) h ss lt = too_many 1 (rank_of (Repeat i)) (λ a. tt) 0 (map Some ss) (omega (arith, lt, length-map ss Some))
fixed_too_many _ h ss lt = let q : ⊥ = cc in absurd q

-- an operator with no argument, or with more than three, has no literals for its arguments
no_literals : (nodes : List Node) (t : ℕ) → IsTerm nodes t → (length (node_at nodes t).args ≡ 0) ⊎ (3 < length (node_at nodes t).args) → has_literals nodes t ≡ false
no_literals nodes t h few = go (is_fixed (op_at nodes t)) refl few where
  rest : Bool
  rest = not (length (node_at nodes t).args == 0) && list_all (λ a. is_literal (op_at nodes a)) (node_at nodes t).args

  go : (b : Bool) → is_fixed (op_at nodes t) ≡ b → (length (node_at nodes t).args ≡ 0) ⊎ (3 < length (node_at nodes t).args) → has_literals nodes t ≡ false
  go false e few = ap (λ b. b && rest) e
  go true e few =
      ⊎_elim
      (λ none. ap (λ b. b && rest) e ∙ ap (λ n. not (n == 0) && list_all (λ a. is_literal (op_at nodes a)) (node_at nodes t).args) none)
      (λ many.
      let bad = fixed_too_many (op_at nodes t) e (map (sort_of nodes) (node_at nodes t).args) (omega (arith, many, length-map (node_at nodes t).args (sort_of nodes))) in
      never (subst IsErr h.rank bad))
      few

few_or_many : (m : ℕ) → (m ≡ 1 → ⊥) → (m ≡ 2 → ⊥) → (m ≡ 3 → ⊥) → (m ≡ 0) ⊎ (3 < m)
few_or_many zero p q r = inl refl
few_or_many (suc zero) p q r = absurd (p refl)
few_or_many (suc (suc zero)) p q r = absurd (q refl)
few_or_many (suc (suc (suc zero))) p q r = absurd (r refl)
few_or_many (suc (suc (suc (suc m)))) p q r = inr (omega arith)

pub no_literals_in : (nodes : List Node) (t : ℕ) (n : Node) (args : List ℕ) → IsTerm nodes t → n ≡ node_at nodes t → args ≡ n.args → (length args ≡ 1 → ⊥) → (length args ≡ 2 → ⊥) → (length args ≡ 3 → ⊥) → has_literals nodes t ≡ false
no_literals_in nodes t n args h e a p q r =
    no_literals nodes t h (subst (λ (xs : List ℕ). (length xs ≡ 0) ⊎ (3 < length xs)) (a ∙ ap (λ m. m.args) e) (few_or_many (length args) p q r))
