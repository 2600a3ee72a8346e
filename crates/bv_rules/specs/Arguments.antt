-- The two rules on all arguments of a term: each is a literal, or each becomes one that its images reach.
use Rattle.std.specs.Prelude.{◌≡◌, ℕ, zero, suc, ◌==◌, not, Bool, true, false, ◌&&◌, ◌||◌, List, [], map, length, Option, Some, None, MatchOption}
use Rattle.std.specs.List.{list_all}
use Rattle.std.specs.Cmp.Lexicographic.{pointwise}
use Rattle.smt_terms.specs.declared.operator.Operator.TheVariants.{True, False}
use Rattle.smt_terms.specs.declared.node.Op.{Op}
use Rattle.smt_terms.specs.declared.node.Op.TheVariants.{Plain, Word}
use Rattle.smt_terms.specs.declared.node.Node.{Node}
use Rattle.smt_terms.specs.Operators.{same_operator}
use Rattle.smt_terms.specs.Same.{same_op}
use Rattle.smt_terms.specs.Nodes.{node_at}
use Rattle.smt_terms.specs.Scalars.{is_fixed, scalar_value}
use Rattle.smt_terms.specs.declared.scalar.Scalar.{Scalar}
use Rattle.smt_terms.specs.Values.{Value, no_value, same_value, Interpretation, op_value}
use Rattle.bv_rules.specs.Reading.{op_at, arg, commutes}

-- ---- literals

-- true, false, or a word
abbrev pub is_literal : Op → Bool
is_literal (Plain o) = same_operator o True || same_operator o False
is_literal (Word n x) = true
is_literal _ = false

-- neither a literal nor an operator of the theories asks the interpretation
abbrev pub any_interpretation : Interpretation
any_interpretation = record { constants = λ d. no_value; functions = λ d vs. no_value }

abbrev pub literal_value : Op → Value
literal_value op = op_value any_interpretation op []

-- the truth value or the word of an operator that gives one, nothing where this test fails
abbrev pub IsGiven : Bool → Value → Option Scalar → Type 0
IsGiven test value result = MatchOption result (test ≡ false) (λ s. (test ≡ true) × (value ≡ scalar_value s))

-- ---- images

abbrev pub at_some : Option ℕ → (ℕ → Bool) → Bool
at_some None p = false
at_some (Some c) p = p c

-- b is a, or is reached from a by so many images at most
abbrev pub reaches : (ℕ → Option ℕ) → ℕ → ℕ → ℕ → Bool
reaches images zero a b = a == b
reaches images (suc k) a b = (a == b) || at_some (images a) (λ c. reaches images k c b)

abbrev pub commutes_in : Op → Bool
commutes_in (Plain o) = commutes o
commutes_in _ = false

module _ (nodes : List Node) where
  abbrev pub literal_at : ℕ → Value
  literal_at t = literal_value (op_at nodes t)

  abbrev pub are_literals : List ℕ → Bool
  are_literals args = list_all (λ a. is_literal (op_at nodes a)) args

  -- what an operator gives on these literals
  abbrev pub value_on : Op → List ℕ → Value
  value_on op args = op_value any_interpretation op (map literal_at args)

  -- an operator of the theories on literals, one at least
  abbrev pub has_literals : ℕ → Bool
  has_literals t =
      let args = (node_at nodes t).args in
      is_fixed (op_at nodes t) && (not (length args == 0) && are_literals args)

  -- what it gives
  abbrev pub folded_value : ℕ → Value
  folded_value t = value_on (op_at nodes t) (node_at nodes t).args

  -- u is the literal that the operator of t gives on literals
  abbrev pub folds : ℕ → ℕ → Bool
  folds t u = has_literals t && (is_literal (op_at nodes u) && same_value (folded_value t) (literal_at u))

  -- b is a or is reached from it by images; no way of different terms has more steps than there are terms
  abbrev pub leads : (ℕ → Option ℕ) → ℕ → ℕ → Bool
  leads images a b = reaches images (length nodes) a b

  -- u is the operator of t on arguments to which those of t lead, in either order where the operator commutes
  abbrev pub has_reached : (ℕ → Option ℕ) → ℕ → ℕ → Bool
  has_reached images t u =
      same_op (op_at nodes t) (op_at nodes u)
      && (pointwise (leads images) (node_at nodes t).args (node_at nodes u).args
      || (commutes_in (op_at nodes t) && (leads images (arg nodes 0 t) (arg nodes 1 u) && leads images (arg nodes 1 t) (arg nodes 0 u))))
