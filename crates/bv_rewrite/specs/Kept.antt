-- Terms that stay what they are.
use Rattle.std.specs.Prelude.{ℕ, ◌==◌, Bool, not, ◌&&◌, ◌||◌, List, is_some}
use Rattle.smt_terms.specs.declared.operator.Operator.TheVariants as plain
use Rattle.smt_terms.specs.declared.node.Node.{Node}
use Rattle.smt_terms.specs.Bits.{TermBits, bits_in}
use Rattle.bv_rules.specs.declared.rule.Rule.TheVariants.{Fold}
use Rattle.bv_rules.specs.Rules.{first, second, is, of_term, zero}
use Rattle.bv_rewrite.specs.Becoming.{becomes}

module _ (nodes : List Node) where
  -- the negation of y, or the negation of that
  abbrev pub is_negated : ℕ → ℕ → Bool
  is_negated x y = is nodes plain.Bvneg x && ((first nodes x == y) || of_term nodes plain.Bvneg y (first nodes x))

  -- a difference that is none of literals, and becomes a sum that no rule takes further
  abbrev pub stays_difference : ℕ → Bool
  stays_difference t =
      let x = first nodes t in
      let y = second nodes t in
      is nodes plain.Bvsub t && (not (is_some (becomes nodes Fold t)) && (not (zero nodes x) && (not (x == y) && not (is_negated x y))))

-- the term has bits, or is such a difference
abbrev pub keeps_bits : List TermBits → List Node → ℕ → Bool
keeps_bits bits nodes t = is_some (bits_in bits t) || stays_difference nodes t
