-- The terms of a shape.
use Rattle.std.specs.Prelude.{ℕ, ◌-◌, ◌^◌, ◌==◌, Bool, if◌then◌else◌, List, Option, Some, None}
use Rattle.smt_terms.specs.declared.operator.Operator.TheVariants as plain
use Rattle.smt_terms.specs.declared.node.Node.{Node}
use Rattle.bv_rules.specs.Rules.{is, of_term, of_terms, with_term, number, ones, extracts}
use Rattle.bv_rewrite.specs.declared.shape.Shape.{Shape}
use Rattle.bv_rewrite.specs.declared.shape.Shape.TheVariants.{Term, Truth, Word, Ones, One, Two, WithWord, WithNegated, Bits}
use Rattle.bv_rewrite.specs.declared.shape.Kind.{Kind}
use Rattle.bv_rewrite.specs.declared.shape.Kind.TheVariants as kind
use Rattle.bv_rewrite.specs.declared.shape.Power.{Power}
use Rattle.bv_rewrite.specs.declared.shape.Power.TheVariants as by

abbrev pub has_shape : List Node → Shape → ℕ → Bool
has_shape nodes (Term x) u = u == x
has_shape nodes (Truth b) u = is nodes (if b then plain.True else plain.False) u
has_shape nodes (Word k) u = number nodes k u
has_shape nodes Ones u = ones nodes u
has_shape nodes (One o x) u = of_term nodes o x u
has_shape nodes (Two o x y) u = of_terms nodes o x y u
has_shape nodes (WithWord o x k) u = with_term nodes o x (number nodes k) u
has_shape nodes (WithNegated x y) u = with_term nodes plain.Bvadd x (of_term nodes plain.Bvneg y) u
has_shape nodes (Bits i j x) u = extracts nodes i j x u

abbrev pub kind_shape : Kind → ℕ → Shape
kind_shape kind.Same x = Term x
kind_shape kind.Zero x = Word 0
kind_shape kind.Ones x = Ones
kind_shape kind.Doubled x = WithWord plain.Bvshl x 1

abbrev pub power_shape : Power → ℕ → ℕ → Shape
power_shape by.ShiftedLeft x e = WithWord plain.Bvshl x e
power_shape by.ShiftedRight x e = WithWord plain.Bvlshr x e
power_shape by.Masked x e = WithWord plain.Bvand x (2 ^ e - 1)

-- ---- the first of several

abbrev pub given : Bool → Option Shape → Option Shape
given b o = if b then o else None

abbrev pub or_else : Option Shape → Option Shape → Option Shape
or_else (Some s) o = Some s
or_else None o = o
