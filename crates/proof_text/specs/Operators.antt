-- The names of the operators without a number: those of the theories Core, FixedSizeBitVectors and ArraysEx and of the
-- logic QF_BV (SMT-LIB 2.6), and `witness`, the least index at which two arrays differ.
use Rattle.std.specs.Prelude.{ℕ, List, [], ◌∷◌, codes, slice_index_or}
use Rattle.smt_terms.specs.Operators.{code_of}
use Rattle.smt_terms.specs.declared.operator.Operator.{Operator}
use Rattle.smt_terms.specs.declared.operator.Operator.TheVariants as plain

-- by their codes
abbrev pub operator_names : List (List ℕ × Operator)
operator_names =
    (codes "true", plain.True)
    ∷ (codes "false", plain.False)
    ∷ (codes "not", plain.Not)
    ∷ (codes "and", plain.And)
    ∷ (codes "or", plain.Or)
    ∷ (codes "xor", plain.Xor)
    ∷ (codes "=>", plain.Implies)
    ∷ (codes "ite", plain.Ite)
    ∷ (codes "=", plain.Equal)
    ∷ (codes "bvnot", plain.Bvnot)
    ∷ (codes "bvneg", plain.Bvneg)
    ∷ (codes "bvadd", plain.Bvadd)
    ∷ (codes "bvsub", plain.Bvsub)
    ∷ (codes "bvmul", plain.Bvmul)
    ∷ (codes "bvand", plain.Bvand)
    ∷ (codes "bvor", plain.Bvor)
    ∷ (codes "bvxor", plain.Bvxor)
    ∷ (codes "bvnand", plain.Bvnand)
    ∷ (codes "bvnor", plain.Bvnor)
    ∷ (codes "bvxnor", plain.Bvxnor)
    ∷ (codes "bvudiv", plain.Bvudiv)
    ∷ (codes "bvurem", plain.Bvurem)
    ∷ (codes "bvsdiv", plain.Bvsdiv)
    ∷ (codes "bvsrem", plain.Bvsrem)
    ∷ (codes "bvsmod", plain.Bvsmod)
    ∷ (codes "bvshl", plain.Bvshl)
    ∷ (codes "bvlshr", plain.Bvlshr)
    ∷ (codes "bvashr", plain.Bvashr)
    ∷ (codes "bvult", plain.Bvult)
    ∷ (codes "bvule", plain.Bvule)
    ∷ (codes "bvugt", plain.Bvugt)
    ∷ (codes "bvuge", plain.Bvuge)
    ∷ (codes "bvslt", plain.Bvslt)
    ∷ (codes "bvsle", plain.Bvsle)
    ∷ (codes "bvsgt", plain.Bvsgt)
    ∷ (codes "bvsge", plain.Bvsge)
    ∷ (codes "bvcomp", plain.Bvcomp)
    ∷ (codes "concat", plain.Concat)
    ∷ (codes "select", plain.Select)
    ∷ (codes "store", plain.Store)
    ∷ (codes "witness", plain.Witness)
    ∷ []

abbrev pub name_of : Operator → List ℕ
name_of op = (slice_index_or operator_names (code_of op) ([], plain.True)).0
