-- Operators without an index, and when two are the same.
use Rattle.std.proofs.Common.{◌≡◌, ℕ, Bool, true, List, [], ◌∷◌, refl, sym, ◌∙◌, ap}
use Rattle.std.proofs.lemmas.Bool.{eqb-true, eq-eqb}
use Rattle.std.specs.Prelude.{◌==◌, IsTrue, slice_index_or}
use Rattle.std.specs.Cmp.{IsEquivalence}
use Rattle.smt_terms.specs.Equivalences.{equivalence_by}
use Rattle.std.specs.Hash as fed
use Rattle.smt_terms.specs.declared.operator.Operator.{Operator}
use Rattle.smt_terms.specs.declared.operator.Operator.TheVariants as plain

-- a number of its own for each operator
abbrev pub code_of : Operator → ℕ
code_of plain.True = 0
code_of plain.False = 1
code_of plain.Not = 2
code_of plain.And = 3
code_of plain.Or = 4
code_of plain.Xor = 5
code_of plain.Implies = 6
code_of plain.Ite = 7
code_of plain.Equal = 8
code_of plain.Bvnot = 9
code_of plain.Bvneg = 10
code_of plain.Bvadd = 11
code_of plain.Bvsub = 12
code_of plain.Bvmul = 13
code_of plain.Bvand = 14
code_of plain.Bvor = 15
code_of plain.Bvxor = 16
code_of plain.Bvnand = 17
code_of plain.Bvnor = 18
code_of plain.Bvxnor = 19
code_of plain.Bvudiv = 20
code_of plain.Bvurem = 21
code_of plain.Bvsdiv = 22
code_of plain.Bvsrem = 23
code_of plain.Bvsmod = 24
code_of plain.Bvshl = 25
code_of plain.Bvlshr = 26
code_of plain.Bvashr = 27
code_of plain.Bvult = 28
code_of plain.Bvule = 29
code_of plain.Bvugt = 30
code_of plain.Bvuge = 31
code_of plain.Bvslt = 32
code_of plain.Bvsle = 33
code_of plain.Bvsgt = 34
code_of plain.Bvsge = 35
code_of plain.Bvcomp = 36
code_of plain.Concat = 37
code_of plain.Select = 38
code_of plain.Store = 39
code_of plain.Witness = 40

-- the operators by their numbers
abbrev operators : List Operator
operators =
    plain.True ∷
    plain.False ∷
    plain.Not ∷
    plain.And ∷
    plain.Or ∷
    plain.Xor ∷
    plain.Implies ∷
    plain.Ite ∷
    plain.Equal ∷
    plain.Bvnot ∷
    plain.Bvneg ∷
    plain.Bvadd ∷
    plain.Bvsub ∷
    plain.Bvmul ∷
    plain.Bvand ∷
    plain.Bvor ∷
    plain.Bvxor ∷
    plain.Bvnand ∷
    plain.Bvnor ∷
    plain.Bvxnor ∷
    plain.Bvudiv ∷
    plain.Bvurem ∷
    plain.Bvsdiv ∷
    plain.Bvsrem ∷
    plain.Bvsmod ∷
    plain.Bvshl ∷
    plain.Bvlshr ∷
    plain.Bvashr ∷
    plain.Bvult ∷
    plain.Bvule ∷
    plain.Bvugt ∷
    plain.Bvuge ∷
    plain.Bvslt ∷
    plain.Bvsle ∷
    plain.Bvsgt ∷
    plain.Bvsge ∷
    plain.Bvcomp ∷
    plain.Concat ∷
    plain.Select ∷
    plain.Store ∷
    plain.Witness ∷
    []

abbrev operator_at : ℕ → Operator
operator_at n = slice_index_or operators n plain.True

operator_back : (a : Operator) → operator_at (code_of a) ≡ a
operator_back plain.True = refl
operator_back plain.False = refl
operator_back plain.Not = refl
operator_back plain.And = refl
operator_back plain.Or = refl
operator_back plain.Xor = refl
operator_back plain.Implies = refl
operator_back plain.Ite = refl
operator_back plain.Equal = refl
operator_back plain.Bvnot = refl
operator_back plain.Bvneg = refl
operator_back plain.Bvadd = refl
operator_back plain.Bvsub = refl
operator_back plain.Bvmul = refl
operator_back plain.Bvand = refl
operator_back plain.Bvor = refl
operator_back plain.Bvxor = refl
operator_back plain.Bvnand = refl
operator_back plain.Bvnor = refl
operator_back plain.Bvxnor = refl
operator_back plain.Bvudiv = refl
operator_back plain.Bvurem = refl
operator_back plain.Bvsdiv = refl
operator_back plain.Bvsrem = refl
operator_back plain.Bvsmod = refl
operator_back plain.Bvshl = refl
operator_back plain.Bvlshr = refl
operator_back plain.Bvashr = refl
operator_back plain.Bvult = refl
operator_back plain.Bvule = refl
operator_back plain.Bvugt = refl
operator_back plain.Bvuge = refl
operator_back plain.Bvslt = refl
operator_back plain.Bvsle = refl
operator_back plain.Bvsgt = refl
operator_back plain.Bvsge = refl
operator_back plain.Bvcomp = refl
operator_back plain.Concat = refl
operator_back plain.Select = refl
operator_back plain.Store = refl
operator_back plain.Witness = refl

abbrev pub same_operator : Operator → Operator → Bool
same_operator a b = code_of a == code_of b

pub operator_same : (a b : Operator) → same_operator a b ≡ true → a ≡ b
operator_same a b e = sym (operator_back a) ∙ ap operator_at (eqb-true (code_of a) (code_of b) e) ∙ operator_back b

pub operator_itself : (a : Operator) → same_operator a a ≡ true
operator_itself a = eq-eqb (code_of a) (code_of a) refl

pub operator_equivalence : IsEquivalence same_operator
operator_equivalence = equivalence_by same_operator operator_same operator_itself

-- what a hash reads
abbrev pub operator_input : Operator → List (List ℕ)
operator_input a = fed.u8 (code_of a)

pub operator_respects : (a b : Operator) → IsTrue (same_operator a b) → operator_input a ≡ operator_input b
operator_respects a b e = ap operator_input (operator_same a b e)
