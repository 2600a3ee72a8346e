-- The operators that scripts name, and the names that nothing is declared with.
use Rattle.std.specs.Prelude.{ℕ, Bool, ◌||◌, List, [], ◌∷◌, codes, is_some, Option, Some, None, if◌then◌else◌}
use Rattle.std.specs.Str.{bytes_eq}
use Rattle.smt_text.specs.Lexicon.{reserved_kind}
use Rattle.smt_terms.specs.declared.operator.Operator.TheVariants.{True, False, Not, And, Or, Xor, Implies, Ite, Equal, Bvnot, Bvneg, Bvadd, Bvsub, Bvmul, Bvand, Bvor, Bvxor, Bvnand, Bvnor, Bvxnor, Bvudiv, Bvurem, Bvsdiv, Bvsrem, Bvsmod, Bvshl, Bvlshr, Bvashr, Bvult, Bvule, Bvugt, Bvuge, Bvslt, Bvsle, Bvsgt, Bvsge, Bvcomp, Concat, Select, Store}
use Rattle.smt_build.specs.declared.operators.Arity.TheVariants.{Ranked, LeftAssociative, RightAssociative, Chainable, Pairwise, Joining}
use Rattle.smt_build.specs.declared.operators.Family.TheVariants as family
use Rattle.smt_build.specs.declared.operators.Named.{Named}
use Rattle.smt_build.specs.declared.operators.Named.TheVariants.{Applies, Indexed}

-- the operators of Core, FixedSizeBitVectors and ArraysEx, a line for each name
abbrev pub operators : List (List ℕ × Named)
operators =
    (codes "true", Applies True Ranked)
    ∷ (codes "false", Applies False Ranked)
    ∷ (codes "not", Applies Not Ranked)
    ∷ (codes "and", Applies And LeftAssociative)
    ∷ (codes "or", Applies Or LeftAssociative)
    ∷ (codes "xor", Applies Xor LeftAssociative)
    ∷ (codes "=>", Applies Implies RightAssociative)
    ∷ (codes "ite", Applies Ite Ranked)
    ∷ (codes "=", Applies Equal Chainable)
    ∷ (codes "distinct", Applies Equal Pairwise)
    ∷ (codes "bvnot", Applies Bvnot Ranked)
    ∷ (codes "bvneg", Applies Bvneg Ranked)
    ∷ (codes "bvadd", Applies Bvadd LeftAssociative)
    ∷ (codes "bvsub", Applies Bvsub Ranked)
    ∷ (codes "bvmul", Applies Bvmul LeftAssociative)
    ∷ (codes "bvand", Applies Bvand LeftAssociative)
    ∷ (codes "bvor", Applies Bvor LeftAssociative)
    ∷ (codes "bvxor", Applies Bvxor LeftAssociative)
    ∷ (codes "bvnand", Applies Bvnand Ranked)
    ∷ (codes "bvnor", Applies Bvnor Ranked)
    ∷ (codes "bvxnor", Applies Bvxnor Ranked)
    ∷ (codes "bvudiv", Applies Bvudiv Ranked)
    ∷ (codes "bvurem", Applies Bvurem Ranked)
    ∷ (codes "bvsdiv", Applies Bvsdiv Ranked)
    ∷ (codes "bvsrem", Applies Bvsrem Ranked)
    ∷ (codes "bvsmod", Applies Bvsmod Ranked)
    ∷ (codes "bvshl", Applies Bvshl Ranked)
    ∷ (codes "bvlshr", Applies Bvlshr Ranked)
    ∷ (codes "bvashr", Applies Bvashr Ranked)
    ∷ (codes "bvult", Applies Bvult Ranked)
    ∷ (codes "bvule", Applies Bvule Ranked)
    ∷ (codes "bvugt", Applies Bvugt Ranked)
    ∷ (codes "bvuge", Applies Bvuge Ranked)
    ∷ (codes "bvslt", Applies Bvslt Ranked)
    ∷ (codes "bvsle", Applies Bvsle Ranked)
    ∷ (codes "bvsgt", Applies Bvsgt Ranked)
    ∷ (codes "bvsge", Applies Bvsge Ranked)
    ∷ (codes "bvcomp", Applies Bvcomp Ranked)
    ∷ (codes "concat", Applies Concat Joining)
    ∷ (codes "extract", Indexed family.Extract)
    ∷ (codes "zero_extend", Indexed family.ZeroExtend)
    ∷ (codes "sign_extend", Indexed family.SignExtend)
    ∷ (codes "rotate_left", Indexed family.RotateLeft)
    ∷ (codes "rotate_right", Indexed family.RotateRight)
    ∷ (codes "repeat", Indexed family.Repeat)
    ∷ (codes "select", Applies Select Ranked)
    ∷ (codes "store", Applies Store Ranked)
    ∷ []

abbrev pub look_up : List (List ℕ × Named) → List ℕ → Option Named
look_up [] name = None
look_up (entry ∷ entries) name = if bytes_eq name entry.0 then Some entry.1 else look_up entries name

-- what the name of an operator stands for; nothing for any other name
unfoldable pub operator_named : List ℕ → Option Named
operator_named = look_up operators

-- nothing is declared with a reserved word or an operator's name
unfoldable pub is_reserved : List ℕ → Bool
is_reserved name = is_some (reserved_kind name) || is_some (operator_named name)
