-- An operator of the theories takes three arguments at most.
use Rattle.std.proofs.Common.{ℕ, zero, suc, ◌<◌, Bool, true, false, List, [], ◌∷◌, length, refl, arith, Option, Some, None, Err}
use Rattle.std.specs.Prelude.{IsErr, if◌then◌else◌, map}
use Rattle.std.proofs.lemmas.List.{length-map}
use Rattle.smt_terms.specs.declared.sort.Sort.{Sort}
use Rattle.smt_terms.specs.declared.operator.Operator.{Operator}
use Rattle.smt_terms.specs.declared.operator.Operator.TheVariants as plain
use Rattle.smt_terms.specs.declared.node.Op.TheVariants.{Plain}
use Rattle.smt_terms.specs.declared.fault.MakeFault.TheVariants.{WrongSort}
use Rattle.smt_terms.specs.Ranks.{Rank, Gives, Takes, allows, ranked, operator_rank}
use Rattle.smt_terms.specs.Terms.{op_rank}

-- a rank takes so many arguments at most
abbrev pub AtMost : ℕ → Rank → Type 0
AtMost n (Gives r) = Unit {0}
AtMost zero (Takes d next) = ⊥
AtMost (suc n) (Takes d next) = (s : Sort) → AtMost n (next s)

pub too_many : (n : ℕ) (r : Rank) → AtMost n r → (k : ℕ) (args : List (Option Sort)) → n < length args → IsErr (ranked r k args)
too_many n r h k [] lt = absurd (omega arith)
too_many n (Gives r) h k (a ∷ args) lt = refl
too_many zero (Takes d next) h k (a ∷ args) lt = absurd h
too_many (suc n) (Takes d next) h k (None ∷ args) lt = refl
too_many (suc n) (Takes d next) h k (Some s ∷ args) lt = go (allows d s) (too_many n (next s) (h s) (suc k) args (omega arith)) where
  go : (b : Bool) → IsErr (ranked (next s) (suc k) args) → IsErr (if b then ranked (next s) (suc k) args else Err (WrongSort k))
  go true ih = ih
  go false ih = refl

operator_arity : (o : Operator) → AtMost 3 (operator_rank o)
operator_arity plain.True = tt
operator_arity plain.False = tt
operator_arity plain.Not = λ a. tt
operator_arity plain.And = λ a b. tt
operator_arity plain.Or = λ a b. tt
operator_arity plain.Xor = λ a b. tt
operator_arity plain.Implies = λ a b. tt
operator_arity plain.Ite = λ a b c. tt
operator_arity plain.Equal = λ a b. tt
operator_arity plain.Bvnot = λ a. tt
operator_arity plain.Bvneg = λ a. tt
operator_arity plain.Bvadd = λ a b. tt
operator_arity plain.Bvsub = λ a b. tt
operator_arity plain.Bvmul = λ a b. tt
operator_arity plain.Bvand = λ a b. tt
operator_arity plain.Bvor = λ a b. tt
operator_arity plain.Bvxor = λ a b. tt
operator_arity plain.Bvnand = λ a b. tt
operator_arity plain.Bvnor = λ a b. tt
operator_arity plain.Bvxnor = λ a b. tt
operator_arity plain.Bvudiv = λ a b. tt
operator_arity plain.Bvurem = λ a b. tt
operator_arity plain.Bvsdiv = λ a b. tt
operator_arity plain.Bvsrem = λ a b. tt
operator_arity plain.Bvsmod = λ a b. tt
operator_arity plain.Bvshl = λ a b. tt
operator_arity plain.Bvlshr = λ a b. tt
operator_arity plain.Bvashr = λ a b. tt
operator_arity plain.Bvult = λ a b. tt
operator_arity plain.Bvule = λ a b. tt
operator_arity plain.Bvugt = λ a b. tt
operator_arity plain.Bvuge = λ a b. tt
operator_arity plain.Bvslt = λ a b. tt
operator_arity plain.Bvsle = λ a b. tt
operator_arity plain.Bvsgt = λ a b. tt
operator_arity plain.Bvsge = λ a b. tt
operator_arity plain.Bvcomp = λ a b. tt
operator_arity plain.Concat = λ a b. tt
operator_arity plain.Select = λ a b. tt
operator_arity plain.Store = λ a b c. tt
operator_arity plain.Witness = λ a b. tt

pub four_are_too_many : (o : Operator) (ss : List Sort) → 3 < length ss → IsErr (op_rank (Plain o) ss)
four_are_too_many o ss lt = too_many 3 (operator_rank o) (operator_arity o) 0 (map Some ss) (omega (arith, length-map ss Some))
