-- An operator whose arguments may be exchanged has two.
use Rattle.std.proofs.Common.{◌≡◌, ℕ, ◌<◌, Bool, true, false, List, [], ◌∷◌, length, map, Some, Result, Ok, Err, refl, arith}
use Rattle.std.specs.Prelude.{if◌then◌else◌, Contains, slice_index_or}
use Rattle.std.proofs.lemmas.List.{length-map}
use Rattle.smt_terms.specs.declared.sort.Sort.{Sort}
use Rattle.smt_terms.specs.declared.operator.Operator.{Operator}
use Rattle.smt_terms.specs.declared.operator.Operator.TheVariants as plain
use Rattle.smt_terms.specs.declared.node.Op.{Op}
use Rattle.smt_terms.specs.declared.node.Op.TheVariants.{Plain}
use Rattle.smt_terms.specs.declared.node.Node.{Node}
use Rattle.smt_terms.specs.declared.rank.Demand.{Demand}
use Rattle.smt_terms.specs.declared.rank.Demand.TheVariants.{AnyWord, Exactly}
use Rattle.smt_terms.specs.declared.sort.Sort.TheVariants as sort
use Rattle.smt_terms.specs.declared.fault.MakeFault.{MakeFault}
use Rattle.smt_terms.specs.declared.fault.MakeFault.TheVariants.{WrongSort}
use Rattle.smt_terms.specs.Nodes.{node_at}
use Rattle.smt_terms.specs.Ranks.{allows, ranked, truth, Rank, Gives, Takes}
use Rattle.smt_terms.specs.Terms.{op_rank, sort_of, IsTerm}
use Rattle.bv_rules.specs.Arguments.{commutes_in}
use Rattle.bv_rules.specs.Reading.{commutes, op_at, arg}

two_needed : (d : Demand) (e : Sort → Demand) (g : Sort → Sort → Rank) (ss : List Sort) (s : Sort) → ranked (Takes d λ p. Takes (e p) λ q. g p q) 0 (map Some ss) ≡ Ok s → 1 < length ss
two_needed d e g [] s r = let z : ⊥ = cc in absurd z
two_needed d e g (p ∷ []) s r = absurd (go (allows d p) r) where
  go : (b : Bool) → (let one : Result Sort MakeFault = Err (WrongSort 1) in let none : Result Sort MakeFault = Err (WrongSort 0) in (if b then one else none) ≡ Ok s) → ⊥
  go true r = let z : ⊥ = cc in z
  go false r = let z : ⊥ = cc in z
two_needed d e g (p ∷ q ∷ ss) s r = omega arith

two_by_operator : (o : Operator) (ss : List Sort) (s : Sort) → commutes o ≡ true → op_rank (Plain o) ss ≡ Ok s → 1 < length ss
two_by_operator plain.Bvand ss s c r = two_needed AnyWord (λ p. Exactly p) (λ p q. Gives (Ok p)) ss s r
two_by_operator plain.Bvor ss s c r = two_needed AnyWord (λ p. Exactly p) (λ p q. Gives (Ok p)) ss s r
two_by_operator plain.Bvxor ss s c r = two_needed AnyWord (λ p. Exactly p) (λ p q. Gives (Ok p)) ss s r
two_by_operator plain.Bvadd ss s c r = two_needed AnyWord (λ p. Exactly p) (λ p q. Gives (Ok p)) ss s r
two_by_operator plain.Bvmul ss s c r = two_needed AnyWord (λ p. Exactly p) (λ p q. Gives (Ok p)) ss s r
two_by_operator plain.And ss s c r = two_needed (Exactly sort.Bool) (λ p. Exactly sort.Bool) (λ p q. Gives truth) ss s r
two_by_operator plain.Or ss s c r = two_needed (Exactly sort.Bool) (λ p. Exactly sort.Bool) (λ p q. Gives truth) ss s r
two_by_operator _ ss s c r = let z : ⊥ = cc in absurd z

two_by_op : (o : Op) (ss : List Sort) (s : Sort) → commutes_in o ≡ true → op_rank o ss ≡ Ok s → 1 < length ss
two_by_op (Plain o) ss s c r = two_by_operator o ss s c r
two_by_op _ ss s c r = let z : ⊥ = cc in absurd z

pub two_arguments : (nodes : List Node) (t : ℕ) → IsTerm nodes t → commutes_in (op_at nodes t) ≡ true → Contains (node_at nodes t).args (arg nodes 0 t) × Contains (node_at nodes t).args (arg nodes 1 t)
two_arguments nodes t h c =
    let args = (node_at nodes t).args in
    let two : 1 < length (map (sort_of nodes) args) = two_by_op (op_at nodes t) (map (sort_of nodes) args) (sort_of nodes t) c h.rank in
    let same = length-map args (sort_of nodes) in
    two_of args (omega (arith, two, same))
  where
    two_of : (args : List ℕ) → 1 < length args → Contains args (slice_index_or args 0 0) × Contains args (slice_index_or args 1 0)
    two_of [] lt = absurd (omega (arith, lt))
    two_of (a ∷ []) lt = absurd (omega (arith, lt))
    two_of (a ∷ b ∷ rest) lt = ((0, omega arith, refl), (1, omega arith, refl))
