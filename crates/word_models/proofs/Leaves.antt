-- What the step of a leaf at a position tells of its term.
use Rattle.std.proofs.Common.{◌≡◌, ℕ, zero, suc, ◌<◌, Bool, List, length, Option, Some, refl, sym, ap, ◌∙◌, subst}
use Rattle.std.specs.Prelude.{IsSome, is_some}
use Rattle.std.specs.BTreeMap.{BTreeMap}
use Rattle.cnf_base.specs.Literals.{Literal}
use Rattle.cnf_base.proofs.Options.{same_found}
use Rattle.smt_terms.specs.declared.sort.Sort.{Sort}
use Rattle.smt_terms.specs.declared.sort.Sort.TheVariants as sort
use Rattle.smt_terms.specs.declared.node.Op.TheVariants.{Constant}
use Rattle.smt_terms.specs.declared.node.Node.{Node}
use Rattle.smt_terms.specs.Nodes.{node_at}
use Rattle.smt_terms.specs.Terms.{TermsValue, IsTermList, AreTerms, IsSort}
use Rattle.smt_terms.specs.Bits.{bits_in}
use Rattle.smt_terms.proofs.Widths.{sort_bounded}
use Rattle.bit_blast.specs.Meanings.{AreBitsOf}
use Rattle.smt_values.specs.declared.value.Value.{Value}
use Rattle.smt_values.specs.Held.{meaning}
use Rattle.proof_log.specs.declared.entry.Entry.{Entry}
use Rattle.proof_log.specs.declared.entry.Entry.TheVariants as step
use Rattle.proof_log.specs.Logs.{plain_width, constant_width, entry_at}
use Rattle.proof_log.specs.Stored.{LogValue, Stands}
use Rattle.proof_log.proofs.Settled.{stands_settled}
use Rattle.proof_log.proofs.Standing.{stands_over}
use Rattle.reached_steps.proofs.Steps.{leaf_step}
use Rattle.smt_terms.specs.Values.{Interpretation}
use Rattle.word_models.specs.Models.{interpretation_of, HasItsBits, IsReadLeaf, KeepsRead}
use Rattle.word_models.proofs.Rows.{IsAsWide}
use Rattle.word_models.proofs.Constants.{constant_term, IsSetFor, set_has, set_keeps}

-- the term is there, and has bits
pub leaf_there : (nodes : List Node) (log : LogValue) (at t : ℕ) → IsTermList nodes → Stands nodes log → entry_at log.entries at ≡ Some (step.Leaf t) → (t < length nodes) × IsSome (bits_in log.bits t)
leaf_there nodes log zero t all stands e = let f : ⊥ = cc in absurd f
leaf_there nodes log (suc p) t all stands e =
    let kept = stands_over nodes log stands in
    let k = leaf_step nodes log.entries all kept.steps p t e in
    (k.term, ap is_some (kept.bits t ∙ k.bits))

-- its sort is well bounded, and it has as many bits as that has
pub leaf_sorted : (nodes : List Node) (t d : ℕ) (s : Sort) → IsTermList nodes → t < length nodes → (node_at nodes t).op ≡ Constant d s → IsSort s
leaf_sorted nodes t d s all lt own = subst IsSort (constant_term nodes t d s all lt own).1 (sort_bounded nodes all t lt)

pub leaf_wide : (nodes : List Node) (log : LogValue) (t d : ℕ) (s : Sort) (row : List Literal) → IsTermList nodes → Stands nodes log → t < length nodes → (node_at nodes t).op ≡ Constant d s → bits_in log.bits t ≡ Some row → IsAsWide s row
leaf_wide nodes log t d s row all stands lt own has n e =
    let wide : plain_width s ≡ Some (length row) = subst (λ r. plain_width r ≡ Some (length row)) (constant_term nodes t d s all lt own).1 ((stands_settled nodes log all stands).bits t row has).1 in
    same_found (plain_width s) n (length row) e wide

same_leaf : (t u : ℕ) (o : Option Entry) → o ≡ Some (step.Leaf t) → o ≡ Some (step.Leaf u) → t ≡ u
same_leaf t u o e f = let q : step.Leaf t ≡ step.Leaf u = same_found o (step.Leaf t) (step.Leaf u) e f in cc

-- the leaf is read where its term has its bits
pub leaf_read : (M : Interpretation) (nodes : List Node) (log : LogValue) (v : ℕ → Bool) (at t : ℕ) → entry_at log.entries at ≡ Some (step.Leaf t) → IsSome (constant_width (node_at nodes t).op) → HasItsBits M nodes log v t → IsReadLeaf M nodes log v at
leaf_read M nodes log v at t e width has u f =
    let same : t ≡ u = same_leaf t u (entry_at log.entries at) e f in
    subst (λ x. IsSome (constant_width (node_at nodes x).op) × HasItsBits M nodes log v x) same (width, has)

-- a sort of which bits are a value has a width
pub has_width : (v : ℕ → Bool) (s : Sort) (row : List Literal) (x : Value) → AreBitsOf v s row (meaning x) → IsSome (plain_width s)
has_width v sort.Bool row x h = refl
has_width v (sort.Word n) row x h = refl
has_width v (sort.Array n m) row x h = absurd h

-- The leaf of a declared constant with these bits is read where the constant gets the value that they have, and what was read before
-- stays so.
module _ (v : TermsValue) (log : LogValue) (f : ℕ → Bool) (at t d : ℕ) (s : Sort) (terms : AreTerms v) (stands : Stands v.nodes log) (there : entry_at log.entries at ≡ Some (step.Leaf t)) (own : (node_at v.nodes t).op ≡ Constant d s)
    (row : List Literal) (has : bits_in log.bits t ≡ Some row) (x : Value) (are : AreBitsOf f s row (meaning x)) (old new : BTreeMap ℕ Value) (set : IsSetFor d x old new) where
  within : t < length v.nodes
  within = (leaf_there v.nodes log at t terms.list stands there).0

  pub now_read : IsReadLeaf (interpretation_of new) v.nodes log f at
  now_read =
      leaf_read (interpretation_of new) v.nodes log f at t there (subst (λ o. IsSome (constant_width o)) (sym own) (has_width f s row x are))
      (set_has v log f terms stands t d s own within row has x are old new set)

  pub still_read : KeepsRead v.nodes log f (interpretation_of old) (interpretation_of new)
  still_read = set_keeps v log f terms stands t d s own within row has x are old new set
