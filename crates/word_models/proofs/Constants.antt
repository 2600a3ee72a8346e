-- Declared constants, and their values where a declaration is given one.
use Rattle.std.proofs.Common.{◌≡◌, ℕ, ◌<◌, Bool, true, false, List, [], ◌∷◌, length, map, Option, Some, Ok, refl, sym, ap, ◌∙◌, subst}
use Rattle.std.specs.Prelude.{◌==◌, cond, IsSome}
use Rattle.std.specs.BTreeMap.{BTreeMap, get}
use Rattle.std.specs.Ordering.{nat_cmp, is_eq}
use Rattle.std.specs.Cmp.{unsigned_tied}
use Rattle.std.proofs.lemmas.Bool.{eqb-true, eq-eqb}
use Rattle.cnf_base.specs.Literals.{Literal}
use Rattle.cnf_base.proofs.Options.{same_found}
use Rattle.smt_terms.specs.declared.sort.Sort.{Sort}
use Rattle.smt_terms.specs.declared.sort.Signature.{Signature}
use Rattle.smt_terms.specs.declared.node.Op.{Op}
use Rattle.smt_terms.specs.declared.node.Op.TheVariants.{Plain, Word, Extract, ZeroExtend, SignExtend, RotateLeft, RotateRight, Repeat, ConstantArray, Constant, Apply, Param}
use Rattle.smt_terms.specs.declared.node.Node.{Node}
use Rattle.smt_terms.specs.Nodes.{leaf, node_at}
use Rattle.smt_terms.specs.Terms.{TermsValue, IsTermList, AreTerms, op_rank, sort_of, declaration_of, signature_of}
use Rattle.smt_terms.specs.Values as of
use Rattle.smt_terms.specs.Values.{Interpretation, read_at, value}
use Rattle.smt_terms.specs.Bits.{bits_in}
use Rattle.smt_terms.proofs.Typing.{constant_sort_ok, value_is}
use Rattle.bit_blast.specs.Meanings.{AreBitsOf}
use Rattle.smt_values.specs.declared.value.Value.{Value}
use Rattle.smt_values.specs.Held.{meaning, constant_of}
use Rattle.proof_log.specs.Logs.{constant_width}
use Rattle.proof_log.specs.Stored.{LogValue, Stands}
use Rattle.proof_log.proofs.Settled.{stands_settled}
use Rattle.word_models.specs.Models.{interpretation_of, HasItsBits, KeepsRead}
use Rattle.word_models.proofs.Rows.{read_same}

-- ---- the term of a declared constant

-- an operator with the width of a declared Bool or word is one of a constant
pub constant_by : (o : Op) → IsSome (constant_width o) → (d : ℕ) × (s : Sort) × (o ≡ Constant d s)
constant_by (Constant d s) h = (d, s, refl)
constant_by (Plain o) h = let f : ⊥ = cc in absurd f
constant_by (Word n x) h = let f : ⊥ = cc in absurd f
constant_by (Extract i j) h = let f : ⊥ = cc in absurd f
constant_by (ZeroExtend i) h = let f : ⊥ = cc in absurd f
constant_by (SignExtend i) h = let f : ⊥ = cc in absurd f
constant_by (RotateLeft i) h = let f : ⊥ = cc in absurd f
constant_by (RotateRight i) h = let f : ⊥ = cc in absurd f
constant_by (Repeat i) h = let f : ⊥ = cc in absurd f
constant_by (ConstantArray k) h = let f : ⊥ = cc in absurd f
constant_by (Apply d g) h = let f : ⊥ = cc in absurd f
constant_by (Param k s) h = let f : ⊥ = cc in absurd f

constant_rank : (d : ℕ) (s r : Sort) (ss : List Sort) → op_rank (Constant d s) ss ≡ Ok r → (ss ≡ []) × (s ≡ r)
constant_rank d s r [] e = (refl, constant_sort_ok s r e)
constant_rank d s r (x ∷ ss) e = let q : ⊥ = cc in absurd q

no_items : {A B : Type 0} (f : A → B) (xs : List A) → map f xs ≡ [] → xs ≡ []
no_items f [] e = refl
no_items f (x ∷ xs) e = let q : ⊥ = cc in absurd q

node_parts : (n : Node) (o : Op) → n.op ≡ o → n.args ≡ [] → n ≡ leaf o
node_parts n o e f = λ i. record { op = e i; args = f i }

-- it has the constant's sort and no arguments
pub constant_term : (nodes : List Node) (t d : ℕ) (s : Sort) → IsTermList nodes → t < length nodes → (node_at nodes t).op ≡ Constant d s → (node_at nodes t ≡ leaf (Constant d s)) × (sort_of nodes t ≡ s)
constant_term nodes t d s all lt e =
    let r = constant_rank d s (sort_of nodes t) (map (sort_of nodes) (node_at nodes t).args) (subst (λ o. op_rank o (map (sort_of nodes) (node_at nodes t).args) ≡ Ok (sort_of nodes t)) e (all t lt).rank) in
    (node_parts (node_at nodes t) (Constant d s) e (no_items (sort_of nodes) (node_at nodes t).args r.0), sym r.1)

-- its value is that of its declaration
constant_value : (M : Interpretation) (nodes : List Node) (t d : ℕ) (s : Sort) → IsTermList nodes → t < length nodes → (node_at nodes t).op ≡ Constant d s → value M nodes t ≡ read_at s (M.constants d)
constant_value M nodes t d s all lt e = value_is M nodes t (all t lt) ∙ ap (λ o. of.op_value M o (map (value M nodes) (node_at nodes t).args)) e

same_sorts : (d e : ℕ) (s r : Sort) → signature_of (Constant d s) ≡ signature_of (Constant e r) → s ≡ r
same_sorts d e s r q = ap (λ (g : Signature). g.value) q

-- a declaration has one term
same_term : (v : TermsValue) (t u d : ℕ) (s r : Sort) → AreTerms v → t < length v.nodes → u < length v.nodes → (node_at v.nodes t).op ≡ Constant d s → (node_at v.nodes u).op ≡ Constant d r → t ≡ u
same_term v t u d s r terms t_in u_in e f =
    let agreed : signature_of (node_at v.nodes t).op ≡ signature_of (node_at v.nodes u).op = terms.declared u t d (ap declaration_of e) (ap declaration_of f) in
    let sorts : s ≡ r = same_sorts d d s r (sym (ap signature_of e) ∙ agreed ∙ ap signature_of f) in
    terms.different t u t_in u_in
    ((constant_term v.nodes t d s terms.list t_in e).0 ∙ ap (λ q. leaf (Constant d q)) sorts ∙ sym (constant_term v.nodes u d r terms.list u_in f).0)

-- ---- one declaration more has a value

-- the value is set for the declaration, and for the others what was
abbrev pub IsSetFor : ℕ → Value → BTreeMap ℕ Value → BTreeMap ℕ Value → Type 0
IsSetFor d x old new = (e : ℕ) → get nat_cmp new e ≡ cond (is_eq (nat_cmp d e)) (Some x) (get nat_cmp old e)

set_here : (d : ℕ) (x : Value) (old new : BTreeMap ℕ Value) → IsSetFor d x old new → get nat_cmp new d ≡ Some x
set_here d x old new h = h d ∙ ap (λ b. cond b (Some x) (get nat_cmp old d)) (unsigned_tied d d ∙ eq-eqb d d refl)

module _ (v : TermsValue) (log : LogValue) (f : ℕ → Bool) (terms : AreTerms v) (stands : Stands v.nodes log) (t d : ℕ) (s : Sort) (own : (node_at v.nodes t).op ≡ Constant d s) (within : t < length v.nodes)
    (row : List Literal) (has : bits_in log.bits t ≡ Some row) (x : Value) (are : AreBitsOf f s row (meaning x)) (old new : BTreeMap ℕ Value) (set : IsSetFor d x old new) where
  -- the term of this constant has its bits
  pub set_has : HasItsBits (interpretation_of new) v.nodes log f t
  set_has other e =
      let reads : value (interpretation_of new) v.nodes t ≡ meaning x =
      constant_value (interpretation_of new) v.nodes t d s terms.list within own ∙ ap (λ o. read_at s (constant_of o)) (set_here d x old new set) ∙ read_same f s row (meaning x) are in
      let sorts : sort_of v.nodes t ≡ s = (constant_term v.nodes t d s terms.list within own).1 in
      subst (λ r. AreBitsOf f r other (value (interpretation_of new) v.nodes t)) (sym sorts)
      (subst (AreBitsOf f s other) (sym reads) (subst (λ (b : List Literal). AreBitsOf f s b (meaning x)) (same_found (bits_in log.bits t) row other has e) are))

  -- so have the terms of other constants what they had
  others_have : (u e : ℕ) (r : Sort) → (node_at v.nodes u).op ≡ Constant e r → HasItsBits (interpretation_of old) v.nodes log f u → HasItsBits (interpretation_of new) v.nodes log f u
  others_have u e r is h other q = go (d == e) refl
    where
      inside : u < length v.nodes
      inside = ((stands_settled v.nodes log terms.list stands).bits u other q).0

      go : (b : Bool) → (d == e) ≡ b → AreBitsOf f (sort_of v.nodes u) other (value (interpretation_of new) v.nodes u)
      go true p =
          let same : t ≡ u = same_term v t u d s r terms within inside own (is ∙ ap (λ k. Constant k r) (sym (eqb-true d e p))) in
          (subst (HasItsBits (interpretation_of new) v.nodes log f) same set_has) other q
      go false p =
          let kept : get nat_cmp new e ≡ get nat_cmp old e = set e ∙ ap (λ b. cond b (Some x) (get nat_cmp old e)) (unsigned_tied d e ∙ p) in
          let reads : value (interpretation_of old) v.nodes u ≡ value (interpretation_of new) v.nodes u =
          constant_value (interpretation_of old) v.nodes u e r terms.list inside is ∙ ap (λ o. read_at r (constant_of o)) (sym kept) ∙ sym (constant_value (interpretation_of new) v.nodes u e r terms.list inside is) in
          subst (AreBitsOf f (sort_of v.nodes u) other) reads (h other q)

  pub set_keeps : KeepsRead v.nodes log f (interpretation_of old) (interpretation_of new)
  set_keeps p h u there =
      let k = h u there in
      let c = constant_by (node_at v.nodes u).op k.0 in
      (k.0, others_have u c.0 c.1 c.2 k.1)
