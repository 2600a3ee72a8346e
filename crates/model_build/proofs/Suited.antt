-- Terms may be evaluated in a well-sorted interpretation.
use Rattle.std.proofs.Common.{◌≡◌, ℕ, List, Option, Some, None, refl, sym, ap, ◌∙◌, subst}
use Rattle.smt_terms.specs.declared.sort.Sort.{Sort}
use Rattle.smt_terms.specs.declared.sort.Sort.TheVariants as sort
use Rattle.smt_terms.specs.declared.node.Op.{Op}
use Rattle.smt_terms.specs.declared.node.Op.TheVariants as op
use Rattle.smt_terms.specs.Nodes.{node_at}
use Rattle.smt_terms.specs.Bits.{TermBits}
use Rattle.smt_terms.specs.Terms.{declaration_of, signature_of, constant_signature, TermsValue, AreTerms}
use Rattle.smt_values.specs.declared.value.Value.{Value}
use Rattle.smt_values.specs.declared.value.Value.TheVariants as held
use Rattle.smt_values.specs.Held.{set_for, Suits}
use Rattle.smt_eval.specs.Evaluated.{IsSuited, AreSuited}
use Rattle.model_build.specs.Sorted.{IsValueOf, IsOfSignature, IsWellSorted}

-- a value of the sort suits it
suits_of : (q : Sort) (o : Option Value) → ((w : Value) → o ≡ Some w → IsValueOf q w) → Suits q o
suits_of sort.Bool o h = tt
suits_of (sort.Word n) o h = tt
suits_of (sort.Array n m) None h = tt
suits_of (sort.Array n m) (Some (held.Bool b)) h = tt
suits_of (sort.Array n m) (Some (held.Word w)) h = tt
suits_of (sort.Array n m) (Some (held.Fun t)) h = tt
suits_of (sort.Array n m) (Some (held.Array a)) h =
    let widths : sort.Array n m ≡ sort.Array a.index a.default.width = (h (held.Array a) refl).0 in
    let p : a.index ≡ n = cc in
    let q : a.default.width ≡ m = cc in
    (p, q)

module _ (v : TermsValue) (terms : AreTerms v) (bits : List TermBits) (ts : List ℕ) (values : List (Option Value)) (sorted : IsWellSorted v.nodes bits ts values) where
  -- what is set for the declaration of a constant is a value of its sort
  constant_value : (t d : ℕ) (q : Sort) → (node_at v.nodes t).op ≡ op.Constant d q → (w : Value) → set_for values d ≡ Some w → IsValueOf q w
  constant_value t d q e w at =
      let named = sorted.only d w at in
      let has = sorted.valued named.0 d named.1 named.2 in
      let both : Some has.0 ≡ Some w = sym has.1 ∙ at in
      let same : has.0 ≡ w = cc in
      let signature : signature_of (node_at v.nodes named.0).op ≡ constant_signature q = terms.declared t named.0 d named.2 (ap declaration_of e) ∙ ap signature_of e in
      subst (IsValueOf q) same (subst (λ g. IsOfSignature g has.0) signature has.2)

  suited_op : (t : ℕ) (o : Op) → (node_at v.nodes t).op ≡ o → IsSuited o values
  suited_op t (op.Plain o) e = tt
  suited_op t (op.Word n x) e = tt
  suited_op t (op.Extract i j) e = tt
  suited_op t (op.ZeroExtend i) e = tt
  suited_op t (op.SignExtend i) e = tt
  suited_op t (op.RotateLeft i) e = tt
  suited_op t (op.RotateRight i) e = tt
  suited_op t (op.Repeat i) e = tt
  suited_op t (op.ConstantArray k) e = tt
  suited_op t (op.Constant d q) e = suits_of q (set_for values d) (constant_value t d q e)
  suited_op t (op.Apply d g) e = tt
  suited_op t (op.Param k s) e = tt

  pub suited : AreSuited v.nodes values
  suited t lt = suited_op t (node_at v.nodes t).op refl
