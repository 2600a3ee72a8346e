-- Terms of one declaration.
use Rattle.std.proofs.Common.{◌≡◌, ℕ, ◌<◌, List, [], ◌∷◌, length, refl, sym, ap, ◌∙◌, subst, Some, Ok}
use Rattle.std.specs.Prelude.{map}
use Rattle.smt_terms.specs.declared.sort.Sort.{Sort}
use Rattle.smt_terms.specs.declared.sort.Signature.{Signature}
use Rattle.smt_terms.specs.declared.operator.Operator.TheVariants as plain
use Rattle.smt_terms.specs.declared.node.Op.{Op}
use Rattle.smt_terms.specs.declared.node.Op.TheVariants.{Plain, ConstantArray, Constant, Apply}
use Rattle.smt_terms.specs.declared.node.Node.{Node}
use Rattle.smt_terms.specs.Nodes.{node_of, leaf, node_at}
use Rattle.smt_terms.specs.Ranks.{ranked, application}
use Rattle.smt_terms.specs.Terms.{op_rank, sort_of, declaration_of, signature_of, constant_signature, TermsValue, AreTerms}
use Rattle.theory_terms.specs.declared.shape.Shape.TheVariants.{Applying, Declaring, Other}
use Rattle.theory_terms.specs.Shapes.{shape_of, shape_at}
use Rattle.theory_terms.proofs.Shapes.{shape_within}

pub declaring_op : (op : Op) (args : List ℕ) (d : ℕ) (q : Sort) → shape_of op args ≡ Declaring d q → op ≡ Constant d q
declaring_op (Constant e r) args d q h = let p : e ≡ d = cc in let s : r ≡ q = cc in ap (λ x. Constant x r) p ∙ ap (Constant d) s
declaring_op (Plain plain.Ite) (a ∷ b ∷ c ∷ []) d q h = let f : ⊥ = cc in absurd f
declaring_op (Plain plain.Equal) (a ∷ b ∷ []) d q h = let f : ⊥ = cc in absurd f
declaring_op (Plain plain.Select) (a ∷ b ∷ []) d q h = let f : ⊥ = cc in absurd f
declaring_op (Plain plain.Store) (a ∷ b ∷ c ∷ []) d q h = let f : ⊥ = cc in absurd f
declaring_op (Plain plain.Witness) (a ∷ b ∷ []) d q h = let f : ⊥ = cc in absurd f
declaring_op (ConstantArray k) (a ∷ []) d q h = let f : ⊥ = cc in absurd f
declaring_op op args d q h = let f : ⊥ = cc in absurd f

pub applying_op : (op : Op) (args : List ℕ) (d : ℕ) → shape_of op args ≡ Applying d → (g : Signature) × (op ≡ Apply d g)
applying_op (Apply e g) args d h = let p : e ≡ d = cc in (g, ap (λ x. Apply x g) p)
applying_op (Plain plain.Ite) (a ∷ b ∷ c ∷ []) d h = let f : ⊥ = cc in absurd f
applying_op (Plain plain.Equal) (a ∷ b ∷ []) d h = let f : ⊥ = cc in absurd f
applying_op (Plain plain.Select) (a ∷ b ∷ []) d h = let f : ⊥ = cc in absurd f
applying_op (Plain plain.Store) (a ∷ b ∷ c ∷ []) d h = let f : ⊥ = cc in absurd f
applying_op (Plain plain.Witness) (a ∷ b ∷ []) d h = let f : ⊥ = cc in absurd f
applying_op (ConstantArray k) (a ∷ []) d h = let f : ⊥ = cc in absurd f
applying_op op args d h = let f : ⊥ = cc in absurd f

no_arguments : (d : ℕ) (q : Sort) (s : ℕ → Sort) (args : List ℕ) (r : Sort) → op_rank (Constant d q) (map s args) ≡ Ok r → args ≡ []
no_arguments d q s [] r e = refl
no_arguments d q s (a ∷ args) r e = let f : ⊥ = cc in absurd f

pub some_arguments : (d : ℕ) (g : Signature) (ss : List Sort) (r : Sort) → g.args ≡ [] → op_rank (Apply d g) ss ≡ Ok r → ⊥
some_arguments d g ss r none e = go ss (subst (λ l. ranked (application l g.value) 0 (map Some ss) ≡ Ok r) none e) where
  go : (ss : List Sort) → ranked (application [] g.value) 0 (map Some ss) ≡ Ok r → ⊥
  go [] h = let f : ⊥ = cc in f
  go (s ∷ ss) h = let f : ⊥ = cc in f

node_parts : (n : Node) (op : Op) (args : List ℕ) → n.op ≡ op → n.args ≡ args → n ≡ node_of op args
node_parts n op args p q = ap (λ o. node_of o n.args) p ∙ ap (node_of op) q

module _ (v : TermsValue) (terms : AreTerms v) where
  within_declaring : (t d : ℕ) (q : Sort) → shape_at v.nodes t ≡ Declaring d q → t < length v.nodes
  within_declaring t d q e = shape_within v.nodes t (λ o. let z : Declaring d q ≡ Other = sym e ∙ o in let y : ⊥ = cc in y)

  within_applying : (t d : ℕ) → shape_at v.nodes t ≡ Applying d → t < length v.nodes
  within_applying t d e = shape_within v.nodes t (λ o. let z : Applying d ≡ Other = sym e ∙ o in let y : ⊥ = cc in y)

  node_is : (t d : ℕ) (q : Sort) → shape_at v.nodes t ≡ Declaring d q → node_at v.nodes t ≡ leaf (Constant d q)
  node_is t d q e =
      let op : (node_at v.nodes t).op ≡ Constant d q = declaring_op (node_at v.nodes t).op (node_at v.nodes t).args d q e in
      let rank = (terms.list t (within_declaring t d q e)).rank in
      let rank' : op_rank (Constant d q) (map (sort_of v.nodes) (node_at v.nodes t).args) ≡ Ok (sort_of v.nodes t) = ap (λ o. op_rank o (map (sort_of v.nodes) (node_at v.nodes t).args)) (sym op) ∙ rank in
      node_parts (node_at v.nodes t) (Constant d q) [] op (no_arguments d q (sort_of v.nodes) (node_at v.nodes t).args (sort_of v.nodes t) rank')

  -- a declared constant has one term
  pub one_term : (t u d : ℕ) (q r : Sort) → shape_at v.nodes t ≡ Declaring d q → shape_at v.nodes u ≡ Declaring d r → t ≡ u
  one_term t u d q r e f =
      let p = node_is t d q e in
      let s = node_is u d r f in
      let same : signature_of (node_at v.nodes u).op ≡ signature_of (node_at v.nodes t).op = terms.declared t u d (ap (λ (n : Node). declaration_of n.op) s) (ap (λ (n : Node). declaration_of n.op) p) in
      let both : constant_signature r ≡ constant_signature q = sym (ap (λ (n : Node). signature_of n.op) s) ∙ same ∙ ap (λ (n : Node). signature_of n.op) p in
      let sorts : r ≡ q = ap (λ (g : Signature). g.value) both in
      terms.different t u (within_declaring t d q e) (within_declaring u d r f) (p ∙ sym (s ∙ ap (λ x. leaf (Constant d x)) sorts))

  -- no declaration is that of a constant and of a function
  pub not_both : (t u d : ℕ) (q : Sort) → shape_at v.nodes t ≡ Declaring d q → shape_at v.nodes u ≡ Applying d → ⊥
  not_both t u d q e f =
      let p = node_is t d q e in
      let a = applying_op (node_at v.nodes u).op (node_at v.nodes u).args d f in
      let same : signature_of (node_at v.nodes u).op ≡ signature_of (node_at v.nodes t).op = terms.declared t u d (ap declaration_of a.1) (ap (λ (n : Node). declaration_of n.op) p) in
      let both : a.0 ≡ constant_signature q = sym (ap signature_of a.1) ∙ same ∙ ap (λ (n : Node). signature_of n.op) p in
      let rank = (terms.list u (within_applying u d f)).rank in
      some_arguments d a.0 (map (sort_of v.nodes) (node_at v.nodes u).args) (sort_of v.nodes u) (ap (λ (g : Signature). g.args) both) (ap (λ o. op_rank o (map (sort_of v.nodes) (node_at v.nodes u).args)) (sym a.1) ∙ rank)
