-- The value of a term over the live declarations depends on these alone.
use Rattle.std.proofs.Common.{◌≡◌, ℕ, zero, suc, ◌<◌, true, List, [], ◌∷◌, map, refl, sym, ap, ◌∙◌, arith}
use Rattle.std.proofs.lemmas.Bool.{and_parts}
use Rattle.std.specs.List.{list_all, AllByRecursion}
use Rattle.smt_terms.specs.declared.sort.Signature.{Signature}
use Rattle.smt_terms.specs.declared.node.Op.{Op}
use Rattle.smt_terms.specs.declared.node.Op.TheVariants.{Plain, Word, Extract, ZeroExtend, SignExtend, RotateLeft, RotateRight, Repeat, ConstantArray, Constant, Apply, Param}
use Rattle.smt_terms.specs.declared.node.Node.{Node}
use Rattle.smt_terms.specs.Nodes.{node_at}
use Rattle.smt_terms.specs.Terms.{IsTermList, declaration_of}
use Rattle.smt_terms.specs.Values.{Value, Interpretation, no_value, read_at, applied, collected, op_value, value}
use Rattle.smt_terms.proofs.Recursion.{same_map, at_term_is}
use Rattle.smt_build.specs.declared.symbols.LiveName.{LiveName}
use Rattle.smt_build.specs.Scoped.{is_live, names_live, is_over}
use Rattle.smt_build.proofs.Reaching.{earlier}
use Rattle.smt_build.proofs.Scoped.{over_node, scripted_names}

-- two interpretations agree on the live declarations
pub record AgreeOn (live : List LiveName) (M N : Interpretation) : Type 0 where
  pub constants : (d : ℕ) → is_live live d ≡ true → M.constants d ≡ N.constants d
  pub functions : (d : ℕ) (vs : List Value) → is_live live d ≡ true → M.functions d vs ≡ N.functions d vs

module _ (live : List LiveName) (M N : Interpretation) (agree : AgreeOn live M N) where
  function_same : (s : Signature) (vs : List Value) (f g : List Value → Value) → ((xs : List Value) → f xs ≡ g xs) → applied (collected s.args (λ xs. read_at s.value (f xs))) vs ≡ applied (collected s.args (λ xs. read_at s.value (g xs))) vs
  function_same s vs f g same = λ i. applied (collected s.args (λ xs. read_at s.value (same xs i))) vs

  op_same : (op : Op) (vs : List Value) → names_live live (declaration_of op) ≡ true → op_value M op vs ≡ op_value N op vs
  op_same (Plain o) vs h = refl
  op_same (Word n x) vs h = refl
  op_same (Extract i j) vs h = refl
  op_same (ZeroExtend i) vs h = refl
  op_same (SignExtend i) vs h = refl
  op_same (RotateLeft i) vs h = refl
  op_same (RotateRight i) vs h = refl
  op_same (Repeat i) vs h = refl
  op_same (ConstantArray k) vs h = refl
  op_same (Constant d s) vs h = ap (read_at s) (agree.constants d h)
  op_same (Apply d s) vs h = function_same s vs (M.functions d) (N.functions d) (λ xs. agree.functions d xs h)
  op_same (Param k s) vs h = refl

  -- the arguments of a term over the live declarations are too
  args_over : (nodes : List Node) (n : ℕ) (args : List ℕ) → AllByRecursion (λ a. a < n) args → list_all (is_over live nodes) args ≡ true → AllByRecursion (λ a. (a < n) × (is_over live nodes a ≡ true)) args
  args_over nodes n [] h k = tt
  args_over nodes n (a ∷ args) h k = let p = and_parts (is_over live nodes a) (list_all (is_over live nodes) args) k in ((h.0, p.0), args_over nodes n args h.1 p.1)

  module _ (nodes : List Node) (list : IsTermList nodes) where
    value_upto : (n t : ℕ) → t < n → is_over live nodes t ≡ true → value M nodes t ≡ value N nodes t
    value_upto zero t lt h = absurd (omega arith)
    value_upto (suc n) t lt h =
        let p = over_node live nodes list t h in
        let args = args_over nodes t (node_at nodes t).args (earlier nodes list t) p.1 in
        at_term_is no_value (λ u. op_value M) nodes t (earlier nodes list t)
        ∙ op_same (node_at nodes t).op (map (value M nodes) (node_at nodes t).args) (scripted_names live (node_at nodes t).op p.0)
        ∙ ap (op_value N (node_at nodes t).op) (same_map (λ a. (a < t) × (is_over live nodes a ≡ true)) (value M nodes) (value N nodes) (λ a k. value_upto n a (omega (arith, k.0, lt)) k.1) (node_at nodes t).args args)
        ∙ sym (at_term_is no_value (λ u. op_value N) nodes t (earlier nodes list t))

    pub value_is_over : (t : ℕ) → is_over live nodes t ≡ true → value M nodes t ≡ value N nodes t
    value_is_over t h = value_upto (suc t) t (omega arith) h
