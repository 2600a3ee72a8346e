-- Interpretations that are alike for what is declared give each term alike values.
use Rattle.std.proofs.Common.{◌≡◌, ℕ, zero, suc, ◌<◌, true, List, [], ◌∷◌, length, map, sym, subst, arith}
use Rattle.std.specs.List.{list_all, AllByRecursion}
use Rattle.std.proofs.lemmas.Bool.{and_parts}
use Rattle.smt_terms.specs.declared.node.Node.{Node}
use Rattle.smt_terms.specs.Nodes.{node_at}
use Rattle.smt_terms.specs.Ranks.{rank_of}
use Rattle.smt_terms.specs.Terms.{sort_of, IsTermList, declaration_of}
use Rattle.smt_terms.specs.Values.{Interpretation, meaning_of, op_value, value}
use Rattle.smt_terms.proofs.Typing.{typed_args, value_is, typed}
use Rattle.smt_build.specs.declared.symbols.LiveName.{LiveName}
use Rattle.smt_build.specs.Scoped.{names_live, is_over}
use Rattle.smt_build.proofs.Scoped.{over_node, scripted_names}
use Rattle.written_models.specs.Alike.{AreAlike}
use Rattle.written_models.proofs.Likeness.{IsLike, EachAlike, operator_same, applied_same}

module _ (live : List LiveName) (nodes : List Node) (list : IsTermList nodes) (M N : Interpretation)
    (like : (t : ℕ) → t < length nodes → names_live live (declaration_of (node_at nodes t).op) ≡ true → IsLike M N (node_at nodes t).op) where
  abbrev Alike : ℕ → Type 0
  Alike t = AreAlike (sort_of nodes t) (value M nodes t) (value N nodes t)

  each_alike : (n : ℕ) (args : List ℕ) → ((a : ℕ) → a < n → is_over live nodes a ≡ true → Alike a) → AllByRecursion (λ a. a < n) args → list_all (is_over live nodes) args ≡ true → EachAlike (map (sort_of nodes) args) (map (value M nodes) args) (map (value N nodes) args)
  each_alike n [] ih h over = tt
  each_alike n (a ∷ args) ih h over = let p = and_parts (is_over live nodes a) (list_all (is_over live nodes) args) over in (ih a h.0 p.0, each_alike n args ih h.1 p.1)

  alike_upto : (n t : ℕ) → t < n → t < length nodes → is_over live nodes t ≡ true → Alike t
  alike_upto zero t lt within over = absurd (omega arith)
  alike_upto (suc n) t lt within over =
      let h = list t within in
      let node = node_at nodes t in
      let p = over_node live nodes list t over in
      let each = each_alike t node.args (λ a la. alike_upto n a (omega arith) (omega arith)) h.earlier p.1 in
      let left = typed_args (sort_of nodes) (value M nodes) t (λ a la. typed M nodes list a (omega arith)) node.args h.earlier in
      let right = typed_args (sort_of nodes) (value N nodes) t (λ a la. typed N nodes list a (omega arith)) node.args h.earlier in
      let own : AreAlike (sort_of nodes t) (op_value M node.op (map (value M nodes) node.args)) (op_value N node.op (map (value N nodes) node.args)) =
      applied_same (rank_of node.op) (meaning_of M node.op) (meaning_of N node.op) (operator_same M N node.op (like t within (scripted_names live node.op p.0))) 0 (map (sort_of nodes) node.args) (map (value M nodes) node.args) (map (value N nodes) node.args) left right each (sort_of nodes t) h.rank in
      subst (λ v. AreAlike (sort_of nodes t) v (value N nodes t)) (sym (value_is M nodes t h)) (subst (AreAlike (sort_of nodes t) (op_value M node.op (map (value M nodes) node.args))) (sym (value_is N nodes t h)) own)

  -- a term over the live declarations has alike values
  pub alike_values : (t : ℕ) → t < length nodes → is_over live nodes t ≡ true → Alike t
  alike_values t within over = alike_upto (suc t) t (omega arith) within over
