-- Leaves that are no declared Bool or word.
use Rattle.std.proofs.Common.{◌≡◌, ℕ, ◌+◌, ◌<◌, ◌≤◌, Bool, true, false, List, length, take, get_or, Some, None, sym, ap, ◌∙◌, subst}
use Rattle.std.specs.Prelude.{All, Contains, IsSome, is_some}
use Rattle.std.proofs.lemmas.List.{take_all}
use Rattle.std.proofs.lemmas.List.Elements.{All-contains}
use Rattle.cnf_base.proofs.Options.{same_found}
use Rattle.smt_terms.specs.declared.node.Node.{Node}
use Rattle.smt_terms.specs.Nodes.{node_at}
use Rattle.proof_log.specs.declared.entry.Entry.{Entry}
use Rattle.proof_log.specs.declared.entry.Entry.TheVariants as step
use Rattle.proof_log.specs.Logs.{constant_width, entry_at}
use Rattle.word_models.specs.Models.{IsOtherLeaf, HasOtherLeaf}

-- a leaf of a declared Bool or word is none
pub plain_leaf : (nodes : List Node) (log : List Entry) (p t : ℕ) → entry_at log p ≡ Some (step.Leaf t) → IsSome (constant_width (node_at nodes t).op) → IsOtherLeaf nodes log p → ⊥
plain_leaf nodes log p t e wide h =
    let q : step.Leaf t ≡ step.Leaf h.0 = same_found (entry_at log p) (step.Leaf t) (step.Leaf h.0) e h.1 in
    let same : t ≡ h.0 = cc in
    let none : is_some (constant_width (node_at nodes h.0).op) ≡ false = ap is_some h.2 in
    let some : is_some (constant_width (node_at nodes h.0).op) ≡ true = subst (λ u. IsSome (constant_width (node_at nodes u).op)) same wide in
    let f : true ≡ false = sym some ∙ none in
    let r : ⊥ = cc in r

-- where none of these positions has one, there is none
pub no_other_leaf : (nodes : List Node) (log : List Entry) (positions : List ℕ) (i : ℕ) → length positions ≤ i → All (λ p. IsOtherLeaf nodes log p → ⊥) (take i positions) → HasOtherLeaf nodes log positions → ⊥
no_other_leaf nodes log positions i le none h =
    All-contains (λ p. IsOtherLeaf nodes log p → ⊥) positions h.0 (subst (All (λ p. IsOtherLeaf nodes log p → ⊥)) (take_all i positions le) none) h.1 h.2
