-- Leaves, and logs of Bools and words alone.
use Rattle.std.proofs.Common.{◌≡◌, ℕ, zero, suc, ◌<◌, List, ◌++◌, length, Some, None, sym, ap, subst, ⊎_elim}
use Rattle.std.specs.Prelude.{IsSome}
use Rattle.std.specs.List.{AllByRecursion}
use Rattle.std.proofs.lemmas.Bool.{cases_lt}
use Rattle.cnf_base.proofs.Lists.{each_slice_get}
use Rattle.cnf_base.proofs.Options.{some_value}
use Rattle.smt_terms.specs.declared.node.Op.{Op}
use Rattle.smt_terms.specs.declared.node.Op.TheVariants.{Plain, Word, Extract, ZeroExtend, SignExtend, RotateLeft, RotateRight, Repeat, ConstantArray, Constant, Apply, Param}
use Rattle.smt_terms.specs.declared.node.Node.{Node}
use Rattle.smt_terms.specs.Nodes.{no_node, node_at}
use Rattle.smt_terms.proofs.Growing.{node_longer, node_past}
use Rattle.theory_terms.specs.Shapes.{shape_of}
use Rattle.proof_log.specs.declared.entry.Entry.{Entry}
use Rattle.proof_log.specs.declared.entry.Entry.TheVariants as step
use Rattle.proof_log.specs.Logs.{LogState, entry_at, constant_width, width_by, IsLeaf, leaf_after, after}
use Rattle.proof_log.specs.Words.{IsOfWords}

-- a declared Bool or word is a leaf of as many bits
constant_leaf : (nodes : List Node) (t n : ℕ) (o : Op) (args : List ℕ) → constant_width o ≡ Some n → width_by nodes t (shape_of o args) ≡ Some n
constant_leaf nodes t n (Constant d q) args e = e
constant_leaf nodes t n (Plain o) args e = let q : ⊥ = cc in absurd q
constant_leaf nodes t n (Word m x) args e = let q : ⊥ = cc in absurd q
constant_leaf nodes t n (Extract i j) args e = let q : ⊥ = cc in absurd q
constant_leaf nodes t n (ZeroExtend i) args e = let q : ⊥ = cc in absurd q
constant_leaf nodes t n (SignExtend i) args e = let q : ⊥ = cc in absurd q
constant_leaf nodes t n (RotateLeft i) args e = let q : ⊥ = cc in absurd q
constant_leaf nodes t n (RotateRight i) args e = let q : ⊥ = cc in absurd q
constant_leaf nodes t n (Repeat i) args e = let q : ⊥ = cc in absurd q
constant_leaf nodes t n (ConstantArray k) args e = let q : ⊥ = cc in absurd q
constant_leaf nodes t n (Apply d g) args e = let q : ⊥ = cc in absurd q
constant_leaf nodes t n (Param k q) args e = let f : ⊥ = cc in absurd f

-- a declared Bool or word without bits may be a leaf
pub leaf_of : (nodes : List Node) (s : LogState) (t : ℕ) → t < length nodes → s.bits t ≡ None → IsSome (constant_width (node_at nodes t).op) → IsLeaf nodes s t
leaf_of nodes s t within new has =
    let n = some_value (constant_width (node_at nodes t).op) has in
    record { term = within; new = new; width = n.0; constant = constant_leaf nodes t n.0 (node_at nodes t).op (node_at nodes t).args n.1 }

pub leaf_goes : (nodes : List Node) (s : LogState) (t : ℕ) (i : IsLeaf nodes s t) → after nodes s (step.Leaf t) ≡ leaf_after s t (Some i.width)
leaf_goes nodes s t i = ap (leaf_after s t) i.constant

-- the step at a position is one of words
pub word_at : (nodes : List Node) (log : List Entry) (p : ℕ) (e : Entry) → AllByRecursion (IsOfWords nodes) log → entry_at log p ≡ Some e → IsOfWords nodes e
word_at nodes log zero e h there = let f : ⊥ = cc in absurd f
word_at nodes log (suc p) e h there = each_slice_get (IsOfWords nodes) log p e h there

-- a declared Bool or word is one among more terms
pub words_longer : (nodes more : List Node) (e : Entry) → IsOfWords nodes e → IsOfWords (nodes ++ more) e
words_longer nodes more (step.Leaf t) h =
    ⊎_elim
    (λ within. subst (λ (n : Node). IsSome (constant_width n.op)) (sym (node_longer nodes more t within)) h)
    (λ past. let none : IsSome (constant_width no_node.op) = subst (λ (n : Node). IsSome (constant_width n.op)) (node_past nodes t past) h in let f : ⊥ = cc in absurd f)
    (cases_lt t (length nodes))
words_longer nodes more (step.Equal t u) h = h
words_longer nodes more (step.Lemma l) h = h
words_longer nodes more e h = tt
