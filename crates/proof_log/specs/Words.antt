-- Logs of Bools and words alone.
use Rattle.std.specs.Prelude.{List, IsSome}
use Rattle.smt_terms.specs.declared.node.Node.{Node}
use Rattle.smt_terms.specs.Nodes.{node_at}
use Rattle.proof_log.specs.declared.entry.Entry.{Entry}
use Rattle.proof_log.specs.declared.entry.Entry.TheVariants as step
use Rattle.proof_log.specs.Logs.{constant_width}

-- no leaf but a declared Bool or word, no equality, no lemma
abbrev pub IsOfWords : List Node → Entry → Type 0
IsOfWords nodes (step.Leaf t) = IsSome (constant_width (node_at nodes t).op)
IsOfWords nodes (step.Equal t u) = ⊥
IsOfWords nodes (step.Lemma l) = ⊥
IsOfWords nodes e = Unit {0}
