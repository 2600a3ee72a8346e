-- A worked log: the assertion of `false`, whose term is the first.
use Rattle.std.proofs.Common.{◌≡◌, List, [], ◌∷◌, Some, refl}
use Rattle.cnf_base.specs.Literals.{positive_of, negative_of, true_literal, false_literal}
use Rattle.smt_terms.specs.declared.operator.Operator.TheVariants as plain
use Rattle.smt_terms.specs.declared.node.Op.TheVariants.{Plain}
use Rattle.smt_terms.specs.declared.node.Node.{Node}
use Rattle.smt_terms.specs.Nodes.{leaf}
use Rattle.proof_log.specs.declared.entry.Entry.{Entry}
use Rattle.proof_log.specs.declared.entry.Entry.TheVariants as step
use Rattle.proof_log.specs.Logs.{state_of}

terms : List Node
terms = leaf (Plain plain.False) ∷ []

steps : List Entry
steps = step.Encode 0 ∷ step.Selector 0 0 ∷ []

-- the one bit of `false` is the literal that variable 1 is false
bits : (state_of terms steps).bits 0 ≡ Some (false_literal ∷ [])
unfolding terms steps
bits = refl

-- variable 2 is the selector, and the next is 3
selector : (state_of terms steps).selectors 0 ≡ Some (record { literal = positive_of 2; term = 0 })
unfolding terms steps
selector = refl

next : (state_of terms steps).next ≡ 3
unfolding terms steps
next = refl

-- the selector implies the bit
clauses : (state_of terms steps).clauses ≡ ((true_literal ∷ []) ∷ []) ∷ [] ∷ ((negative_of 2 ∷ false_literal ∷ []) ∷ []) ∷ []
unfolding terms steps
clauses = refl
