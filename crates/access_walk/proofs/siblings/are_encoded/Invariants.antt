use Rattle.std.proofs.Common.{◌≡◌, ◌<◌, ℕ, Some}
use Rattle.std.specs.Prelude.{slice_get}
use Rattle.theory_terms.specs.declared.atom.Atom.{Atom}
use Rattle.access_walk.specs.Walked.{IsEncodedAtom}
use Rattle.access_walk.proofs.siblings.are_encoded.Given as goal

abbrev pub invariant-loop-atom : goal.invariant-loop-atom
invariant-loop-atom l = (k : ℕ) (x : Atom) → k < l.atom-index → slice_get l.atoms k ≡ Some x → IsEncodedAtom l.terms.nodes l.bits x
