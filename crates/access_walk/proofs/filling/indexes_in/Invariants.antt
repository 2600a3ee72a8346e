use Rattle.std.proofs.Common.{◌≡◌, take}
use Rattle.std.specs.Prelude.{map}
use Rattle.theory_terms.specs.declared.atom.Landing.{Landing}
use Rattle.access_walk.proofs.filling.indexes_in.Given as goal

abbrev pub invariant-loop-landing : goal.invariant-loop-landing
invariant-loop-landing l = l.indexes.items ≡ map (λ (x : Landing). x.index) (take l.landing-index l.network.landings.items)
