use Rattle.std.proofs.Common.{◌≡◌, map, take}
use Rattle.smt_build.specs.Reached.{placed}
use Rattle.smt_build.proofs.definition.images_of.Given as goal

abbrev pub invariant-loop-term : goal.invariant-loop-term
invariant-loop-term l = l.found.items ≡ map (placed l.reached l.images) (take l.term-index l.terms)
