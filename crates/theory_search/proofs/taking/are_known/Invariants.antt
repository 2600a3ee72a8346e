use Rattle.std.proofs.Common.{take}
use Rattle.theory_search.specs.Theories.{AreKnown}
use Rattle.theory_search.proofs.taking.are_known.Given as goal

abbrev pub invariant-literals : goal.invariant-literals
invariant-literals l = AreKnown l.variables l.next (take l.literal-index l.literals)
