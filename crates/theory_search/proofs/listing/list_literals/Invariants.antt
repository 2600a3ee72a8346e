use Rattle.std.proofs.Common.{take}
use Rattle.cube_search.specs.Holding.{IsListing}
use Rattle.theory_search.proofs.listing.list_literals.Given as goal

abbrev pub invariant-literals : goal.invariant-literals
invariant-literals l = IsListing l.fn.variables (take l.literal-index l.literals) l.variables
