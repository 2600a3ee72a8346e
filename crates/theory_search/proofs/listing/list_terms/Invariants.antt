use Rattle.std.proofs.Common.{take}
use Rattle.smt_terms.specs.Bits.{bits_in}
use Rattle.theory_search.specs.Theories.{IsNaming}
use Rattle.theory_search.proofs.listing.list_terms.Given as goal

abbrev pub invariant-terms : goal.invariant-terms
invariant-terms l = IsNaming (bits_in l.bits) l.fn.variables l.variables (take l.term-index l.terms)
