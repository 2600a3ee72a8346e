use Rattle.watch_roots.proofs.Found.{FoundSoFar}
use Rattle.watch_roots.proofs.finding.found_among.Given as goal

abbrev pub invariant-terms : goal.invariant-terms
invariant-terms l = FoundSoFar l.terms.nodes l.among l.term-index l.widths.items l.found.items
