use Rattle.opening_positions.specs.Reading.{IsBehind}
use Rattle.opening_positions.proofs.Behind.{IsBefore}
use Rattle.opening_positions.proofs.next.behind_clauses.Given as goal

abbrev pub invariant-parts : goal.invariant-parts
invariant-parts l = IsBehind (IsBefore l.log.clauses l.at l.part) l.next l.found
