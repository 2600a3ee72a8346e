use Rattle.std.proofs.Common.{◌≡◌, ◌++◌, ℕ, List, length}
use Rattle.dimacs_front.specs.Lrat.{lrat_goes_on}
use Rattle.dimacs_front.proofs.lrat.LratChecker.feed.Given as goal

abbrev pub invariant-lines : goal.invariant-lines
invariant-lines l = (more : List ℕ) → lrat_goes_on l.self (l.rest ++ more) ≡ lrat_goes_on l.fn.self (l.piece ++ more)

abbrev pub decreases-lines : goal.decreases-lines
decreases-lines l = length l.rest
