use Rattle.std.proofs.Common.{◌≡◌, sym, subst, Ok}
use Rattle.std.specs.Prelude.{MatchResult, Result}
use Rattle.dimacs_front.specs.Cnf.{StopsAt}
use Rattle.dimacs_front.specs.declared.lrat.LratFault.{LratFault}
use Rattle.dimacs_front.proofs.lrat.LratChecker.finish.Goals as goal

pub returns-in-Ok : goal.returns-in-Ok
returns-in-Ok c = subst (λ (all : Result Unit LratFault). MatchResult c.end.result (λ _. all ≡ Ok tt) (StopsAt all)) (sym c.in-Ok.ensures) c.end.ensures
