use Rattle.std.proofs.Common.{◌≡◌, sym, subst, Ok}
use Rattle.std.specs.Prelude.{MatchResult, Result}
use Rattle.dimacs_front.specs.Cnf.{CnfValue, StopsAt}
use Rattle.dimacs_front.specs.declared.cnf.CnfFault.{CnfFault}
use Rattle.dimacs_front.proofs.cnf.CnfReader.finish.Goals as goal

pub returns-in-Ok : goal.returns-in-Ok
returns-in-Ok c = subst (λ (all : Result CnfValue CnfFault). MatchResult c.end.result (λ cnf. all ≡ Ok cnf) (StopsAt all)) (sym c.in-Ok.ensures) c.end.ensures
