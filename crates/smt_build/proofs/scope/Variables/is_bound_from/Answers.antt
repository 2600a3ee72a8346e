use Rattle.std.proofs.Common.{sym, Some, None}
use Rattle.smt_build.proofs.Places.{found_from}
use Rattle.smt_build.proofs.scope.Variables.is_bound_from.Goals as goal

pub returns-in-Some : goal.returns-in-Some
returns-in-Some c = sym (found_from _ _ _ c.args.name c.self.invariant c.self.view_is (Some c.in-Some.found.now) c.in-Some.ensures.value c.args.place)

pub returns-in-None : goal.returns-in-None
returns-in-None c = sym (found_from _ _ _ c.args.name c.self.invariant c.self.view_is None c.in-None.ensures.value c.args.place)
