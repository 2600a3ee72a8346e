use Rattle.std.proofs.Common.{◌≡◌, ◌≤◌, [], ◌++◌, take, length}
use Rattle.smt_session.specs.Planning.{grown_by, AreTakenOver}
use Rattle.smt_session.proofs.taking.take_plan.Given as goal

abbrev pub invariant-steps : goal.invariant-steps
invariant-steps l = record {
  taken : AreTakenOver (grown_by l.fn.state.terms l.made) l.fn.log.bits [] l.fn.state l.fn.log l.state l.log (take l.planned-index l.steps);
  made : l.state.terms.nodes ≡ l.fn.state.terms.nodes ++ take l.done l.made;
  done : l.done ≤ length l.made;
}
