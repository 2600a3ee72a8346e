use Rattle.std.proofs.Common.{◌≡◌, ◌++◌, take}
use Rattle.smt_session.proofs.planned.nodes_from.Given as goal

abbrev pub invariant-terms : goal.invariant-terms
invariant-terms l = take l.from l.terms.nodes ++ l.made.items ≡ take l.term l.terms.nodes
