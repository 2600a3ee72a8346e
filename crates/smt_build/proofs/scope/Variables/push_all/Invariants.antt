use Rattle.std.proofs.Common.{◌≡◌, ◌++◌, map, take}
use Rattle.smt_build.specs.Pairs.{pair_of}
use Rattle.smt_build.proofs.scope.Variables.push_all.Given as goal

abbrev pub invariant-loop-variable : goal.invariant-loop-variable
invariant-loop-variable l = l.self ≡ l.fn.self ++ map pair_of (take l.variable-index l.list)
