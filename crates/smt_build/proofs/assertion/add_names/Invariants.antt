use Rattle.std.proofs.Common.{◌≡◌, map, take}
use Rattle.smt_build.specs.Pairs.{pair_of}
use Rattle.smt_build.specs.Asserting.{with_names}
use Rattle.smt_build.proofs.assertion.add_names.Given as goal

abbrev pub invariant-loop-variable : goal.invariant-loop-variable
invariant-loop-variable l = l.symbols ≡ with_names l.fn.symbols (map pair_of (take l.variable-index l.names))
