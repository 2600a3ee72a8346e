use Rattle.std.proofs.Common.{◌∙◌, map, take}
use Rattle.smt_build.specs.Pairs.{pair_of}
use Rattle.smt_build.proofs.GivenNames.{given_more, given_cut}
use Rattle.smt_build.proofs.assertion.add_names.Goals as goal

pub returns-in-Err-clause-err : goal.returns-in-Err-clause-err
returns-in-Err-clause-err c = given_cut _ _ _ (map pair_of (take c.loop-variable.variable-index c.args.names.now)) c.definition_count-count.result c.definition_count-count.ensures (c.in-Err.ensures.err ∙ c.loop-variable.invariant) c.cut_definitions.ensures

pub loop-variable-preserved : goal.loop-variable-preserved
loop-variable-preserved c = given_more _ _ _ _ _ _ c.loop-variable-test.true c.loop-variable.invariant c.in-Ok.ensures.ok
