use Rattle.std.specs.Prelude.{Contains}
use Rattle.proof_log.proofs.Assigned.{terms_valued}
use Rattle.proof_log.proofs.laws.satisfied_terms_have_values.Goals as goal

pub returns : goal.returns
returns c M nodes reached = terms_valued M nodes (Contains reached)
