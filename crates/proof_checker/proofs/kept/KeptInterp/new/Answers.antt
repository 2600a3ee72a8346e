use Rattle.std.proofs.Common.{inl, ap}
use Rattle.smt_values.specs.Held.{set_for}
use Rattle.proof_checker.proofs.kept.KeptInterp.new.Goals as goal

pub invariant_of-result : goal.invariant_of-result
invariant_of-result c = λ d. inl (ap (λ t. set_for t d) c.new.ensures)
