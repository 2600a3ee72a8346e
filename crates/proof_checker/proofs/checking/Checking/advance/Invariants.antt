use Rattle.std.proofs.Common.{[]}
use Rattle.proof_checker.specs.Checkings.{Keeps, AddsVerdicts, held_by}
use Rattle.proof_checker.proofs.checking.Checking.advance.Given as goal

abbrev pub invariant-steps : goal.invariant-steps
invariant-steps l = Keeps l.fn.self.inputs l.fn.self.checker l.checking × AddsVerdicts l.fn.self.checker l.checking.checker []

abbrev pub decreases-steps : goal.decreases-steps
decreases-steps l = held_by l.checking.inputs
