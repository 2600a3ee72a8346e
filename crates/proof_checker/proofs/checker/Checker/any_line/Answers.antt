use Rattle.std.proofs.Common.{None}
use Rattle.accepted_proof.specs.Judged.{Moves}
use Rattle.proof_checker.proofs.Forgetting.{goes_plain}
use Rattle.proof_checker.proofs.checker.Checker.any_line.Goals as goal

pub returns-in-Err : goal.returns-in-Err
returns-in-Err c = rw c.in-Err.is (goes_plain (Moves c.args.self.judging None) c.args.self c.bad_line.result c.bad_line.ensures)
