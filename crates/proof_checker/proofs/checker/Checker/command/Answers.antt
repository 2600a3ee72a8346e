use Rattle.proof_checker.proofs.checker.Checker.command.Goals as goal

pub returns-clause-command : goal.returns-clause-command
returns-clause-command c = let d = c.in_ok-checker.ensures in (d.0, d.1, d.2)
