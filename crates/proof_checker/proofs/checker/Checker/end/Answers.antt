use Rattle.proof_checker.proofs.Moving.{told_at_end}
use Rattle.proof_checker.proofs.checker.Checker.end.Goals as goal

pub returns-clause-told : goal.returns-clause-told
returns-clause-told c =
    let j = c.args.self.judging in
    told_at_end j.format j.limits j.state j.log j.deleted j.owed j.line c.args.self.verdicts c.stop-checker.result c.told-told.result c.stop-checker.ensures c.told-told.ensures
