use Rattle.proof_checker.proofs.Lining.{no_hints}
use Rattle.proof_checker.proofs.lines.hints_of.Goals as goal

pub returns-then-hint : goal.returns-then-hint
returns-then-hint c = no_hints c.args.log.now.clauses c.args.hints.now c.loop-hint.hint-index _ c.loop-hint-test.true c.if-hint.true c.no_part.result c.no_part.ensures
