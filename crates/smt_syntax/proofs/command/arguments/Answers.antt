use Rattle.smt_syntax.proofs.CommandReadings.{inside_at}
use Rattle.smt_syntax.proofs.command.arguments.Goals as goal

pub returns : goal.returns
returns c = λ k x es s. let i = inside_at _ _ k x es c.saturating_sub.ensures s in c.in_ok-found.ensures.stand es i.0 i.1
