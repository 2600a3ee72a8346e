use Rattle.proof_checker.proofs.Lining.{no_apply}
use Rattle.proof_checker.proofs.lines.application_of.Goals as goal

pub returns-in-None : goal.returns-in-None
returns-in-None c = λ o i e. no_apply c.args.number c.args.state.now.symbols.signatures o (rw c.in-None.is at c.in_ok-declaration.ensures) i e
