use Rattle.proof_checker.proofs.Lining.{chain_parts}
use Rattle.proof_checker.proofs.lines.chain_of.Goals as goal

pub returns-in-None : goal.returns-in-None
returns-in-None c = λ clause names e below chain.
    let none = rw c.in-None.is at c.in_ok-hints.ensures in
    none clause names (chain_parts clause names c.args.literals.now c.args.hints.now e).1 chain
