use Rattle.proof_file.proofs.writing.note.Goals as goal

pub returns-in-Chain : goal.returns-in-Chain
returns-in-Chain c = rw c.in-Chain.is c.note.ensures
