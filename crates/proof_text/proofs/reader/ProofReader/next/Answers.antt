use Rattle.proof_text.proofs.Giving.{next_line}
use Rattle.proof_text.proofs.reader.ProofReader.next.Goals as goal

pub returns-clause-ok : goal.returns-clause-ok
returns-clause-ok c =
    rw (← c.self.view_is, c.give.ensures, c.line-line.ensures)
    (next_line c.self.inside.held c.bytes-rest.result.now c.in-Some.size c.in_ok-answer.answer c.bytes-rest.ensures.bytes
    c.in-Some.ensures.0 c.in-Some.ensures.1 c.in-Some.ensures.2 (rw c.line-line.ensures at c.in_ok-answer.ensures))
