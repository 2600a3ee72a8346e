use Rattle.accepted_proof.specs.Searching.{subject_of}
use Rattle.proof_text.specs.Deletions.{is_deleted}
use Rattle.proof_checker.proofs.Noting.{spent_told}
use Rattle.proof_checker.proofs.diaries.is_spent.Goals as goal

pub returns : goal.returns
returns c = λ limits s log deleted noted.
    let n = c.args.noting.now in
    let g = subject_of limits s s.terms.nodes log n.cube n.start in
    spent_told deleted g c.args.budget n.lines c.is_spent.result noted.1 (c.is_spent.ensures (is_deleted deleted) g n.lines noted.0)
