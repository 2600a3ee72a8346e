use Rattle.std.proofs.Common.{ap}
use Rattle.accepted_proof.specs.Searching.{subject_of}
use Rattle.proof_checker.proofs.Noting.{is_about}
use Rattle.proof_checker.proofs.Starting.{if_ok}
use Rattle.std.proofs.Common.{length}
use Rattle.proof_checker.proofs.diaries.end.Goals as goal

pub returns : goal.returns
returns c =
    let n = c.args.noting in
    if_ok _ _ c.end.result
    (λ kept h limits s stands noted.
    h c.args.deleted.now (subject_of limits s s.terms.nodes c.args.log.now.entries n.cube n.start) n.lines (is_about limits s c.args.log.now n.cube n.start stands) (ap length c.places.ensures) noted.0)
    c.end.ensures
