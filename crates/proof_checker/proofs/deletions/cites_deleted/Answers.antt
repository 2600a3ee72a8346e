use Rattle.std.proofs.Common.{◌∙◌, sym}
use Rattle.proof_checker.proofs.Deleting.{cites_line}
use Rattle.proof_checker.proofs.deletions.cites_deleted.Goals as goal

pub returns : goal.returns
returns c = λ e is. cites_line c.args.deleted.now c.args.line.now e is ∙ sym (rw c.hints_in.ensures at c.is_one_deleted.ensures)
