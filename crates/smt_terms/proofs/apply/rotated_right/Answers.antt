use Rattle.smt_terms.proofs.Rotations.{right_is}
use Rattle.smt_terms.proofs.apply.rotated_right.Goals as goal

pub returns : goal.returns
returns c M = right_is c.args.a.width c.args.by c.args.a.value c.rotate_right.result (rw (c.from.ensures, c.width.ensures) at c.rotate_right.ensures)
