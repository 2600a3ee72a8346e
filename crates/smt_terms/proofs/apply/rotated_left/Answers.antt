use Rattle.smt_terms.proofs.Rotations.{left_is}
use Rattle.smt_terms.proofs.apply.rotated_left.Goals as goal

pub returns : goal.returns
returns c M = left_is c.args.a.width c.args.by c.args.a.value c.rotate_left.result (rw (c.from.ensures, c.width.ensures) at c.rotate_left.ensures)
