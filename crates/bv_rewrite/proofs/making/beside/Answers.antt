use Rattle.bv_rewrite.proofs.Made.{beside_stopped, still_there}
use Rattle.bv_rewrite.proofs.making.beside.Goals as goal

pub cut-requires : goal.cut-requires
cut-requires c = rw c.len-before.ensures.length (still_there _ _ _ _ _ _ _ c.in_ok-y.ensures c.in-Err.ensures)

pub returns-in-Err : goal.returns-in-Err
returns-in-Err c = rw (c.cut.ensures, c.len-before.ensures.length) (beside_stopped _ _ _ _ _ _ _ _ c.in_ok-y.ensures c.in-Err.ensures)
