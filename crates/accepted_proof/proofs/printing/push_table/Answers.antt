use Rattle.std.proofs.lemmas.Result.{on_ok_weaker}
use Rattle.accepted_proof.proofs.Pieces.{table_pieces}
use Rattle.accepted_proof.proofs.printing.push_table.Goals as goal

pub returns-clause-ok : goal.returns-clause-ok
returns-clause-ok c =
    on_ok_weaker c.push_closings.result
    (table_pieces c.args.table.now.default c.args.table.now.rows c.args.out.now _ _ c.push_closings.new.out (rw c.rows-rows.ensures.rows at c.in_ok-push_rows.ensures.ok) (rw c.default.ensures at c.in_ok-push_scalar.ensures.ok))
    (rw c.rows-rows.ensures.rows at c.push_closings.ensures.ok)
