use Rattle.std.proofs.lemmas.Result.{on_ok_weaker}
use Rattle.accepted_proof.proofs.Pieces.{array_pieces}
use Rattle.accepted_proof.proofs.printing.push_array.Goals as goal

pub returns-clause-ok : goal.returns-clause-ok
returns-clause-ok c =
    on_ok_weaker c.push_endings.result
    (array_pieces c.args.array.now c.args.out.now _ _ c.push_endings.new.out c.index_width-index.ensures.array
    (rw (c.entries.ensures, c.value.ensures, c.default-default.ensures) at c.in_ok-push_openings.ensures.ok)
    (rw (c.index_width-index.ensures.width, c.default-default.ensures) at c.in_ok-push_constant.ensures.ok))
    (rw (c.entries-2.ensures, c.value-2.ensures, c.default-default.ensures) at c.push_endings.ensures.ok)
