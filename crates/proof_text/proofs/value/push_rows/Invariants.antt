use Rattle.std.proofs.Common.{◌≡◌, ◌++◌, take, map}
use Rattle.std.specs.List.{flat_map}
use Rattle.proof_text.specs.Lines.{spaced, scalar_text}
use Rattle.proof_text.specs.Records.{row_scalars}
use Rattle.proof_text.proofs.value.push_rows.Given as goal

abbrev pub invariant-loop-row : goal.invariant-loop-row
invariant-loop-row l = l.out ≡ l.fn.out ++ spaced (map scalar_text (flat_map row_scalars (take l.row-index l.rows)))
