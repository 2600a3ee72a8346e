use Rattle.std.proofs.Common.{◌≡◌, ◌++◌, take, map}
use Rattle.proof_file.specs.Places.{placed_line}
use Rattle.proof_file.specs.Held.{file_in}
use Rattle.proof_file.proofs.shown.push_placed.Given as goal

abbrev pub invariant-loop-line : goal.invariant-loop-line
invariant-loop-line l = l.lines ≡ l.fn.lines ++ map (placed_line (file_in l.places).places) (take l.line-index l.named)
