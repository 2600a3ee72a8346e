use Rattle.std.proofs.Common.{take, map}
use Rattle.proof_text.specs.Deletions.{place_of}
use Rattle.proof_file.specs.Finding.{AreFound}
use Rattle.proof_file.specs.Held.{file_in}
use Rattle.proof_file.proofs.needed.find_lines.Given as goal

abbrev pub invariant-loop-line : goal.invariant-loop-line
invariant-loop-line l = AreFound l.log.entries (file_in l.places).places (map place_of (take l.line-index l.lines)) l.fn.found l.found
