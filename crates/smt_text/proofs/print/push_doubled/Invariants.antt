use Rattle.std.proofs.Common.{◌≡◌, ◌++◌, take}
use Rattle.smt_text.specs.Printing.{doubled}
use Rattle.smt_text.proofs.print.push_doubled.Given as goal

abbrev pub invariant-loop-byte : goal.invariant-loop-byte
invariant-loop-byte l = l.out ≡ l.fn.out ++ doubled (take l.byte-index l.bytes)
