use Rattle.std.proofs.Common.{take}
use Rattle.proof_file.specs.Noting.{IsWanted, ArePicked}
use Rattle.proof_file.proofs.noting.picked.Given as goal

abbrev pub invariant-assertions : goal.invariant-assertions
invariant-assertions l = ArePicked (IsWanted l.marks l.wanted) (take l.assertion-index l.assertions) l.found.items
