use Rattle.std.proofs.Common.{take}
use Rattle.proof_file.specs.Noting.{AreMarked}
use Rattle.proof_file.proofs.noting.mark.Given as goal

abbrev pub invariant-live : goal.invariant-live
invariant-live l = AreMarked l.marks (take l.assertion-index l.live)
