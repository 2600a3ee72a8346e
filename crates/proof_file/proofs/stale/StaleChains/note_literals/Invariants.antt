use Rattle.std.proofs.Common.{take}
use Rattle.proof_file.specs.Noting.{DenyAmong, HasNoted}
use Rattle.proof_file.proofs.stale.StaleChains.note_literals.Given as goal

abbrev pub invariant-literals : goal.invariant-literals
invariant-literals l = HasNoted l.position (DenyAmong l.fn.self.selected (take l.literal-index l.literals)) l.fn.self l.self
