use Rattle.std.proofs.Common.{take}
use Rattle.proof_file.specs.Noting.{AreForgotten}
use Rattle.proof_file.proofs.noting.forget.Given as goal

abbrev pub invariant-assertions : goal.invariant-assertions
invariant-assertions l = AreForgotten (take l.assertion-index l.assertions) l.fn.noted.items l.noted.items
