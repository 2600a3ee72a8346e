use Rattle.std.proofs.Common.{ℕ, ◌<◌, ◌^◌}
use Rattle.circ_plain.proofs.shifts.stages_of.Given as goal

-- no power so far reaches the width
abbrev pub invariant-loop-count : goal.invariant-loop-count
invariant-loop-count l = (j : ℕ) → j < l.count → 2 ^ j < l.width
