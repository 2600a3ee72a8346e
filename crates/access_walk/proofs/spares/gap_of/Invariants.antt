use Rattle.access_walk.proofs.Gaps.{IsGapTo}
use Rattle.access_walk.proofs.spares.gap_of.Given as goal

abbrev pub invariant-loop-number : goal.invariant-loop-number
invariant-loop-number l = IsGapTo l.numbers l.number-index l.gap
