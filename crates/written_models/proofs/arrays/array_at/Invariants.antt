use Rattle.written_models.proofs.Elements.{IsReadTo}
use Rattle.written_models.proofs.arrays.array_at.Given as goal

abbrev pub invariant-loop-entry : goal.invariant-loop-entry
invariant-loop-entry l = IsReadTo l.index l.element l.array l.entry-index l.read
