use Rattle.std.proofs.Common.{◌≡◌, map, take}
use Rattle.smt_values.specs.Held.{value_of}
use Rattle.smt_eval.specs.Evaluated.{held_value}
use Rattle.smt_eval.proofs.evaluate.gather.Given as goal

abbrev pub invariant-loop-term : goal.invariant-loop-term
invariant-loop-term l = map value_of l.scalars.items ≡ map (held_value l.values) (take l.term-index l.args)
