use Rattle.std.proofs.Common.{◌≡◌, ◌++◌, drop}
use Rattle.std.specs.Prelude.{map}
use Rattle.cnf_base.specs.Literals.{negated}
use Rattle.bit_blast.proofs.rows.negated_row.Given as goal

abbrev pub invariant-loop-k : goal.invariant-loop-k
invariant-loop-k l = l.bits.items ++ map negated (drop l.k l.a) ≡ map negated l.a
