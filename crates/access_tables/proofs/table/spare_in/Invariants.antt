use Rattle.std.proofs.Common.{◌≡◌, drop}
use Rattle.access_tables.specs.Held.{spare_in}
use Rattle.access_tables.proofs.table.spare_in.Given as goal

abbrev pub invariant-loop-spare : goal.invariant-loop-spare
invariant-loop-spare l = spare_in (drop l.spare-index l.spares) l.width ≡ spare_in l.fn.spares l.fn.width
