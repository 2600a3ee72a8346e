use Rattle.std.proofs.Common.{◌≡◌, take}
use Rattle.access_walk.specs.Networks.{landings_of}
use Rattle.access_walk.specs.Valuing.{landings_in}
use Rattle.access_walk.proofs.accesses.landings_of.Given as goal

abbrev pub invariant-loop-row : goal.invariant-loop-row
invariant-loop-row l = l.landings.items ≡ landings_of l.arrays (landings_in l.entries) (take l.row-index l.rows)
