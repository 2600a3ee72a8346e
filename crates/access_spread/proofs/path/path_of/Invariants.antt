use Rattle.std.proofs.Common.{◌<◌, length}
use Rattle.access_spread.proofs.Ways.{IsRest}
use Rattle.access_spread.proofs.path.path_of.Given as goal

abbrev pub invariant-rows : goal.invariant-rows
invariant-rows l = record {
  within : l.at < length l.rows;
  rest : IsRest l.graph l.gates l.starts l.rows l.place l.at l.path.items;
}

abbrev pub decreases-rows : goal.decreases-rows
decreases-rows l = l.at
