use Rattle.std.specs.Prelude.{Contains}
use Rattle.access_walk.proofs.Valuing.{network}
use Rattle.access_walk.proofs.laws.maps_are_networks.Goals as goal

pub returns : goal.returns
returns c = λ nodes image terms val arrays moves guards origins landings g gates starts net valued.
    network nodes image (Contains terms) val arrays moves guards origins landings g gates starts net valued
