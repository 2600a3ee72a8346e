use Rattle.std.specs.Prelude.{Contains}
use Rattle.access_walk.proofs.Clashing.{clash_false}
use Rattle.access_walk.proofs.laws.clashes_are_false.Goals as goal

pub returns : goal.returns
returns c = λ nodes image terms val arrays moves origins landings g gates starts rows p q left right ls rs net clash el er len wl wr a b fa fb.
    clash_false nodes image (Contains terms) val arrays moves origins landings g gates starts net rows p clash q left right ls rs el er len wl wr a b fa fb
