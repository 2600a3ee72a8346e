use Rattle.std.proofs.Common.{◌≡◌, Some}
use Rattle.std.specs.Prelude.{slice_get}
use Rattle.access_walk.proofs.Shaped.{sides_move, equality_has}
use Rattle.access_walk.proofs.network.Network.enter_equality.Goals as goal

pub add_move-requires-clause-is : goal.add_move-requires-clause-is
add_move-requires-clause-is c =
    let here : slice_get c.args.reached.now c.unwrap-first.result ≡ Some c.args.left = rw c.unwrap-first.ensures at c.place_of.ensures.place in
    let there : slice_get c.args.reached.now c.unwrap-second.result ≡ Some c.args.right = rw c.unwrap-second.ensures at c.place_of-2.ensures.place in
    sides_move c.args.terms.now.nodes c.len-count.ensures.terms.list c.args.reached.now c.unwrap-first.result c.unwrap-second.result c.args.term c.args.left c.args.right c.requires.shape here there

pub returns-clause-has : goal.returns-clause-has
returns-clause-has c = equality_has c.args.terms.now.nodes c.add_move.new.self c.args.term c.args.left c.args.right c.requires.shape c.in_ok-add_move.ensures.has
