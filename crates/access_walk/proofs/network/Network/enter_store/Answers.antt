use Rattle.std.proofs.Common.{◌≡◌, Some}
use Rattle.std.specs.Prelude.{slice_get}
use Rattle.access_walk.proofs.Shaped.{store_index, store_move, store_has}
use Rattle.access_walk.proofs.network.Network.enter_store.Goals as goal

pub add_start-requires-clause-index : goal.add_start-requires-clause-index
add_start-requires-clause-index c = store_index c.args.terms.now.nodes c.len-count.ensures.terms.list c.args.term c.args.array c.args.index c.args.value c.requires.shape

pub add_move-requires-clause-is : goal.add_move-requires-clause-is
add_move-requires-clause-is c =
    let here : slice_get c.args.reached.now c.unwrap-here.result ≡ Some c.args.term = rw c.unwrap-here.ensures at c.place_of.ensures.place in
    let there : slice_get c.args.reached.now c.unwrap-there.result ≡ Some c.args.array = rw c.unwrap-there.ensures at c.place_of-2.ensures.place in
    store_move c.args.terms.now.nodes c.len-count.ensures.terms.list c.args.reached.now c.unwrap-here.result c.unwrap-there.result c.args.term c.args.array c.args.index c.args.value c.requires.shape here there

pub returns-clause-has : goal.returns-clause-has
returns-clause-has c =
    store_has c.args.terms.now.nodes c.add_start.new.self c.add_move.new.self c.args.term c.args.array c.args.index c.args.value c.requires.shape c.in_ok-add_start.ensures.has c.in_ok-add_move.ensures.grows c.in_ok-add_move.ensures.has
