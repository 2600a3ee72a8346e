use Rattle.std.proofs.Common.{◌≡◌, Some}
use Rattle.std.specs.Prelude.{slice_get}
use Rattle.theory_terms.specs.declared.lemma.Move.TheVariants as by
use Rattle.access_walk.proofs.Shaped.{then_move, else_move, choice_has}
use Rattle.access_walk.proofs.network.Network.enter_choice.Goals as goal

pub add_move-requires-clause-is : goal.add_move-requires-clause-is
add_move-requires-clause-is c =
    let here : slice_get c.args.reached.now c.unwrap-here.result ≡ Some c.args.term = rw c.unwrap-here.ensures at c.place_of.ensures.place in
    let there : slice_get c.args.reached.now c.unwrap-first.result ≡ Some c.args.yes = rw c.unwrap-first.ensures at c.place_of-2.ensures.place in
    then_move c.args.terms.now.nodes c.len-count.ensures.terms.list c.args.reached.now c.unwrap-here.result c.unwrap-first.result c.args.term c.args.condition c.args.yes c.args.no c.requires.shape here there

pub add_move-requires-2-clause-is : goal.add_move-requires-2-clause-is
add_move-requires-2-clause-is c =
    let here : slice_get c.args.reached.now c.unwrap-here.result ≡ Some c.args.term = rw c.unwrap-here.ensures at c.place_of.ensures.place in
    let there : slice_get c.args.reached.now c.unwrap-second.result ≡ Some c.args.no = rw c.unwrap-second.ensures at c.place_of-3.ensures.place in
    else_move c.args.terms.now.nodes c.len-count.ensures.terms.list c.args.reached.now c.unwrap-here.result c.unwrap-second.result c.args.term c.args.condition c.args.yes c.args.no c.requires.shape here there

pub returns-clause-has : goal.returns-clause-has
returns-clause-has c =
    choice_has c.args.terms.now.nodes c.add_move-2.new.self c.args.term c.args.condition c.args.yes c.args.no c.requires.shape
    (c.in_ok-add_move-2.ensures.grows.moves (by.Then c.args.term) c.in_ok-add_move.ensures.has) c.in_ok-add_move-2.ensures.has
