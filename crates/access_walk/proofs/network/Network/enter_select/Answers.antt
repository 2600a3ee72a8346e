use Rattle.access_walk.proofs.Shaped.{select_index, select_has}
use Rattle.access_walk.proofs.network.Network.enter_select.Goals as goal

pub add_start-requires-clause-index : goal.add_start-requires-clause-index
add_start-requires-clause-index c = select_index c.args.terms.now.nodes c.len-count.ensures.terms.list c.args.term c.args.array c.args.index c.requires.shape

pub returns-clause-has : goal.returns-clause-has
returns-clause-has c = select_has c.args.terms.now.nodes c.add_start.new.self c.args.term c.args.array c.args.index c.requires.shape c.in_ok-add_start.ensures.has
