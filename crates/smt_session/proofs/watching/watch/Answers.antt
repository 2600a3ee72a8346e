use Rattle.std.proofs.Common.{sym, append-nil, arith}
use Rattle.array_watches.specs.Needed.{watched}
use Rattle.smt_session.proofs.Made.{whole_made}
use Rattle.smt_session.proofs.watching.watch.Goals as goal

pub take_nodes-requires-clause-session : goal.take_nodes-requires-clause-session
take_nodes-requires-clause-session c = rw c.in_ok-made.ensures.same c.requires.session

pub returns-clause-adds : goal.returns-clause-adds
returns-clause-adds c = rw c.in_ok-made.ensures.same at c.in_ok-take_nodes.ensures.adds

pub returns-clause-made : goal.returns-clause-made
returns-clause-made c =
    whole_made c.watches.new.state.terms.nodes c.take_nodes.new.state.terms.nodes (watched c.args.state.now.terms.nodes c.args.roots.now) c.in_ok-made.made.items c.as_slice.result.now c.len.result c.as_slice.ensures.value
    (omega arith) (c.in_ok-take_nodes.ensures.made c.watches.new.state.terms.nodes (sym (append-nil c.watches.new.state.terms.nodes))) (rw c.in_ok-made.ensures.same c.in_ok-made.ensures.made)
