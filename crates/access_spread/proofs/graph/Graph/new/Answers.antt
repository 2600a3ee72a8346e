use Rattle.access_spread.proofs.Edges.{no_edges}
use Rattle.access_spread.proofs.graph.Graph.new.Goals as goal

pub returns-clause-graph : goal.returns-clause-graph
returns-clause-graph c = no_edges (record { edges = c.new.result; fans = c.loop.fans }) c.new.ensures.items c.loop.invariant.empty
