use Rattle.std.proofs.Common.{◌≡◌, ◌++◌, take, List}
use Rattle.smt_terms.specs.declared.node.Node.{Node}
use Rattle.smt_session.specs.Planning.{AddsTerms}
use Rattle.smt_session.proofs.taking.take_nodes.Given as goal

abbrev pub invariant-nodes : goal.invariant-nodes
invariant-nodes l = record {
  adds : AddsTerms l.fn.state l.fn.log l.state l.log;
  made : (base : List Node) → l.fn.state.terms.nodes ≡ base ++ take l.from l.nodes → l.state.terms.nodes ≡ base ++ take l.at l.nodes;
}
