use Rattle.std.proofs.Common.{◌∙◌, arith}
use Rattle.smt_session.proofs.Leading.{session_led}
use Rattle.smt_session.proofs.PlanSteps.{adds_more, adds_none, nodes_more}
use Rattle.smt_session.proofs.taking.take_nodes.Goals as goal

pub nodes-init : goal.nodes-init
nodes-init c = record { adds = adds_none c.args.state.now c.args.log.now c.requires.session.stands; made = λ base e. e }

pub take_node-requires : goal.take_node-requires
take_node-requires c = record { session = session_led c.args.state.now c.nodes.state c.args.log.now c.nodes.log c.requires.session c.nodes.invariant.adds.leads }

pub nodes-preserved : goal.nodes-preserved
nodes-preserved c = record {
  adds = adds_more c.args.state.now c.nodes.state c.take_node.new.state c.args.log.now c.nodes.log c.take_node.new.log c.nodes.invariant.adds c.in_ok-take_node.ensures.adds;
  made = λ base e.
      nodes_more base c.args.nodes.now c.nodes.state.terms.nodes c.take_node.new.state.terms.nodes c.nodes.at _ c.in_ok-node.node (c.nodes.invariant.made base e) (let lt = c.nodes-test.true in let within = c.requires.places.1 in omega (arith, lt, within)) (c.in_ok-node.ensures ∙ c.index-nodes-at.is) c.in_ok-take_node.ensures.made;
}
