use Rattle.std.proofs.Common.{sym}
use Rattle.proof_log.proofs.Tried.{node_done, node_new}
use Rattle.proof_log.proofs.log.Log.node.Goals as goal

pub returns-in-Ok : goal.returns-in-Ok
returns-in-Ok c =
    node_done c.args.terms.now c.push_node.new.terms c.args.node c.args.self.now _ c.len-at.result c.len-self-inside.ensures.terms c.requires.stands c.if-is_given.ensures (sym c.in_default.ensures)
    c.in-Ok.ensures.terms c.len-at.ensures
    (node_new _ _ c.len-self-inside.result _ _ _ _ _ c.push_node.new.self c.args.self.now c.args.node c.self.view_is c.in-Ok.ensures.step c.len-self-inside.ensures.length)
