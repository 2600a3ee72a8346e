use Rattle.std.proofs.Common.{◌∙◌}
use Rattle.access_walk.proofs.Pairs.{edges_two, list_two, entered_more, grows_more, has_more}
use Rattle.access_walk.proofs.network.Network.add_move.Goals as goal

pub returns-clause-sound : goal.returns-clause-sound
returns-clause-sound c =
    entered_more c.args.terms.now.nodes c.args.reached.now c.terms-once.ensures.once c.args.self.now c.add_edge-2.new.self c.args.a c.args.b c.args.by c.args.guard c.requires.sound.sound c.requires.whole c.requires.is
    c.in_ok-add_edge-2.ensures.graph (c.in_ok-add_edge-2.ensures.count ∙ c.in_ok-add_edge.ensures.count)
    (edges_two _ _ _ c.args.a c.args.b c.in_ok-add_edge.ensures.edges c.in_ok-add_edge-2.ensures.edges)
    (list_two _ _ _ c.args.by c.in_ok-add_edge.ensures.moves c.in_ok-add_edge-2.ensures.moves) (list_two _ _ _ c.args.guard c.in_ok-add_edge.ensures.guards c.in_ok-add_edge-2.ensures.guards)
    (c.in_ok-add_edge-2.ensures.origins ∙ c.in_ok-add_edge.ensures.origins) (c.in_ok-add_edge-2.ensures.landings ∙ c.in_ok-add_edge.ensures.landings) c.requires.sound.began

pub returns-clause-grows : goal.returns-clause-grows
returns-clause-grows c =
    grows_more c.args.terms.now.nodes c.args.reached.now c.terms-once.ensures.once c.args.self.now c.add_edge-2.new.self c.args.a c.args.b c.args.by c.args.guard c.requires.sound.sound c.requires.whole c.requires.is
    c.in_ok-add_edge-2.ensures.graph (c.in_ok-add_edge-2.ensures.count ∙ c.in_ok-add_edge.ensures.count)
    (edges_two _ _ _ c.args.a c.args.b c.in_ok-add_edge.ensures.edges c.in_ok-add_edge-2.ensures.edges)
    (list_two _ _ _ c.args.by c.in_ok-add_edge.ensures.moves c.in_ok-add_edge-2.ensures.moves) (list_two _ _ _ c.args.guard c.in_ok-add_edge.ensures.guards c.in_ok-add_edge-2.ensures.guards)
    (c.in_ok-add_edge-2.ensures.origins ∙ c.in_ok-add_edge.ensures.origins) (c.in_ok-add_edge-2.ensures.landings ∙ c.in_ok-add_edge.ensures.landings)

pub returns-clause-has : goal.returns-clause-has
returns-clause-has c =
    has_more c.args.terms.now.nodes c.args.reached.now c.terms-once.ensures.once c.args.self.now c.add_edge-2.new.self c.args.a c.args.b c.args.by c.args.guard c.requires.sound.sound c.requires.whole c.requires.is
    c.in_ok-add_edge-2.ensures.graph (c.in_ok-add_edge-2.ensures.count ∙ c.in_ok-add_edge.ensures.count)
    (edges_two _ _ _ c.args.a c.args.b c.in_ok-add_edge.ensures.edges c.in_ok-add_edge-2.ensures.edges)
    (list_two _ _ _ c.args.by c.in_ok-add_edge.ensures.moves c.in_ok-add_edge-2.ensures.moves) (list_two _ _ _ c.args.guard c.in_ok-add_edge.ensures.guards c.in_ok-add_edge-2.ensures.guards)
    (c.in_ok-add_edge-2.ensures.origins ∙ c.in_ok-add_edge.ensures.origins) (c.in_ok-add_edge-2.ensures.landings ∙ c.in_ok-add_edge.ensures.landings)
