use Rattle.std.proofs.Common.{◌≡◌, ◌∷◌, ◌++◌, [], ◌∙◌, ap, Some, length, slice_get, slice_set, refl, arith}
use Rattle.std.proofs.lemmas.Option.{slice_get_read}
use Rattle.access_spread.proofs.Edges.{graph_push}
use Rattle.access_spread.proofs.graph.Graph.add.Goals as goal

pub returns-clause-graph : goal.returns-clause-graph
returns-clause-graph c =
    let n : c.len-place.result ≡ length c.args.self.now.edges.items = omega arith in
    let f = c.index_mut.result.now in
    let fan : slice_get c.args.self.now.fans.items c.args.edge.from ≡ Some f = slice_get_read c.args.self.now.fans.items (length c.args.self.now.fans.items) c.args.edge.from f refl (omega (arith, c.requires.from)) c.index_mut.ensures.value in
    graph_push c.args.self.now (record { edges = c.push.new.self; fans = Rattle.std.specs.Vec.with_item c.args.self.now.fans c.args.edge.from c.push-2.new.self }) c.args.edge f c.requires.graph c.requires.from c.requires.to
    c.in_ok-push.ensures.items fan (ap (slice_set c.args.self.now.fans.items c.args.edge.from) (c.in_ok-push-2.ensures.ok ∙ ap (λ k. f ++ k ∷ []) n))
