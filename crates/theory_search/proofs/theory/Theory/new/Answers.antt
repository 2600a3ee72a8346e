use Rattle.theory_search.proofs.Made.{walkable_here, theory_made}
use Rattle.theory_search.proofs.theory.Theory.new.Goals as goal

pub reached_from-requires : goal.reached_from-requires
reached_from-requires g c = walkable_here _ _ _ c.args.live.now c.bits-bits.result.now c.requires.nodes c.bits-bits.ensures.bits c.bits-bits.ensures.images c.requires.walkable

pub prepare-requires-clause-walkable : goal.prepare-requires-clause-walkable
prepare-requires-clause-walkable g c = walkable_here _ _ _ c.args.live.now c.bits-bits.result.now c.requires.nodes c.bits-bits.ensures.bits c.bits-bits.ensures.images c.requires.walkable

pub returns-clause-theory : goal.returns-clause-theory
returns-clause-theory g c =
    theory_made (g.B.Board.nodes c.args.board.now) c.args.terms.now c.requires.nodes (g.B.Board.log c.args.board.now) c.args.search.now.opening.items _ c.bits-bits.result.now c.args.live.now c.in_ok-kept.ensures.items
    c.len-count.ensures.terms.list c.bits-bits.ensures.stands c.bits-bits.ensures.bits c.bits-bits.ensures.images
    (walkable_here _ _ _ c.args.live.now c.bits-bits.result.now c.requires.nodes c.bits-bits.ensures.bits c.bits-bits.ensures.images c.requires.walkable)
    c.in_ok-reached.ensures c.in_ok-prepared.ensures c.in_ok-variables.ensures c.requires.enough
