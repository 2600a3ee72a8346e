use Rattle.std.proofs.Common.{subst}
use Rattle.std.proofs.lemmas.Bool.{MatchBool-at_true}
use Rattle.access_walk.specs.Walked.{IsWalkable}
use Rattle.theory_client.proofs.Asked.{posed}
use Rattle.theory_client.proofs.posing.pose.Goals as goal

pub returns : goal.returns
returns c =
    posed c.args.terms.now.nodes c.args.log.now c.args.roots.now _ _ c.requires (c.are_placed.ensures c.if-not-are_placed.false)
    (subst (λ b. IsWalkable c.args.terms.now.nodes b c.args.roots.now) c.bits.ensures (MatchBool-at_true _ _ c.if-not-fits.false c.in_ok-fits.ensures.walkable))
    c.in_ok-positions.ensures c.in_ok-given.ensures
