use Rattle.std.proofs.Common.{refl, ap, ◌∙◌}
use Rattle.cdcl_loop.specs.declared.engine.Engine.{Engine}
use Rattle.cube_search.proofs.Leaving.{thinned_none, thinned_then}
use Rattle.cube_search.proofs.parking.forget.Goals as goal

pub taken-init : goal.taken-init
taken-init g c = record { same = refl; engine = c.requires.engine; thinned = thinned_none (g.B.Board.log c.args.board.now) c.args.engine.now.watches }

pub taken-preserved : goal.taken-preserved
taken-preserved g c = record {
  same = c.drop_parked.ensures.same ∙ ap (λ (e : Engine). record e { watches = c.drop_parked.new.engine.watches }) c.taken.invariant.same;
  engine = c.drop_parked.ensures.engine;
  thinned = thinned_then (g.B.Board.log c.args.board.now) c.args.engine.now.watches c.taken.engine.watches c.drop_parked.new.engine.watches c.taken.invariant.thinned c.drop_parked.ensures.thinned;
}
