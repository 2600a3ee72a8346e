use Rattle.std.proofs.Common.{ap, sym, ◌∙◌, subst}
use Rattle.cdcl_core.specs.declared.watches.Watches.{Watches}
use Rattle.cdcl_core.specs.Search.{level_of}
use Rattle.cdcl_loop.specs.declared.engine.Engine.{Engine}
use Rattle.cube_search.specs.Holding.{IsThinned}
use Rattle.cube_search.proofs.Leaving.{thinned_none, thinned_then}
use Rattle.cube_search.proofs.parking.thin.Goals as goal

pub returns-then-not-drops_now-clause-thinned : goal.returns-then-not-drops_now-clause-thinned
returns-then-not-drops_now-clause-thinned g c = thinned_none (g.B.Board.log c.args.board.now) c.args.engine.now.watches

pub worst-init : goal.worst-init
worst-init g c = record {
  engine = c.in_ok-worst.ensures.engine;
  level = c.in_ok-worst.ensures.level;
  listed = c.in_ok-worst.ensures.task.listed;
  thinned = subst (λ (w : Watches). IsThinned (g.B.Board.log c.args.board.now) c.args.engine.now.watches w) (sym c.in_ok-worst.ensures.watches) (thinned_none (g.B.Board.log c.args.board.now) c.args.engine.now.watches);
}

pub worst-preserved : goal.worst-preserved
worst-preserved g c = record {
  engine = c.drop_chain.ensures.engine;
  level = ap (λ (e : Engine). level_of e.trail) c.drop_chain.ensures.same ∙ c.worst.invariant.level;
  listed = ap (λ (e : Engine). e.agenda.list) c.drop_chain.ensures.same ∙ c.worst.invariant.listed;
  thinned = thinned_then (g.B.Board.log c.args.board.now) c.args.engine.now.watches c.worst.engine.watches c.drop_chain.new.engine.watches c.worst.invariant.thinned c.drop_chain.ensures.thinned;
}
