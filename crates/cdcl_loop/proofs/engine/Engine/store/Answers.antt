use Rattle.cdcl_loop.proofs.Trails.{trail_same}
use Rattle.cdcl_loop.proofs.engine.Engine.store.Goals as goal

pub returns-clause-engine : goal.returns-clause-engine
returns-clause-engine c = trail_same c.args.self.now.watches c.store.new.self c.args.self.now.trail c.store.new.trail c.requires.engine c.store.ensures.settled c.store.ensures.literals
