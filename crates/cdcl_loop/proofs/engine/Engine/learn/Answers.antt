use Rattle.cdcl_loop.proofs.engine.Engine.learn.Goals as goal

pub returns-clause-among : goal.returns-clause-among
returns-clause-among c = c.in_ok-clause.ensures.among c.requires.engine.raised
