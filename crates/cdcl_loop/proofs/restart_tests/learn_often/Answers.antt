use Rattle.std.proofs.Common.{◌<◌, sym, ap, ◌∙◌, subst}
use Rattle.cdcl_core.specs.Search.{level_of, IsConflict}
use Rattle.cdcl_loop.specs.declared.engine.Engine.{Engine}
use Rattle.cdcl_loop.specs.Engines.{IsEngine}
use Rattle.cdcl_loop.proofs.restart_tests.learn_often.Goals as goal

pub learn-requires-clause-engine : goal.learn-requires-clause-engine
learn-requires-clause-engine c = subst IsEngine (sym c.rounds.invariant) c.requires.engine

pub learn-requires-clause-conflict : goal.learn-requires-clause-conflict
learn-requires-clause-conflict c = subst (λ (e : Engine). IsConflict e.watches e.trail c.args.conflict) (sym c.rounds.invariant) c.requires.conflict

pub rounds-preserved : goal.rounds-preserved
rounds-preserved c = c.in_ok-learn.ensures.same ∙ ap (λ (e : Engine). record e { choices = c.learn.new.self.choices }) c.rounds.invariant
