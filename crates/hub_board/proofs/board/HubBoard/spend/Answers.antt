use Rattle.std.proofs.Common.{refl}
use Rattle.hub_core.specs.declared.events.Call.TheVariants.{Spend}
use Rattle.hub_board.proofs.Stepping.{told_more, spent_idle}
use Rattle.hub_board.proofs.board.HubBoard.spend.Goals as goal

pub returns-clause-told : goal.returns-clause-told
returns-clause-told g c = told_more c.args.self.now c.step.new.self (Spend c.args.cube) c.in-Ok.field-0 refl c.in-Ok.ensures.step

pub returns-clause-idle : goal.returns-clause-idle
returns-clause-idle g c = spent_idle c.args.self.now c.step.new.self c.args.cube c.in-Ok.field-0 c.in-Ok.ensures.same.0 c.in-Ok.ensures.same.2.2 c.requires.busy c.in-Ok.ensures.step
