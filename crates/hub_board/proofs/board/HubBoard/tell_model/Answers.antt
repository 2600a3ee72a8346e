use Rattle.std.proofs.Common.{refl}
use Rattle.hub_core.specs.declared.events.Call.TheVariants.{Found}
use Rattle.hub_board.proofs.Stepping.{told_more, found_model}
use Rattle.hub_board.proofs.board.HubBoard.tell_model.Goals as goal

pub returns-clause-told : goal.returns-clause-told
returns-clause-told g c = told_more c.args.self.now c.step.new.self (Found c.args.cube) c.in-Ok.field-0 refl c.in-Ok.ensures.step

pub returns-clause-found : goal.returns-clause-found
returns-clause-found g c = found_model c.args.self.now c.step.new.self c.args.cube c.in-Ok.field-0 c.in-Ok.ensures.same.0 c.in-Ok.ensures.step
