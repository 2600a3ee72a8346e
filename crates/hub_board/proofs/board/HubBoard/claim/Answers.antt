use Rattle.std.proofs.Common.{refl}
use Rattle.hub_core.specs.declared.events.Call.TheVariants.{Claim}
use Rattle.hub_board.proofs.Stepping.{told_more, claimed}
use Rattle.hub_board.proofs.board.HubBoard.claim.Goals as goal

pub returns-clause-told : goal.returns-clause-told
returns-clause-told g c = told_more c.args.self.now c.step.new.self Claim c.in-Ok.reply refl c.in-Ok.ensures.step

pub returns-clause-claimed : goal.returns-clause-claimed
returns-clause-claimed g c = claimed c.args.self.now c.step.new.self c.in-Ok.reply c.in-Cube.cube c.in-Ok.ensures.same.0 c.in-Ok.ensures.same.2.2 c.in-Cube.is c.in-Ok.ensures.step c.requires.idle
