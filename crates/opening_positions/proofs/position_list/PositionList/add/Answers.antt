use Rattle.opening_positions.proofs.Listed.{with_listed}
use Rattle.opening_positions.proofs.position_list.PositionList.add.Goals as goal

pub returns-clause-with : goal.returns-clause-with
returns-clause-with c = with_listed c.self.inside.steps c.add.new.self c.args.self.now c.args.at c.self.view_is c.in_ok-add.ensures.listed
