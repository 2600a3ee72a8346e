use Rattle.opening_positions.proofs.Listed.{has_behind}
use Rattle.opening_positions.proofs.position_list.PositionList.has.Goals as goal

pub returns-else-at-eq0 : goal.returns-else-at-eq0
returns-else-at-eq0 c = has_behind c.has.result c.self.inside.steps c.args.self.now c.args.at c.self.view_is c.if-at-eq0.false c.has.ensures
