use Rattle.std.proofs.Common.{ap}
use Rattle.std.specs.Option.{option_copied}
use Rattle.hub_board.proofs.table.Table.add_chain.Goals as goal

pub returns-in-Some-clause-there : goal.returns-in-Some-clause-there
returns-in-Some-clause-there c = (c.in-Some.field-0.now, c.get.ensures.only c.in-Some.field-0.now (ap option_copied c.in-Some.is))
