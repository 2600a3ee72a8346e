use Rattle.proof_log.specs.Places.{GivesBits}
use Rattle.opening_positions.proofs.Calls.{ok_gains}
use Rattle.opening_positions.proofs.holding.hold_term.Goals as goal

pub returns-in-Some-clause-gains : goal.returns-in-Some-clause-gains
returns-in-Some-clause-gains c = ok_gains c.add.result c.args.held.now c.add.new.self c.in-Some.at (GivesBits c.args.log.now.entries c.args.term) c.in-Some.ensures c.add.ensures.with
