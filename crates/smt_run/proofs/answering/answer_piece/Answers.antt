use Rattle.smt_run.proofs.Turning.{held_none, fed_advances, fed_breaks}
use Rattle.smt_run.proofs.answering.answer_piece.Goals as goal

pub returns-in_default-clause-broken : goal.returns-in_default-clause-broken
returns-in_default-clause-broken g c = held_none _ _ _

pub returns-clause-turns : goal.returns-clause-turns
returns-clause-turns g c = fed_advances c.feed.new.self c.args.framer.now _ c.args.piece.now _ _ _ _ _ c.in-Ok.ensures.line c.in-Ok.ensures.ok c.answer_held.ensures.turns

pub returns-clause-broken : goal.returns-clause-broken
returns-clause-broken g c = fed_breaks c.feed.new.self c.args.framer.now c.args.piece.now _ _ _ _ c.in-Ok.ensures.line c.in-Ok.ensures.ok c.answer_held.ensures.broken
