use Rattle.std.proofs.Common.{sym, ap}
use Rattle.std.specs.Prelude.{is_some}
use Rattle.cdcl_loop.proofs.engine.Engine.drop_idle.Goals as goal

pub drop_clause-requires-clause-free : goal.drop_clause-requires-clause-free
drop_clause-requires-clause-free c = λ i l level e. c.if-is_reason.ensures (i, l, level, e)

pub returns-clause-engine : goal.returns-clause-engine
returns-clause-engine c = record {
  settled = c.drop_clause.ensures.settled;
  decided = c.requires.engine.decided;
  raised = c.requires.engine.raised;
}

pub returns-clause-dropped : goal.returns-clause-dropped
returns-clause-dropped c = (
  record {
    kept = ap is_some (sym c.in-Some.ensures);
    free = c.if-is_reason.ensures;
  },
  c.drop_clause.ensures.gone,
)
