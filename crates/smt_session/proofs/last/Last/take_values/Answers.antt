use Rattle.std.proofs.Common.{sym, ◌∙◌, subst}
use Rattle.smt_session.specs.Tabled.{AreTabled}
use Rattle.smt_session.proofs.last.Last.take_values.Goals as goal
use Rattle.smt_session.proofs.last.Last.take_values.Goals.{in-Some, in-None}

pub returns-clause-table : goal.returns-clause-table
returns-clause-table c =
    rw (← c.self.view_is)
    (elim c.match-take.branch [
      | in-Some w ↦ rw w.result-is (subst (AreTabled c.self.inside.shown) (sym c.take.ensures.value ∙ w.in-Some.is) c.self.invariant)
      | in-None w ↦ rw w.result-is w.table_if.ensures
    ])
