use Rattle.std.proofs.Common.{sym, ◌∙◌}
use Rattle.dimacs_front.proofs.Hints.{lrat_end_ok, lrat_end_fails}
use Rattle.dimacs_front.proofs.lrat.LratChecker.end.Goals as goal

pub returns-then-is_refuted : goal.returns-then-is_refuted
returns-then-is_refuted c =
    let i = c.self.inside in
    rw (← c.self.view_is) (lrat_end_ok (record { variables = i.variables; lines = i.lines; judging = i.judge; begun = i.begun }) (sym c.is_refuted.ensures ∙ c.if-is_refuted.true))

pub returns : goal.returns
returns c =
    let i = c.self.inside in
    rw (← c.self.view_is) (lrat_end_fails (record { variables = i.variables; lines = i.lines; judging = i.judge; begun = i.begun }) (sym c.is_refuted.ensures ∙ c.if-is_refuted.false))
