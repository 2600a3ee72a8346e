use Rattle.std.proofs.Common.{◌≡◌, [], length, sym, subst, arith}
use Rattle.std.specs.Prelude.{MatchResult, Result}
use Rattle.dimacs_front.specs.Cnf.{StopsAt}
use Rattle.dimacs_front.specs.Lrat.{lrat_on_lines}
use Rattle.dimacs_front.specs.declared.lrat.LratFault.{LratFault}
use Rattle.dimacs_front.proofs.Hints.{lrat_rest_none, lrat_rest_some}
use Rattle.dimacs_front.proofs.lrat.LratChecker.end_rest.Goals as goal

pub returns-then-len-eq0 : goal.returns-then-len-eq0
returns-then-len-eq0 c =
    let e : length c.self.inside.begun ≡ 0 = omega (arith, c.len.ensures, c.if-len-eq0.true) in
    lrat_rest_none c.args.self.now (rw (← c.self.view_is) e)

pub returns : goal.returns
returns c =
    let e : length c.self.inside.begun ≡ 0 → ⊥ = λ q. omega (arith, c.len.ensures, c.if-len-eq0.false, q) in
    subst (λ (all : Result Unit LratFault). MatchResult c.end_line.result (λ _. all ≡ lrat_on_lines c.end_line.new.self []) (StopsAt all))
    (sym (lrat_rest_some c.args.self.now (rw (← c.self.view_is) e))) (c.end_line.ensures.lines [])
