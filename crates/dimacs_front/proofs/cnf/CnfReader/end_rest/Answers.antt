use Rattle.std.proofs.Common.{◌≡◌, [], sym, subst, ◌∙◌}
use Rattle.std.specs.Prelude.{MatchResult, Result}
use Rattle.dimacs_front.specs.Cnf.{CnfValue, StopsAt, on_lines}
use Rattle.dimacs_front.specs.declared.cnf.CnfFault.{CnfFault}
use Rattle.dimacs_front.proofs.Reading.{rest_none, rest_open, rest_some}
use Rattle.dimacs_front.proofs.cnf.CnfReader.end_rest.Goals as goal

pub returns-then-not-has_rest : goal.returns-then-not-has_rest
returns-then-not-has_rest c = sym (rest_none c.args.self.now (sym c.has_rest.ensures ∙ c.if-not-has_rest.true))

pub end_line-requires : goal.end_line-requires
end_line-requires c = rest_open c.args.self.now (sym c.has_rest.ensures ∙ c.if-not-has_rest.false)

pub returns : goal.returns
returns c =
    subst (λ (all : Result CnfValue CnfFault). MatchResult c.end_line.result (λ _. all ≡ on_lines c.end_line.new.self []) (StopsAt all))
    (sym (rest_some c.args.self.now (sym c.has_rest.ensures ∙ c.if-not-has_rest.false))) (c.end_line.ensures.lines [])
