use Rattle.std.proofs.Common.{List, subst, sym}
use Rattle.std.specs.Prelude.{Contains}
use Rattle.cnf_base.specs.Literals.{Literal}
use Rattle.opening_positions.specs.Reading.{IsBehind}
use Rattle.opening_positions.proofs.Behind.{parts_none, parts_more, parts_all}
use Rattle.opening_positions.proofs.next.behind_clauses.Goals as goal

pub parts-init : goal.parts-init
parts-init c = parts_none c.args.log.now.clauses c.args.at c.args.next

pub parts-preserved : goal.parts-preserved
parts-preserved c =
    parts_more c.args.log.now.clauses c.args.at c.parts.part c.args.next c.parts.found c.behind-found.result c.in-Some.clause.now (sym c.in-Some.ensures.clause)
    (subst (λ (ls : List Literal). IsBehind (Contains ls) c.parts.found c.behind-found.result) c.literals.ensures c.behind-found.ensures) c.parts.invariant

pub returns-in_default : goal.returns-in_default
returns-in_default c = parts_all c.args.log.now.clauses c.args.at c.parts.part c.args.next c.parts.found (sym c.in_default.ensures.clause) c.parts.invariant
