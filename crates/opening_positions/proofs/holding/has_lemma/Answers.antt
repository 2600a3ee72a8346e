use Rattle.std.proofs.Common.{List, sym, subst}
use Rattle.std.specs.Prelude.{MatchBool}
use Rattle.cnf_base.specs.Literals.{Literal}
use Rattle.opening_positions.specs.Holding.{AreHeld, HasOther}
use Rattle.opening_positions.proofs.Holds.{clause_told}
use Rattle.opening_positions.proofs.holding.has_lemma.Goals as goal

pub returns-in-Some : goal.returns-in-Some
returns-in-Some c =
    clause_told c.args.log.now.clauses c.args.makers.now c.args.held.now c.args.at c.in-Some.clause.now c.has_makers.result (sym c.in-Some.ensures.clause)
    (subst (λ (ls : List Literal). MatchBool c.has_makers.result (AreHeld c.args.makers.now c.args.held.now ls) (HasOther c.args.makers.now c.args.held.now ls)) c.literals.ensures c.has_makers.ensures)
