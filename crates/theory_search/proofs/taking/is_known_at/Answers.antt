use Rattle.std.proofs.Common.{List, subst, arith}
use Rattle.cnf_base.specs.Literals.{Literal}
use Rattle.theory_search.specs.Theories.{AreKnown}
use Rattle.proof_log.specs.Logs.{state_of}
use Rattle.theory_search.proofs.Listed.{known_parts, known_all}
use Rattle.theory_search.proofs.taking.is_known_at.Goals as goal

pub parts-init : goal.parts-init
parts-init g c = λ id d p lt e. absurd (omega (arith, lt))

pub returns-in_default : goal.returns-in_default
returns-in_default g c = known_all (state_of (g.B.Board.nodes c.args.board.now) (g.B.Board.log c.args.board.now)).clauses c.args.variables.now c.args.next c.args.pos c.parts.part (c.in_default.ensures c.requires) c.parts.invariant

pub parts-preserved : goal.parts-preserved
parts-preserved g c =
    known_parts (state_of (g.B.Board.nodes c.args.board.now) (g.B.Board.log c.args.board.now)).clauses c.args.variables.now c.args.next c.args.pos c.parts.part c.in-Some.clause.now c.in-Some.ensures
    (subst (λ (ls : List Literal). AreKnown c.args.variables.now c.args.next ls) c.literals.ensures c.if-not-are_known.ensures) c.parts.invariant
