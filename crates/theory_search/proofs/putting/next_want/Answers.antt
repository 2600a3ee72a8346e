use Rattle.std.proofs.Common.{Err, ap, ◌∙◌, subst}
use Rattle.smt_terms.specs.Bits.{bits_in}
use Rattle.theory_lemmas.specs.declared.fault.LemmaError.TheVariants.{Fault}
use Rattle.theory_lemmas.specs.Clauses.{clause_of, IsClauseOf}
use Rattle.proof_log.specs.Stored.{equal_in}
use Rattle.theory_search.proofs.Wanted.{shape_never, pair_wanted, lemma_stands}
use Rattle.theory_search.proofs.putting.next_want.Goals as goal

pub unreachable-requires : goal.unreachable-requires
unreachable-requires g c =
    shape_never (g.B.Board.nodes c.args.board.now) c.args.terms.now c.requires.nodes c.len-count.ensures.terms.list (g.B.Board.log c.args.board.now) c.bits-bits.ensures.stands c.bits-bits.result.now c.bits-bits.ensures.bits c.args.lemma.now (equal_in c.equals.result.now) c.requires.ready
    (subst (IsClauseOf (clause_of c.args.terms.now.nodes (bits_in c.bits-bits.result.now) (equal_in c.equals.result.now) c.args.lemma.now)) (c.in-Err-Fault-Shape.is ∙ ap Err (c.in-Err-Fault-Shape.field-0-is ∙ ap Fault c.in-Err-Fault-Shape.field-0-0-is)) c.clause_of.ensures)

pub returns-in-Ok : goal.returns-in-Ok
returns-in-Ok g c =
    lemma_stands (g.B.Board.nodes c.args.board.now) c.args.terms.now c.requires.nodes c.len-count.ensures.terms.list (g.B.Board.log c.args.board.now) c.bits-bits.ensures.stands c.bits-bits.result.now c.bits-bits.ensures.bits c.args.lemma.now (equal_in c.equals.result.now) c.in-Ok.clause c.equals.ensures.literals
    (subst (IsClauseOf (clause_of c.args.terms.now.nodes (bits_in c.bits-bits.result.now) (equal_in c.equals.result.now) c.args.lemma.now)) c.in-Ok.is c.clause_of.ensures)

pub returns-in-Err-Fault-NoEqual : goal.returns-in-Err-Fault-NoEqual
returns-in-Err-Fault-NoEqual g c =
    pair_wanted (g.B.Board.nodes c.args.board.now) c.args.terms.now c.requires.nodes c.len-count.ensures.terms.list (g.B.Board.log c.args.board.now) c.bits-bits.ensures.stands c.bits-bits.result.now c.bits-bits.ensures.bits c.args.lemma.now (equal_in c.equals.result.now) c.in-Err-Fault-NoEqual.lower c.in-Err-Fault-NoEqual.upper c.requires.ready
    (subst (IsClauseOf (clause_of c.args.terms.now.nodes (bits_in c.bits-bits.result.now) (equal_in c.equals.result.now) c.args.lemma.now)) (c.in-Err-Fault-NoEqual.is ∙ ap Err (c.in-Err-Fault-NoEqual.field-0-is ∙ ap Fault c.in-Err-Fault-NoEqual.field-0-0-is)) c.clause_of.ensures)
