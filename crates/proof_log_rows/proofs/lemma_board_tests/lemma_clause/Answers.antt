use Rattle.std.proofs.Common.{◌≡◌, List, Result, Ok, Err, sym, ap, ◌∙◌, subst}
use Rattle.cnf_base.specs.Literals.{Literal}
use Rattle.smt_terms.specs.Bits.{bits_in}
use Rattle.theory_lemmas.specs.declared.fault.LemmaFault.{LemmaFault}
use Rattle.theory_lemmas.specs.Clauses.{clause_of, IsClauseOf}
use Rattle.theory_lemmas.proofs.Keeping.{clause_stays}
use Rattle.proof_log.specs.Logs.{state_of}
use Rattle.proof_log.specs.Stored.{equal_in}
use Rattle.proof_log_rows.proofs.lemma_board_tests.lemma_clause.Goals as goal

clause_from : (o : Result (List Literal) LemmaFault) (d : List Literal) → IsClauseOf o (Ok d) → o ≡ Ok d
clause_from (Ok c) d h = ap Ok (sym h)
clause_from (Err e) d h = absurd h

pub returns-in-Ok : goal.returns-in-Ok
returns-in-Ok g c = λ shown.
    let nodes = g.B.Board.nodes c.args.board.now in
    let log = g.B.Board.log c.args.board.now in
    let told : clause_of c.args.terms.now.nodes (bits_in c.bits.result.now) (equal_in c.equals.result.now) c.args.lemma.now ≡ Ok c.in-Ok.clause =
    clause_from _ _ (subst (IsClauseOf (clause_of c.args.terms.now.nodes (bits_in c.bits.result.now) (equal_in c.equals.result.now) c.args.lemma.now)) c.in-Ok.is c.clause_of.ensures) in
    record {
      clause = c.in-Ok.clause;
      is =
          clause_stays (bits_in c.bits.result.now) (state_of nodes log).bits (equal_in c.equals.result.now) (state_of nodes log).equals
          (λ t b e. sym (c.bits.ensures.bits t) ∙ e)
          c.equals.ensures.literals
          nodes c.args.lemma.now c.in-Ok.clause
          (ap (λ ns. clause_of ns (bits_in c.bits.result.now) (equal_in c.equals.result.now) c.args.lemma.now) c.requires ∙ told);
    }
