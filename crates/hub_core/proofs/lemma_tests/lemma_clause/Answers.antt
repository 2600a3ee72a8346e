use Rattle.std.proofs.Common.{◌≡◌, List, Result, Ok, Err, sym, ap, ◌∙◌, subst}
use Rattle.cnf_base.specs.Literals.{Literal}
use Rattle.smt_terms.specs.Bits.{bits_in}
use Rattle.theory_lemmas.specs.declared.fault.LemmaFault.{LemmaFault}
use Rattle.theory_lemmas.specs.Clauses.{clause_of, IsClauseOf}
use Rattle.theory_lemmas.proofs.Keeping.{clause_stays}
use Rattle.proof_log.specs.Logs.{state_of}
use Rattle.proof_log.specs.Stored.{LogValue, equal_in}
use Rattle.proof_log.proofs.Standing.{stands_over}
use Rattle.hub_core.proofs.lemma_tests.lemma_clause.Goals as goal

clause_from : (o : Result (List Literal) LemmaFault) (d : List Literal) → IsClauseOf o (Ok d) → o ≡ Ok d
clause_from (Ok c) d h = ap Ok (sym h)
clause_from (Err e) d h = absurd h

pub returns-in-Ok : goal.returns-in-Ok
returns-in-Ok c = λ shown.
    let law = c.args.law.now in
    let log = c.args.law.now.log in
    let s = state_of law.nodes law.log.entries in
    let k = stands_over law.nodes law.log c.log-log.ensures.opening.stands in
    let lemma = c.args.lemma.now in
    let bits : c.bits.result.now ≡ log.bits = c.bits.ensures ∙ ap (λ (l : LogValue). l.bits) c.log-log.ensures.log in
    let equals : c.equals.result.now ≡ log.equals = c.equals.ensures ∙ ap (λ (l : LogValue). l.equals) c.log-log.ensures.log in
    let told : clause_of c.terms.result.now.nodes (bits_in c.bits.result.now) (equal_in c.equals.result.now) lemma ≡ Ok c.in-Ok.clause =
    clause_from _ _ (subst (IsClauseOf (clause_of c.terms.result.now.nodes (bits_in c.bits.result.now) (equal_in c.equals.result.now) lemma)) c.in-Ok.is c.clause_of.ensures) in
    record {
      clause = c.in-Ok.clause;
      is =
          clause_stays (bits_in log.bits) s.bits (equal_in log.equals) s.equals
          (λ t b e. sym (k.bits t) ∙ e)
          (λ t u l e. sym (k.equals t u) ∙ e)
          law.nodes lemma c.in-Ok.clause
          ((λ i. clause_of (sym c.terms.ensures i) (bits_in (sym bits i)) (equal_in (sym equals i)) lemma) ∙ told);
    }
