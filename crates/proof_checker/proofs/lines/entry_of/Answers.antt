use Rattle.std.proofs.Common.{length, ap, ◌∙◌, ⊎_elim}
use Rattle.smt_terms.specs.Terms.{TermsValue}
use Rattle.accepted_proof.proofs.Once.{is_lemma}
use Rattle.proof_checker.proofs.Lining.{chain_told}
use Rattle.proof_checker.proofs.Naming.{no_lemma_line}
use Rattle.proof_checker.proofs.lines.entry_of.Goals as goal

pub returns-in-Chain : goal.returns-in-Chain
returns-in-Chain c =
    chain_told c.args.state.now c.args.log.now c.args.line.now _ c.as_slice-in-Chain.result.now _ c.as_slice-in-Chain-2.result.now c.requires.held c.in-Chain.is
    c.as_slice-in-Chain.ensures c.as_slice-in-Chain-2.ensures c.chain_of.result c.chain_of.ensures

pub returns-in-None-2 : goal.returns-in-None-2
returns-in-None-2 c =
    no_lemma_line c.args.state.now c.args.log.now.entries c.args.line.now c.len-held.result
    (c.len-held.ensures.length ∙ ap (λ (v : TermsValue). length v.nodes) c.terms.ensures.terms)
    (⊎_elim (λ p. ap is_lemma p.2) (⊎_elim (λ p. ap is_lemma p.1) (λ p. ap is_lemma p.2)) c.in-Congruence.is) (rw c.in-None-2.is at c.in_ok-lemma-in-Congruence.ensures)
