use Rattle.std.proofs.Common.{length, ap, ◌∙◌}
use Rattle.smt_terms.specs.Terms.{TermsValue}
use Rattle.proof_checker.proofs.Lining.{no_args}
use Rattle.proof_checker.proofs.lines.node_of.Goals as goal

pub returns-in-None : goal.returns-in-None
returns-in-None c = λ n e of new.
    let none = rw c.in-None.is at c.in_ok-args.ensures in
    no_args c.args.state.now c.args.head c.args.numbers.now c.len-held.result c.terms.ensures.state
    (c.len-held.ensures.length ∙ ap (λ (v : TermsValue). length v.nodes) c.terms.ensures.terms) none n e of new
