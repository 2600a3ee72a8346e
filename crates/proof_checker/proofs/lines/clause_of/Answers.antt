use Rattle.std.proofs.Common.{sym, subst, ap, ◌∙◌}
use Rattle.proof_log.specs.Stored.{LogValue}
use Rattle.cnf_base.specs.Assignments.{AreBelow}
use Rattle.proof_checker.proofs.Lining.{none_below}
use Rattle.proof_checker.proofs.lines.clause_of.Goals as goal

pub returns-then-literal-next : goal.returns-then-literal-next
returns-then-literal-next c = λ clause e h.
    none_below c.next-next.result c.args.literals.now c.loop-literal.literal-index _ c.loop-literal-test.true c.if-literal-next.true clause e (subst (λ n. AreBelow n clause) (sym (c.next-next.ensures ∙ ap (λ (b : LogValue). b.next) c.base.ensures)) h)
