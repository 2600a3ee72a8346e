use Rattle.std.proofs.Common.{List, ◌∷◌, ◌++◌, map, refl, ap, subst, ◌∙◌}
use Rattle.cnf_base.specs.Literals.{Literal}
use Rattle.cnf_base.proofs.Lists.{each_map}
use Rattle.proof_text.specs.Lines.{spaced, literal_text, IsLiteral}
use Rattle.proof_text.specs.Entries.{written_literal}
use Rattle.proof_text.proofs.Appending.{text_more}
use Rattle.proof_text.proofs.Readable.{each_more, each_all}
use Rattle.proof_text.proofs.entry.push_literals.Goals as goal

pub loop-literal-preserved : goal.loop-literal-preserved
loop-literal-preserved c = record {
  text =
      text_more (λ (xs : List Literal). spaced (map literal_text (map written_literal xs))) (λ (x : Literal). 32 ∷ literal_text (written_literal x)) refl (λ _ _. refl)
      c.args.literals.now c.loop-literal.literal-index c.literal-item.result _ _ _ c.loop-literal-test.true c.loop-literal.invariant.text
      (c.in_ok-push_literal.ensures.ok ∙ ap (λ (x : Literal). c.loop-literal.out ++ 32 ∷ literal_text (written_literal x)) c.literal-item.is);
  literals =
      each_more (λ (x : Literal). IsLiteral (written_literal x)) c.args.literals.now c.loop-literal.literal-index c.literal-item.result c.loop-literal-test.true c.loop-literal.invariant.literals
      (subst (λ (x : Literal). IsLiteral (written_literal x)) c.literal-item.is c.in_ok-push_literal.ensures.literal);
}

pub returns-clause-literals : goal.returns-clause-literals
returns-clause-literals c =
    each_map written_literal IsLiteral c.args.literals.now
    (each_all (λ (x : Literal). IsLiteral (written_literal x)) c.args.literals.now c.loop-literal.literal-index c.loop-literal-test.false c.loop-literal.invariant.literals)
