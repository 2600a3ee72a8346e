use Rattle.std.proofs.Common.{◌≡◌, ◌∙◌, ap, map, subst}
use Rattle.std.proofs.lemmas.Bool.{MatchBool-at_true}
use Rattle.smt_terms.specs.declared.node.Op.TheVariants.{Plain}
use Rattle.smt_values.specs.Held.{value_of}
use Rattle.smt_eval.specs.Evaluated.{given, IsGiven}
use Rattle.smt_eval.proofs.Calling.{scalars_rank}
use Rattle.smt_eval.proofs.evaluate.theory.Goals as goal

pub fixed-requires-clause-rank : goal.fixed-requires-clause-rank
fixed-requires-clause-rank c =
    let same : map value_of c.gather.new.scalars.items ≡ given c.args.values.now c.args.args.now = MatchBool-at_true _ _ c.if-branch.true c.in_ok-gather.ensures in
    rw c.as_slice.ensures.value (scalars_rank (Plain c.args.operator) _ _ c.requires.taken same)

pub returns-then-branch : goal.returns-then-branch
returns-then-branch c M =
    let same : map value_of c.gather.new.scalars.items ≡ given c.args.values.now c.args.args.now = MatchBool-at_true _ _ c.if-branch.true c.in_ok-gather.ensures in
    subst (λ l. IsGiven M (Plain c.args.operator) l c.fixed.result) (ap (map value_of) c.as_slice.ensures.value ∙ same) (c.fixed.ensures M)
