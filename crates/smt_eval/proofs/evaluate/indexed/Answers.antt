use Rattle.std.proofs.Common.{◌≡◌, ◌∙◌, ap, map, subst, true}
use Rattle.std.specs.List.{list_any}
use Rattle.std.proofs.lemmas.Bool.{MatchBool-at_true, MatchBool-at_false}
use Rattle.smt_values.specs.Held.{value_of}
use Rattle.smt_eval.specs.Evaluated.{holds_array, given, IsGiven}
use Rattle.smt_eval.proofs.Calling.{scalars_rank, none_given}
use Rattle.smt_eval.proofs.evaluate.indexed.Goals as goal

pub fixed-requires-clause-rank : goal.fixed-requires-clause-rank
fixed-requires-clause-rank c =
    let same : map value_of c.gather.new.scalars.items ≡ given c.args.values.now c.args.args.now = MatchBool-at_true _ _ c.if-branch.true c.in_ok-gather.ensures in
    rw c.as_slice.ensures.value (scalars_rank c.args.op.now _ _ c.requires.taken same)

pub returns-then-branch : goal.returns-then-branch
returns-then-branch c M =
    let same : map value_of c.gather.new.scalars.items ≡ given c.args.values.now c.args.args.now = MatchBool-at_true _ _ c.if-branch.true c.in_ok-gather.ensures in
    subst (λ l. IsGiven M c.args.op.now l c.fixed.result) (ap (map value_of) c.as_slice.ensures.value ∙ same) (c.fixed.ensures M)

pub returns-else-branch : goal.returns-else-branch
returns-else-branch c M =
    let any : list_any holds_array (given c.args.values.now c.args.args.now) ≡ true = MatchBool-at_false _ _ c.if-branch.false c.in_ok-gather.ensures in
    absurd (none_given c.args.op.now _ c.requires.index c.requires.taken any)
