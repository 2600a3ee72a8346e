use Rattle.std.proofs.Common.{arith}
use Rattle.std.proofs.lemmas.Bool.{MatchBool-at_true, MatchBool-at_false}
use Rattle.check_cubes.proofs.Searched.{added_none, added_more, added_all, not_added}
use Rattle.proof_checker.proofs.searches.are_added.Goals as goal

pub steps-init : goal.steps-init
steps-init c = added_none c.args.log.now.entries c.args.start

pub steps-preserved : goal.steps-preserved
steps-preserved c = added_more c.args.log.now.entries c.args.start c.steps.at c.steps.invariant (MatchBool-at_true _ _ c.if-not-is_added_at.false c.is_added_at.ensures)

pub returns-then-not-is_added_at : goal.returns-then-not-is_added_at
returns-then-not-is_added_at c = not_added c.args.log.now.entries c.args.start c.steps.at c.steps.auto.at (MatchBool-at_false _ _ c.if-not-is_added_at.true c.is_added_at.ensures)

pub returns : goal.returns
returns c = added_all c.args.log.now.entries c.args.start c.steps.at (omega arith) c.steps.invariant
