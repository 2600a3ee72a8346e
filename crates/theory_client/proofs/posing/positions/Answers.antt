use Rattle.std.proofs.Common.{arith, ◌∙◌, sym}
use Rattle.theory_client.proofs.Asked.{all_none, all_more, all_positions}
use Rattle.theory_client.proofs.posing.positions.Goals as goal

pub steps-init : goal.steps-init
steps-init c = all_none c.args.log.now.entries c.new-positions.result.items c.new-positions.ensures.items

pub steps-preserved : goal.steps-preserved
steps-preserved c = all_more c.args.log.now.entries c.steps.at c.steps.positions.items _ (sym c.is_chain.ensures ∙ c.if-is_chain.false) c.in_ok-push.ensures.items c.steps.invariant

pub returns : goal.returns
returns c = all_positions c.args.log.now.entries c.steps.positions.items c.steps.at (omega (arith, c.len-at-end.ensures, c.steps-test.false, c.steps.auto.at-end)) c.steps.invariant
