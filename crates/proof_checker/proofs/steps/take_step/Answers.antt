use Rattle.std.proofs.Common.{◌∙◌}
use Rattle.proof_checker.proofs.Deleting.{no_cited}
use Rattle.proof_checker.proofs.Lining.{tried_in}
use Rattle.proof_checker.proofs.steps.take_step.Goals as goal

pub returns-then-cites_deleted-clause-ok : goal.returns-then-cites_deleted-clause-ok
returns-then-cites_deleted-clause-ok c = no_cited c.args.state.now c.args.log.now c.args.deleted.now c.args.line.now c.cites_deleted.result c.cites_deleted.ensures c.if-cites_deleted.true

pub returns-in-Some-clause-ok : goal.returns-in-Some-clause-ok
returns-in-Some-clause-ok c =
    let of = rw c.in-Some.is at c.in_ok-entry.ensures in
    tried_in c.args.state.now c.try_step.new.state c.args.line.now c.args.log.now c.try_step.new.log c.args.deleted.now c.in-Some.entry of.0 of.1 (c.cites_deleted.ensures c.in-Some.entry of.0 ∙ c.if-cites_deleted.false) c.try_step.result c.try_step.ensures.ok
