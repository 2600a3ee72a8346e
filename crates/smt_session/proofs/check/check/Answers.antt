use Rattle.std.proofs.lemmas.Result.{IfOk-weaker}
use Rattle.smt_session.specs.Sessions.{limits_of}
use Rattle.smt_session.proofs.Checked.{is_checked}
use Rattle.smt_session.proofs.check.check.Goals as goal

pub conclude-requires-clause-ready : goal.conclude-requires-clause-ready
conclude-requires-clause-ready g c κs within = (c.args.state.now.terms.nodes, rw c.as_slice.ensures.value c.in_ok-prepared.ensures.ready)

pub returns-clause-checked : goal.returns-clause-checked
returns-clause-checked g c =
    IfOk-weaker c.conclude.result _ _
    (λ r. is_checked (limits_of c.args.settings) c.args.state.now c.prepare.new.state c.args.workspace.now.log c.prepare.new.workspace.log c.conclude.new.workspace.log r c.requires.kept.session c.in_ok-prepared.ensures.prepares)
    c.conclude.ensures.checked
