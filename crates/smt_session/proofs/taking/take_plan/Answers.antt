use Rattle.std.proofs.Common.{[], refl, sym, append-nil, arith}
use Rattle.std.specs.Prelude.{drop}
use Rattle.smt_session.specs.Planning.{grown_by}
use Rattle.smt_session.proofs.Leading.{session_led}
use Rattle.smt_session.proofs.PlanSteps.{made_parts, over_adds, over_all, over_next, over_none}
use Rattle.smt_session.proofs.Reasons.{seen_none}
use Rattle.smt_session.proofs.taking.take_plan.Goals as goal

pub steps-init : goal.steps-init
steps-init c = record {
  taken = over_none (grown_by c.args.state.now.terms c.args.made.now) c.args.log.now.bits c.args.state.now c.args.log.now c.requires.session.stands (seen_none (grown_by c.args.state.now.terms c.args.made.now).nodes c.args.state.now.terms.nodes c.args.log.now c.requires.session.stands);
  made = sym (append-nil c.args.state.now.terms.nodes);
  done = omega arith;
}

pub take_nodes-requires-clause-session : goal.take_nodes-requires-clause-session
take_nodes-requires-clause-session c = session_led c.args.state.now c.steps.state c.args.log.now c.steps.log c.requires.session c.steps.invariant.taken.taken.leads

pub take_step-requires-clause-session : goal.take_step-requires-clause-session
take_step-requires-clause-session c =
    session_led c.steps.state c.take_nodes.new.state c.steps.log c.take_nodes.new.log
    (session_led c.args.state.now c.steps.state c.args.log.now c.steps.log c.requires.session c.steps.invariant.taken.taken.leads) c.in_ok-take_nodes.ensures.adds.leads

pub steps-preserved : goal.steps-preserved
steps-preserved c =
    let v = grown_by c.args.state.now.terms c.args.made.now in
    let made = c.in_ok-take_nodes.ensures.made c.args.state.now.terms.nodes c.steps.invariant.made in
    record {
      taken =
          over_next v c.args.log.now.bits c.args.state.now c.steps.state c.take_nodes.new.state c.args.log.now c.steps.log c.take_nodes.new.log c.take_step.new.log c.args.steps.now c.steps.planned-index _ _
          (drop c.end_for-end.result c.args.made.now) c.steps.invariant.taken c.in_ok-take_nodes.ensures.adds (made_parts c.args.state.now.terms.nodes c.args.made.now c.take_nodes.new.state.terms.nodes c.end_for-end.result made)
          c.requires.plan c.requires.own c.steps-test.true refl c.in_ok-take_step.ensures;
      made = made;
      done = c.end_for-end.ensures.places.1;
    }

pub take_nodes-requires-2-clause-session : goal.take_nodes-requires-2-clause-session
take_nodes-requires-2-clause-session c = session_led c.args.state.now c.steps.state c.args.log.now c.steps.log c.requires.session c.steps.invariant.taken.taken.leads

pub returns-clause-taken : goal.returns-clause-taken
returns-clause-taken c =
    let v = grown_by c.args.state.now.terms c.args.made.now in
    over_adds v c.args.log.now.bits c.args.state.now c.steps.state c.take_nodes-2.new.state c.args.log.now c.steps.log c.take_nodes-2.new.log [] c.args.steps.now
    (over_all v c.args.log.now.bits c.args.state.now c.steps.state c.args.log.now c.steps.log c.args.steps.now c.steps.planned-index c.steps-test.false c.steps.invariant.taken) c.in_ok-take_nodes-2.ensures.adds
