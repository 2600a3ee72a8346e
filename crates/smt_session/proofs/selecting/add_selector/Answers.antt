use Rattle.std.proofs.Common.{refl}
use Rattle.proof_log.specs.declared.entry.Entry.TheVariants as step
use Rattle.smt_session.proofs.Staying.{grows_one}
use Rattle.smt_session.proofs.Validity.{valid_over, pushed_over, select_valid, select_leaves}
use Rattle.smt_session.proofs.selecting.add_selector.Goals as goal

pub push-requires-clause-valid : goal.push-requires-clause-valid
push-requires-clause-valid c =
    valid_over c.args.state.now c.terms.result.now c.args.log.now (step.Selector c.args.assertion.now.assertion c.args.assertion.now.term) c.terms.ensures.terms
    (select_valid c.args.state.now.terms c.args.log.now c.args.assertion.now.assertion c.args.assertion.now.term c.terms.ensures.state.terms c.requires.stands c.requires.asserted.held c.requires.asserted.truth c.requires.new c.requires.bits)

pub returns-clause-grows : goal.returns-clause-grows
returns-clause-grows c =
    grows_one c.args.state.now c.args.log.now c.push.new.self (step.Selector c.args.assertion.now.assertion c.args.assertion.now.term) c.in_ok-push.field-0 (c.requires.asserted.known, refl) (λ q. let f : ⊥ = cc in f) (λ t q. let f : ⊥ = cc in f)
    (pushed_over c.args.state.now c.terms.result.now c.args.log.now c.push.new.self (step.Selector c.args.assertion.now.assertion c.args.assertion.now.term) c.in_ok-push.field-0 c.terms.ensures.terms c.in_ok-push.ensures.pushed)

pub returns-clause-selector : goal.returns-clause-selector
returns-clause-selector c =
    select_leaves c.args.state.now.terms c.args.log.now c.push.new.self c.args.assertion.now.assertion c.args.assertion.now.term c.in_ok-push.field-0
    (select_valid c.args.state.now.terms c.args.log.now c.args.assertion.now.assertion c.args.assertion.now.term c.terms.ensures.state.terms c.requires.stands c.requires.asserted.held c.requires.asserted.truth c.requires.new c.requires.bits)
    (pushed_over c.args.state.now c.terms.result.now c.args.log.now c.push.new.self (step.Selector c.args.assertion.now.assertion c.args.assertion.now.term) c.in_ok-push.field-0 c.terms.ensures.terms c.in_ok-push.ensures.pushed)
