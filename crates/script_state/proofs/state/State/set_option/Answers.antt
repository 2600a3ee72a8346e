use Rattle.std.proofs.Common.{ap, sym, ◌∙◌, subst}
use Rattle.script_state.specs.States.{StateValue}
use Rattle.script_state.specs.Steps.{Step, setting, Answers}
use Rattle.script_state.proofs.Asserting.{opted_state}
use Rattle.script_state.proofs.state.State.set_option.Goals as goal

pub invariant_of-self : goal.invariant_of-self
invariant_of-self c = (opted_state _ _ _ _ c.self.invariant.0 c.self.invariant.0.assumed, c.self.invariant.1)

pub returns-in-None : goal.returns-in-None
returns-in-None c = λ e es a b.
    let told = c.with_option.ensures e es a b c.args.self.now (ap (λ (s : StateValue). s.options) (sym c.self.view_is)) in
    subst (λ (to : Step). Answers to c.say_unsupported.result c.args.self.now c.args.self.now) (sym (told ∙ ap (setting c.args.self.now) c.in-None.is)) (c.say_unsupported.ensures c.args.self.now)
