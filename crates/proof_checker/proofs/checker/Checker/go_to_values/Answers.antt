use Rattle.std.proofs.Common.{◌≤◌, length, ap, arith}
use Rattle.script_state.specs.States.{StateValue}
use Rattle.proof_checker.specs.Checkers.{CheckerValue}
use Rattle.proof_checker.proofs.Moving.{goes_whole}
use Rattle.proof_checker.proofs.checker.Checker.go_to_values.Goals as goal

pub returns-else-len-declared : goal.returns-else-len-declared
returns-else-len-declared c =
    let whole : length c.args.self.judging.state.symbols.live ≤ length c.args.values.items =
    omega (arith, ap length c.declared.ensures, ap (λ (x : StateValue). length x.symbols.live) c.deref.ensures, ap (λ (x : CheckerValue). length x.judging.state.symbols.live) c.self.view_is) in
    goes_whole c.args.self c.args.values.items c.as_slice.result.now c.judge_model.result c.as_slice.ensures.value whole c.judge_model.ensures
