use Rattle.std.proofs.Common.{sym, ap}
use Rattle.proof_checker.specs.Checkers.{CheckerValue}
use Rattle.proof_checker.proofs.Moving.{stopped_values}
use Rattle.proof_checker.proofs.checker.Checker.stop.Goals as goal

pub returns-in-Values : goal.returns-in-Values
returns-in-Values c =
    let before = c.self.inside in
    stopped_values c.args.self c.refuse-in-Values.result before.due before.state.value.symbols.live before.values.items (ap (λ (x : CheckerValue). x.judging.owed) (sym c.self.view_is)) c.in-Values.is c.refuse-in-Values.ensures
