use Rattle.std.proofs.Common.{[], refl}
use Rattle.proof_checker.proofs.Keeping.{keeps_none, keeps_more, adds_none, adds_more, stops_more}
use Rattle.proof_checker.proofs.checking.Checking.advance.Goals as goal

pub steps-init : goal.steps-init
steps-init c = (keeps_none _ _ c.args.self refl refl, adds_none c.args.self.checker c.args.self.checker refl)

pub steps-preserved : goal.steps-preserved
steps-preserved c =
    let w = c.steps.invariant in
    let n = rw c.in-On.is at c.in_ok-next.ensures in
    (keeps_more _ _ c.steps.checking w.0 c.in-On.next n.0, adds_more c.args.self.checker c.steps.checking.checker c.in-On.next.checker [] w.1 n.1)

pub returns-in-Stop : goal.returns-in-Stop
returns-in-Stop c = stops_more _ _ c.steps.checking c.steps.invariant.0 c.steps.invariant.1 c.in-Stop.progress (rw c.in-Stop.is at c.in_ok-next.ensures)
