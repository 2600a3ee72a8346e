use Rattle.script_state.proofs.Leveling.{begun_state, undone}
use Rattle.script_state.proofs.state.State.begin_levels.Goals as goal

pub invariant_of-self-in-Ok-push : goal.invariant_of-self-in-Ok-push
invariant_of-self-in-Ok-push c = (rw c.in-Ok-push.ensures.ok (begun_state _ _ _ c.self.invariant.0 _ _ c.in-Ok.ensures.ok), c.self.invariant.1)

pub invariant_of-self-in-Err-push : goal.invariant_of-self-in-Err-push
invariant_of-self-in-Err-push c =
    let back = undone _ _ _ _ _ c.self.invariant.0.scopes c.in-Ok.ensures.ok c.pop-ended.ensures.ok c.pop-ended.ensures.err in
    rw (c.in-Err-push.ensures.err, back) c.self.invariant

pub returns-in-Err-push : goal.returns-in-Err-push
returns-in-Err-push c = λ n e.
    let back = undone _ _ _ _ _ c.self.invariant.0.scopes c.in-Ok.ensures.ok c.pop-ended.ensures.ok c.pop-ended.ensures.err in
    rw (c.in-Err-push.ensures.err, back) c.self.view_is
