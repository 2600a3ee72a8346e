use Rattle.std.proofs.Common.{◌≡◌, ◌+◌, ◌-◌, length, get_or, Some, ap, ◌∙◌, arith}
use Rattle.std.specs.Prelude.{◌==◌, if◌then◌else◌}
use Rattle.smt_values.specs.Held.{set_for}
use Rattle.proof_checker.proofs.Blanks.{means_none, means_more}
use Rattle.proof_checker.proofs.kept.KeptInterp.filled.Goals as goal

pub loop-done-init : goal.loop-done-init
loop-done-init c = means_none c.args.values.now _ c.self.inside.interp (omega arith) c.self.invariant

pub loop-done-preserved : goal.loop-done-preserved
loop-done-preserved c =
    let values = c.args.values.now in
    let p = c.index-values-place.result in
    let done = c.loop-done.done in
    let same : length values - 1 - done ≡ length values - (done + 1) = omega arith in
    means_more values (length values - (done + 1)) (length values - done) p c.loop-done.interp c.set.new.self (omega arith) (omega arith)
    (c.index-values-place.is ∙ ap (λ k. get_or values k p) same) c.loop-done.invariant
    (λ d. c.in_ok-set.ensures.ok d ∙ ap (λ v. if d == p.0 then Some v else set_for c.loop-done.interp d) c.in_ok-copy.ensures)
