use Rattle.std.proofs.Common.{◌≡◌, ◌+◌, ◌++◌, ◌∷◌, [], length, length-append, refl, arith}
use Rattle.dimacs_front.proofs.Hints.{marks_longer}
use Rattle.dimacs_front.proofs.marks.Marks.reserve.Goals as goal

pub stamps-preserved : goal.stamps-preserved
stamps-preserved c = λ known a. rw c.in_ok-push.ensures (marks_longer c.stamps.self known (c.stamps.invariant known a))

pub stamps-smaller : goal.stamps-smaller
stamps-smaller c =
    let stamps = c.stamps.self.stamps in
    let e : length (stamps ++ 0 ∷ []) ≡ length stamps + 1 = rw length-append refl in
    rw c.in_ok-push.ensures (omega (arith, e))
