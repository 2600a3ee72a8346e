use Rattle.std.proofs.Common.{refl, None, Some}
use Rattle.proof_checker.proofs.Keeping.{headless, begun, unbegun}
use Rattle.proof_checker.proofs.checking.begin.Goals as goal

pub returns-in-End : goal.returns-in-End
returns-in-End c = headless _ (rw c.in-End.is at c.in_ok-first.ensures.line).0 _ c.without_header.ensures

pub returns-in-Ok : goal.returns-in-Ok
returns-in-Ok c =
    let l = rw c.in-Line.is at c.in_ok-first.ensures.line in
    let h = rw c.in-Ok.is at c.in_ok-checker.ensures in
    begun _ _ _ c.in_ok-first.ensures.same l.1 _ h.0 h.1 h.2 h.3 _ refl refl

pub returns-in-Err : goal.returns-in-Err
returns-in-Err c =
    let l = rw c.in-Line.is at c.in_ok-first.ensures.line in
    let h = rw c.in-Err.is at c.in_ok-checker.ensures in
    unbegun _ _ _ c.in_ok-first.ensures.same l.1 _ h.0 h.1 (record { checker = None; refusal = Some c.in-Err.refusal }) refl refl
