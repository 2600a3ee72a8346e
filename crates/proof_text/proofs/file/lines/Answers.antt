use Rattle.std.proofs.Common.{◌+◌}
use Rattle.proof_text.proofs.Running.{fault_among, fault_at_end, fault_stops, whole_once}
use Rattle.proof_text.proofs.file.lines.Goals as goal

first_fault : goal.returns-in-Err-clause-fault
first_fault c =
    let n = rw (c.in-Some.is, c.in-Err.is) at c.in_ok-answer.ensures.ok in
    fault_among c.args.pieces.now (c.pieces.piece-index + 1) n.0 _ _ c.whole.out.items c.in-Err.fault.line c.whole.invariant n.1 n.2

pub returns-in-Err-clause-fault : goal.returns-in-Err-clause-fault
returns-in-Err-clause-fault c = first_fault c

pub returns-in-Err-clause-none : goal.returns-in-Err-clause-none
returns-in-Err-clause-none c = fault_stops _ _ (first_fault c)

pub returns-in-Some-finish-clause-none : goal.returns-in-Some-finish-clause-none
returns-in-Some-finish-clause-none c =
    fault_stops _ _ (fault_at_end c.args.pieces.now c.pieces.piece-index _ c.pieces.out.items c.in-Some-finish.fault.line c.pieces-test.false c.pieces.invariant.given c.pieces.invariant.none_whole c.in-Some-finish.ensures)

pub returns-clause-only : goal.returns-clause-only
returns-clause-only c = whole_once c.args.pieces.now c.pieces.piece-index _ c.pieces.out.items c.pieces-test.false c.pieces.invariant.given c.in-None.ensures
