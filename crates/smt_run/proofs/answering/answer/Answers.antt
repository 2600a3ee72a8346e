use Rattle.std.proofs.Common.{◌≡◌, [], refl}
use Rattle.std.specs.Prelude.{◌||◌}
use Rattle.smt_run.proofs.OneTurn.{turn_advances, turn_breaks, left_at_failure, left_at_want, silent_breaks, cut_breaks, cut_adds, answer_adds}
use Rattle.smt_run.proofs.answering.answer.Goals as goal
use Rattle.smt_run.proofs.answering.answer.Goals.{then-so_far, else-so_far}

pub returns-in-Err-Failed-clause-broken : goal.returns-in-Err-Failed-clause-broken
returns-in-Err-Failed-clause-broken g c = cut_breaks c.args.so_far.session c.args.chunk.now _ _ _ (left_at_failure _ _ _ _ c.in-Err-Failed.field-0-is c.in-Err-Failed.ensures.cut)

pub returns-in-Err-NoMemory-clause-broken : goal.returns-in-Err-NoMemory-clause-broken
returns-in-Err-NoMemory-clause-broken g c = silent_breaks _ _ _ _ _ (left_at_want _ _ _ _ c.in-Err-NoMemory.field-0-is c.in-Err-NoMemory.ensures.cut)

pub returns-in-Err-clause-broken : goal.returns-in-Err-clause-broken
returns-in-Err-clause-broken g c =
    let b = rw c.as_slice.ensures at c.in-Err.ensures.bytes in
    turn_breaks _ _ _ _ _ _ c.in-Ok.ensures.answered c.args.so_far b.0 _ _ refl b.1 b.2

pub returns-clause-turn : goal.returns-clause-turn
returns-clause-turn g c =
    let told : c.if-so_far.refused ≡ (c.args.so_far.refused || c.in-Ok.answered.1.error) = elim c.if-so_far.branch [
      | then-so_far w ↦ rw (w.refused-is, w.if-so_far.true) refl
      | else-so_far w ↦ rw (w.refused-is, w.if-so_far.false) refl
    ] in
    turn_advances _ _ _ _ _ _ c.in-Ok.ensures.answered c.args.so_far _ _ _ refl refl told refl (rw c.as_slice.ensures at c.in-Ok-write_whole.ensures.bytes)

pub returns-in-Err-Failed-clause-proof : goal.returns-in-Err-Failed-clause-proof
returns-in-Err-Failed-clause-proof g c = cut_adds c.args.so_far.session c.args.chunk.now _ _ (left_at_failure _ _ _ _ c.in-Err-Failed.field-0-is c.in-Err-Failed.ensures.cut)

pub returns-in-Err-NoMemory-clause-proof : goal.returns-in-Err-NoMemory-clause-proof
returns-in-Err-NoMemory-clause-proof g c = ([], left_at_want _ _ _ _ c.in-Err-NoMemory.field-0-is c.in-Err-NoMemory.ensures.cut)

pub returns-in-Err-clause-proof : goal.returns-in-Err-clause-proof
returns-in-Err-clause-proof g c = answer_adds _ _ _ _ _ _ c.in-Ok.ensures.answered

pub returns-clause-proof : goal.returns-clause-proof
returns-clause-proof g c = answer_adds _ _ _ _ _ _ c.in-Ok.ensures.answered
