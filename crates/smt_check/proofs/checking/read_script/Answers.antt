use Rattle.std.proofs.lemmas.Result.{err_from_is_err_and}
use Rattle.smt_desk.proofs.Metering.{room_counted, room_kept}
use Rattle.smt_check.proofs.Checks.{read_stopped, read_without_memory, script_ends, script_fed}
use Rattle.smt_check.proofs.checking.read_script.Goals as goal

pub returns-in_err-size-clause-ok : goal.returns-in_err-size-clause-ok
returns-in_err-size-clause-ok g c =
    let p = err_from_is_err_and c.from_residual.result c.from_residual.ensures.1 in
    rw p.1 tt

pub returns-in_err-size-clause-err : goal.returns-in_err-size-clause-err
returns-in_err-size-clause-err g c =
    let p = err_from_is_err_and c.from_residual.result c.from_residual.ensures.1 in
    rw (p.1, p.2) (read_stopped _ _ _ _ c.in_err-size.ensures.read)

pub returns-in_err-size-clause-cause : goal.returns-in_err-size-clause-cause
returns-in_err-size-clause-cause g c =
    let p = err_from_is_err_and c.from_residual.result c.from_residual.ensures.1 in
    rw (p.1, p.2) c.in_err-size.ensures.cause

pub returns-then-size-eq0-clause-ok : goal.returns-then-size-eq0-clause-ok
returns-then-size-eq0-clause-ok g c =
    let read = c.in_ok-size.ensures.read in
    script_ends _ _ _ _ _ _ _ (room_kept _ _ _ c.if-size-eq0.true c.in_ok-size.ensures.counted) c.if-size-eq0.true read.1 read.2 c.end_script.ensures.judged c.end_script.ensures.ended c.end_script.ensures.accepted c.end_script.ensures.fed

pub returns-in_err-feed_script-clause-ok : goal.returns-in_err-feed_script-clause-ok
returns-in_err-feed_script-clause-ok g c =
    let p = err_from_is_err_and c.from_residual-in_err-feed_script.result c.from_residual-in_err-feed_script.ensures.1 in
    rw p.1 tt

pub returns-in_err-feed_script-clause-err : goal.returns-in_err-feed_script-clause-err
returns-in_err-feed_script-clause-err g c =
    let p = err_from_is_err_and c.from_residual-in_err-feed_script.result c.from_residual-in_err-feed_script.ensures.1 in
    rw p.1 (read_without_memory _ _ _ _ p.0 p.2 c.in_ok-size.ensures.read.0 c.in_ok-size.ensures.read.1)

pub returns-in_err-feed_script-clause-cause : goal.returns-in_err-feed_script-clause-cause
returns-in_err-feed_script-clause-cause g c =
    let p = err_from_is_err_and c.from_residual-in_err-feed_script.result c.from_residual-in_err-feed_script.ensures.1 in
    rw (p.1, p.2) tt

pub returns-clause-ok : goal.returns-clause-ok
returns-clause-ok g c =
    let size = c.in_ok-size.ensures in
    script_fed _ _ _ _ _ _ _ _ c.if-size-eq0.false size.within size.read.0 (room_counted _ _ _ size.counted) c.requires.unended size.bytes c.in_ok-feed_script.ensures.judged c.feed_script.ensures.ended c.in_ok-feed_script.ensures.accepted c.feed_script.ensures.fed
