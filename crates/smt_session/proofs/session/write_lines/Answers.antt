use Rattle.std.proofs.Common.{take, drop, refl, sym, take-append-drop, arith, length-drop}
use Rattle.smt_session.proofs.session.write_lines.Goals as goal

pub returns-in-Err-clause-cut : goal.returns-in-Err-clause-cut
returns-in-Err-clause-cut g c =
    let text = c.args.text.now in
    let b = rw c.as_slice.ensures at c.in-Err.ensures.bytes in
    (refl, record { front = take b.0 text; left = drop b.0 text; parts = sym (take-append-drop b.0 text); unfinished = omega (arith, b.1, length-drop b.0 text); added = b.2 })
