use Rattle.std.proofs.Common.{◌<◌, ◌+◌, length, arith}
use Rattle.dimacs_front.proofs.Splitting.{line_ends, rest_whole}
use Rattle.dimacs_front.proofs.lines.take_line.Goals as goal

pub returns-clause-lines : goal.returns-clause-lines
returns-clause-lines c = λ more.
    let piece = c.args.piece.now in
    let size = c.line_length-size.result in
    let h : size < length piece = omega arith in
    rw (rest_whole piece (size + 1), c.in_ok-push_slice.ensures.ok)
    (line_ends piece c.args.begun.now more size h (c.line_length-size.ensures.feed h) (c.line_length-size.ensures.same c.args.begun.now more))
