use Rattle.dimacs_front.proofs.Hints.{marks_more}
use Rattle.dimacs_front.proofs.marks.Marks.mark.Goals as goal

pub returns : goal.returns
returns c = λ known a. rw c.stamp.ensures (marks_more c.reserve.new.self known c.args.l c.code-place.result c.code-place.ensures.code c.in_ok-reserve.ensures.room (c.in_ok-reserve.ensures.same known a))
