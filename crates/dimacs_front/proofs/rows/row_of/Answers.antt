use Rattle.std.proofs.Common.{length, arith}
use Rattle.dimacs_front.proofs.Tables.{row_found, row_within}
use Rattle.dimacs_front.proofs.rows.row_of.Goals as goal

pub split_at-requires : goal.split_at-requires
split_at-requires c = (row_within 0 (length c.args.table.now) c.args.ends.now c.args.place c.start_of-start.result c.requires.ends c.requires.within c.start_of-start.ensures).1

pub split_at-requires-2 : goal.split_at-requires-2
split_at-requires-2 c =
    let w = (row_within 0 (length c.args.table.now) c.args.ends.now c.args.place c.start_of-start.result c.requires.ends c.requires.within c.start_of-start.ensures).0 in
    omega (arith, w, c.split_at.ensures.front_len)

pub returns : goal.returns
returns c = rw (c.split_at-2.ensures.back, c.split_at.ensures.front) (row_found 0 c.args.ends.now c.args.table.now c.args.place c.start_of-start.result c.requires.within c.start_of-start.ensures)
