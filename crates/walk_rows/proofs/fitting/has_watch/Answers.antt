use Rattle.std.proofs.Common.{sym}
use Rattle.access_walk.proofs.Joined.{left_within}
use Rattle.walk_rows.proofs.fitting.has_watch.Goals as goal

pub sort-requires : goal.sort-requires
sort-requires c = record { held = left_within c.args.terms.now.nodes c.len-count.ensures.terms.list c.args.term c.in-Equating.left c.in-Equating.right (sym c.in-Equating.ensures) }
