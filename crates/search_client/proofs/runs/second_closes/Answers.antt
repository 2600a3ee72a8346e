use Rattle.std.proofs.Common.{arith}
use Rattle.search_client.proofs.runs.second_closes.Goals as goal

pub begun-requires-clause-within : goal.begun-requires-clause-within
begun-requires-clause-within g c = omega arith

pub are_both_closed-are_closed-requires-clause-second : goal.are_both_closed-are_closed-requires-clause-second
are_both_closed-are_closed-requires-clause-second g c = c.in_ok-second.ensures.search
