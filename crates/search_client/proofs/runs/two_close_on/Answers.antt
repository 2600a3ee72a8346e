use Rattle.std.proofs.Common.{arith}
use Rattle.search_client.proofs.runs.two_close_on.Goals as goal

pub begun-requires-clause-within : goal.begun-requires-clause-within
begun-requires-clause-within g c = omega arith

pub second_closes-are_closed-requires-clause-first : goal.second_closes-are_closed-requires-clause-first
second_closes-are_closed-requires-clause-first g c = c.in_ok-first.ensures.search
