use Rattle.std.proofs.Common.{arith}
use Rattle.search_client.proofs.runs.ends_on.Goals as goal

pub begun-requires-clause-within : goal.begun-requires-clause-within
begun-requires-clause-within g c = omega arith

pub is_run-is_so-requires-clause-search : goal.is_run-is_so-requires-clause-search
is_run-is_so-requires-clause-search g c = c.in_ok-search.ensures.search
