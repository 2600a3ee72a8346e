-- What a search may put on a board next.
use Rattle.std.specs.Prelude.{List}
use Rattle.smt_terms.specs.declared.node.Node.{Node}
use Rattle.proof_log.specs.declared.entry.Entry.{Entry}
use Rattle.proof_log.specs.Logs.{IsStep, state_of}
use Rattle.proof_log.specs.Boards.{IsOfSearch}

-- the step is a search's, and may stand next on this log
abbrev pub MayBePut : List Node → List Entry → Entry → Type 0
MayBePut nodes log entry = IsOfSearch entry × IsStep nodes (state_of nodes log) entry
