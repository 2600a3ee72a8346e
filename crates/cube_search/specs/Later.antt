-- What stays of a search where equalities and lemmas are added to its log.
use Rattle.std.specs.Prelude.{List}
use Rattle.smt_terms.specs.declared.node.Node.{Node}
use Rattle.proof_log.specs.declared.entry.Entry.{Entry}
use Rattle.proof_log.specs.Logs.{IsLog}
use Rattle.proof_log.specs.LemmaBoards.{Adds}
use Rattle.cube_search.specs.declared.search.Search.{Search}
use Rattle.cube_search.specs.Running.{IsSearch, IsWriting}

-- a search between two runs is one of the longer log
abbrev pub MoreStepsKeepSearches : Type 0
MoreStepsKeepSearches =
    (s : Search) (nodes : List Node) (log log' : List Entry)
    → Adds log log' → IsLog nodes log' → IsSearch s nodes log → IsSearch s nodes log'

-- and its diary is kept over it
abbrev pub MoreStepsKeepDiaries : Type 0
MoreStepsKeepDiaries =
    (s : Search) (nodes : List Node) (log log' : List Entry)
    → Adds log log' → IsLog nodes log' → IsSearch s nodes log → IsWriting s nodes log → IsWriting s nodes log'
