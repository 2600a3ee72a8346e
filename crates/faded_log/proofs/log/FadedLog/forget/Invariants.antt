use Rattle.std.proofs.Common.{take, List}
use Rattle.smt_terms.specs.declared.node.Node.{Node}
use Rattle.faded_log.specs.Faded.{IsFaded, is_among}
use Rattle.faded_log.proofs.log.FadedLog.forget.Given as goal

abbrev pub invariant-loop-at : goal.invariant-loop-at
invariant-loop-at l = IsFaded (is_among (take l.at-index l.places)) l.fn.self l.self-inside.rows
