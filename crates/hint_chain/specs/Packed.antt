-- Hints as they are kept.
use Rattle.std.specs.Prelude.{List, map}
use Rattle.cnf_base.specs.declared.clause.ClauseId.{ClauseId}
use Rattle.hint_chain.specs.declared.hints.ShortId.{ShortId}
use Rattle.hint_chain.specs.declared.hints.Held.{Held}
use Rattle.hint_chain.specs.declared.hints.Held.TheVariants.{Short, Whole}

-- the name that a short one stands for
abbrev pub whole_id : ShortId → ClauseId
whole_id short = record { pos = short.pos; part = short.part }

-- the names in order
abbrev pub ids_of : Held → List ClauseId
ids_of (Short ids) = map whole_id ids.items
ids_of (Whole ids) = ids.items
