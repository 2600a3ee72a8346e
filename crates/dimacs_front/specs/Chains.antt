-- Good lines, in the words of chains of hints.
use Rattle.std.specs.Prelude.{◌≡◌, List, ◌++◌, map}
use Rattle.cnf_base.specs.Literals.{Literal}
use Rattle.cnf_base.specs.declared.clause.ClauseId.{ClauseId}
use Rattle.hint_chain.specs.Chains.{Lookup, IsChain}
use Rattle.dimacs_front.specs.declared.number.Number.{Number}
use Rattle.dimacs_front.specs.Lrat.{TableValue, held}

-- the name of a clause is its number
abbrev pub name_of : Number → ClauseId
name_of n = record { pos = n.size; part = 0 }

-- a name finds the clause of this number, where it is held
abbrev pub look_in : TableValue → Lookup
look_in t i = held t i.pos

-- The first of the hints are a chain for the clause: the last of these is false, and hints behind it
-- are passed over. A clause with a literal beside its opposite needs none.
pub record BeginsWithChain (t : TableValue) (clause : List Literal) (hints : List Number) : Type 0 where
  pub front : List Number
  pub rest : List Number
  pub hints_are : hints ≡ front ++ rest
  pub chain : IsChain (look_in t) clause (map name_of front)
