use Rattle.std.specs.Prelude.{Contains}
use Rattle.access_walk.proofs.Closing.{closed}
use Rattle.access_walk.proofs.laws.tables_are_closed.Goals as goal

pub returns : goal.returns
returns c = λ nodes image terms val arrays moves origins landings g gates starts rows net congruent apart table.
    closed nodes image (Contains terms) val arrays moves origins landings g gates starts net rows table.derived table.started table congruent apart
