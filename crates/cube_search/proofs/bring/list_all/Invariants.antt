use Rattle.std.proofs.Common.{◌≡◌, take}
use Rattle.cube_search.specs.Holding.{IsListing}
use Rattle.cube_search.proofs.bring.list_all.Given as goal

abbrev pub invariant-literals : goal.invariant-literals
invariant-literals l = record {
  same : l.engine ≡ record l.fn.engine { choices = l.engine.choices; agenda = l.engine.agenda };
  listed : IsListing l.fn.engine.agenda.list (take l.literal-index l.literals) l.engine.agenda.list;
}
