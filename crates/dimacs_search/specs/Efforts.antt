-- The effort of a search.
use Rattle.std.specs.Prelude.{◌≡◌}
use Rattle.cdcl_loop.specs.declared.effort.Effort.{Effort}
use Rattle.cdcl_loop.specs.declared.engine.Engine.{Engine}
use Rattle.cdcl_loop.specs.Efforts.{effort_of}
use Rattle.dimacs_front.specs.Cnf.{CnfValue}
use Rattle.dimacs_search.specs.Searching.{IsSearching}

-- an engine that holds these clauses, under no given literal, has counted this
abbrev pub IsCounted : CnfValue → Effort → Type 0
IsCounted cnf effort = (engine : Engine) × IsSearching cnf engine × (effort_of engine ≡ effort)
