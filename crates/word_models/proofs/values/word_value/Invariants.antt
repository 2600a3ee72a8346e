use Rattle.std.proofs.Common.{◌≡◌, drop}
use Rattle.cnf_base.specs.Clauses.{number}
use Rattle.cube_search.specs.Running.{valuation_of}
use Rattle.word_models.proofs.values.word_value.Given as goal

abbrev pub invariant-loop-i : goal.invariant-loop-i
invariant-loop-i l = l.value ≡ number (valuation_of l.search) (drop l.i l.row)
