use Rattle.std.proofs.Common.{take}
use Rattle.std.specs.Prelude.{All}
use Rattle.cube_search.specs.Running.{valuation_of}
use Rattle.word_models.specs.Models.{interpretation_of, IsReadLeaf}
use Rattle.word_models.proofs.model.word_model.Given as goal

abbrev pub invariant-positions : goal.invariant-positions
invariant-positions l = All (IsReadLeaf (interpretation_of l.found) l.terms.nodes l.log (valuation_of l.search)) (take l.at-index l.positions)
