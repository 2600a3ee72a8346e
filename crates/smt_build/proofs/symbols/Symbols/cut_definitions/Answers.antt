use Rattle.smt_build.proofs.Levels.{meanings_cut, definitions_cut}
use Rattle.smt_build.proofs.symbols.Symbols.cut_definitions.Goals as goal

pub returns : goal.returns
returns c = definitions_cut _ _ _ _ c.self.view_is (meanings_cut _ _ _ c.truncate.ensures.entries)
