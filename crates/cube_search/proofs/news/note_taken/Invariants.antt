use Rattle.std.proofs.Common.{take}
use Rattle.cdcl_core.specs.Search.{clause_of}
use Rattle.cube_search.specs.Holding.{AreLeft}
use Rattle.cube_search.specs.Keeping.{NotesTaken}
use Rattle.cube_search.proofs.news.note_taken.Given as goal

abbrev pub invariant-positions : goal.invariant-positions
invariant-positions l = record {
  noted : NotesTaken l.engine.watches l.positions (take l.at-index l.positions) l.fn.diary l.diary;
  left : AreLeft (clause_of l.engine.watches) (take l.at-index l.positions) l.left.items;
}
