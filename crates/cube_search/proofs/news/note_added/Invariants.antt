use Rattle.std.proofs.Common.{take}
use Rattle.cdcl_core.specs.declared.watches.Watches.{Watches}
use Rattle.cube_search.specs.Keeping.{NotesAdded}
use Rattle.cube_search.proofs.news.note_added.Given as goal

abbrev pub invariant-positions : goal.invariant-positions
invariant-positions l = record { noted : (w : Watches) → NotesAdded w (take l.at-index l.positions) l.fn.diary l.diary l.bound }
