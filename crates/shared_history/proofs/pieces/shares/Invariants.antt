use Rattle.std.proofs.Common.{◌≡◌, take}
use Rattle.shared_history.specs.Filed.{joined, AreWhole}
use Rattle.shared_history.proofs.pieces.shares.Given as goal

abbrev pub invariant-loop-piece : goal.invariant-loop-piece
invariant-loop-piece g l = (joined l.shares.items ≡ joined (take l.piece-index l.rest)) × AreWhole l.shares.items
