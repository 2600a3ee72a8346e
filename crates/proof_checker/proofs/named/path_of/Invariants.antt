use Rattle.std.proofs.Common.{◌≡◌, map, take}
use Rattle.proof_text.specs.Entries.{written_move}
use Rattle.proof_checker.proofs.named.path_of.Given as goal

abbrev pub invariant-loop-item : goal.invariant-loop-item
invariant-loop-item l = map written_move l.made.items ≡ take l.item-index l.written
