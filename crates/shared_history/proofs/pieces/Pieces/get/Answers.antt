use Rattle.std.proofs.Common.{rules}
use Rattle.shared_history.proofs.Filing.{slice_get-drop}
use Rattle.shared_history.proofs.pieces.Pieces.get.Goals as goal

pub returns-then-at-count : goal.returns-then-at-count
returns-then-at-count g c = search (rules, slice_get-drop c.self.inside.skip c.self.inside.entries.items c.args.at)
