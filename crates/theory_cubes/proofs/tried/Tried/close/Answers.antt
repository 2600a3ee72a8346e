use Rattle.std.proofs.Common.{inl, sym}
use Rattle.theory_cubes.proofs.Cubes.{still_spent}
use Rattle.theory_cubes.proofs.tried.Tried.close.Goals as goal

pub returns-then-is_some : goal.returns-then-is_some
returns-then-is_some c = λ p log cube tried end. still_spent p log cube c.args.self.now.closed.items c.args.self.now.spent (sym c.if-is_some.ensures) tried (inl (c.args.at, end))
