use Rattle.std.proofs.Common.{sym, subst}
use Rattle.smt_values.specs.Differences.{holds, either_holds, IsFirstAmong}
use Rattle.smt_values.proofs.Differing.{joined, turned}
use Rattle.smt_values.proofs.array.held_difference.Goals as goal

pub returns : goal.returns
returns c =
    let a = c.args.a.now in
    let b = c.args.b.now in
    subst (IsFirstAmong (either_holds a b) a b) (sym c.least.ensures) (joined (holds a.entries) (holds b.entries) a b _ _ c.entry_difference-own.ensures (turned (holds b.entries) a b c.requires _ c.entry_difference-others.ensures))
