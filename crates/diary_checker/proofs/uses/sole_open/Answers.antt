use Rattle.diary_checker.proofs.Using.{none_open, two_open, one_open}
use Rattle.diary_checker.proofs.uses.sole_open.Goals as goal

pub returns-in_default : goal.returns-in_default
returns-in_default c = λ known set. none_open c.args.trues.now known c.args.clause.now set c.in_default.ensures

pub returns-then-not-is_only_open : goal.returns-then-not-is_only_open
returns-then-not-is_only_open c = λ known set.
    let first = c.in-Some.ensures in
    let other = c.if-not-is_only_open.ensures in
    two_open c.args.trues.now known c.args.clause.now other.0 c.in-Some.l set first.0 first.1 other.1 other.2 other.3

pub returns : goal.returns
returns c = λ known set.
    let first = c.in-Some.ensures in
    one_open c.args.trues.now known c.args.clause.now c.in-Some.l set first.0 first.1 c.if-not-is_only_open.ensures
