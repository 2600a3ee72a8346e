use Rattle.std.proofs.Common.{◌<◌, arith}
use Rattle.cnf_base.specs.Literals.{negated}
use Rattle.diary_checker.specs.Tables.{number_of}
use Rattle.diary_checker.proofs.Sets.{each_more}
use Rattle.diary_checker.proofs.uses.first_open.Goals as goal

pub loop-l-preserved : goal.loop-l-preserved
loop-l-preserved c =
    let got = rw c.negated.ensures at c.get.ensures in
    each_more (λ k. 0 < number_of c.args.trues.now (negated k)) c.args.clause.now c.loop-l.l-index c.l-item.result c.loop-l-test.true c.l-item.is c.loop-l.invariant (omega arith)
