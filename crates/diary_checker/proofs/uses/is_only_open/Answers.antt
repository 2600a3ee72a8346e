use Rattle.std.proofs.Common.{◌≡◌, ◌<◌}
use Rattle.std.specs.Prelude.{◌⊎◌}
use Rattle.std.proofs.lemmas.List.{take_all}
use Rattle.cnf_base.specs.Literals.{negated}
use Rattle.diary_checker.specs.Tables.{number_of}
use Rattle.diary_checker.proofs.Sets.{each_more}
use Rattle.diary_checker.proofs.uses.is_only_open.Goals as goal

pub loop-l-preserved : goal.loop-l-preserved
loop-l-preserved c =
    each_more (λ k. (k ≡ c.args.sole) ⊎ (0 < number_of c.args.trues.now (negated k))) c.args.clause.now c.loop-l.l-index c.l-item.result c.loop-l-test.true c.l-item.is c.loop-l.invariant c.if-not-is_closed.ensures

pub returns : goal.returns
returns c = rw (take_all c.loop-l.l-index c.args.clause.now c.loop-l-test.false) at c.loop-l.invariant
