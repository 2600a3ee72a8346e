use Rattle.std.proofs.Common.{◌≡◌, ◌<◌, ◌∙◌, sym, arith}
use Rattle.std.proofs.lemmas.List.{take_all}
use Rattle.cnf_base.specs.Literals.{negated}
use Rattle.diary_checker.specs.Tables.{number_of}
use Rattle.diary_checker.proofs.Sets.{each_more, here_in}
use Rattle.diary_checker.proofs.conditions.has_pair.Goals as goal

pub loop-l-preserved : goal.loop-l-preserved
loop-l-preserved c =
    let got = rw c.negated.ensures at c.get.ensures in
    each_more (λ k. number_of c.args.own.now (negated k) ≡ 0) c.args.clause.now c.loop-l.l-index c.l-item.result c.loop-l-test.true c.l-item.is c.loop-l.invariant (omega arith)

pub returns : goal.returns
returns c = λ p.
    let none = rw (take_all c.loop-l.l-index c.args.clause.now c.loop-l-test.false) at c.loop-l.invariant in
    let zero = none p.0 p.1 in
    let lt = (c.requires (negated p.0)).1 p.2 in
    absurd (omega arith)
