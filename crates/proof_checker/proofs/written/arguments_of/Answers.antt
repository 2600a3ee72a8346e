use Rattle.std.proofs.Common.{arith}
use Rattle.proof_checker.proofs.WrittenTables.{no_argument, kinds_more, text_more}
use Rattle.proof_checker.proofs.written.arguments_of.Goals as goal

pub returns-in_default : goal.returns-in_default
returns-in_default c = λ vs kinds says. no_argument c.args.sorts.now vs c.args.written.now c.loop-at.at _ c.index-written-at.result kinds says c.loop-at-test.true c.index-written-at.is c.in_default.ensures

pub loop-at-preserved : goal.loop-at-preserved
loop-at-preserved c = record {
  kinds = kinds_more c.args.sorts.now c.loop-at.at _ c.loop-at.made.items c.push.new.self.items c.in-Some.found c.loop-at-test.true c.loop-at.invariant.kinds c.in-Some.ensures.0 c.in_ok-push.ensures.items;
  text = text_more c.args.written.now c.loop-at.at c.index-written-at.result c.loop-at.made.items c.push.new.self.items c.in-Some.found (omega arith) c.index-written-at.is c.loop-at.invariant.text c.in-Some.ensures.1 c.in_ok-push.ensures.items;
}
