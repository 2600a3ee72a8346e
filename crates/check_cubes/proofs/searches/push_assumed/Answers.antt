use Rattle.check_cubes.specs.Searches.{kept_bits, IsOneBit}
use Rattle.check_cubes.proofs.Searched.{not_one_bit, one_bit_more, all_given}
use Rattle.check_cubes.proofs.searches.push_assumed.Goals as goal

pub returns-in-None : goal.returns-in-None
returns-in-None c = not_one_bit c.args.log.now.bits c.args.assumed.now c.loop-assumption.assumption-index c.assumption-item.result c.loop-assumption-test.true c.assumption-item.is c.in-None.ensures

pub loop-assumption-preserved : goal.loop-assumption-preserved
loop-assumption-preserved c =
    one_bit_more c.args.log.now.bits c.args.assumed.now c.loop-assumption.assumption-index c.assumption-item.result c.in-Some.bit c.args.given.now.items c.loop-assumption.given.items c.push.new.self.items
    c.loop-assumption-test.true c.assumption-item.is c.in-Some.ensures c.loop-assumption.invariant c.in_ok-push-in-Some.ensures.items

pub returns : goal.returns
returns c = all_given (IsOneBit c.args.log.now.bits) (kept_bits c.args.log.now.bits) c.args.assumed.now c.loop-assumption.assumption-index c.args.given.now.items c.loop-assumption.given.items c.loop-assumption-test.false c.loop-assumption.invariant
