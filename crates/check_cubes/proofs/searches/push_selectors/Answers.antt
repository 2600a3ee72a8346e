use Rattle.check_cubes.specs.Searches.{kept_selector, IsSelected}
use Rattle.check_cubes.proofs.Searched.{unselected, selected_more, all_given}
use Rattle.check_cubes.proofs.searches.push_selectors.Goals as goal

pub returns-in-None : goal.returns-in-None
returns-in-None c = unselected c.args.log.now.selectors c.args.live.now c.loop-assertion.assertion-index c.assertion-item.result c.loop-assertion-test.true c.assertion-item.is c.in-None.ensures

pub loop-assertion-preserved : goal.loop-assertion-preserved
loop-assertion-preserved c =
    selected_more c.args.log.now.selectors c.args.live.now c.loop-assertion.assertion-index c.assertion-item.result c.in-Some.selector c.args.given.now.items c.loop-assertion.given.items c.push.new.self.items
    c.loop-assertion-test.true c.assertion-item.is c.in-Some.ensures c.loop-assertion.invariant c.in_ok-push-in-Some.ensures.items

pub returns : goal.returns
returns c = all_given (IsSelected c.args.log.now.selectors) (kept_selector c.args.log.now.selectors) c.args.live.now c.loop-assertion.assertion-index c.args.given.now.items c.loop-assertion.given.items c.loop-assertion-test.false c.loop-assertion.invariant
