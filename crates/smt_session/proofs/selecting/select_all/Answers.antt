use Rattle.std.proofs.Common.{sym, subst}
use Rattle.scope_selectors.specs.declared.live.Live.{Live}
use Rattle.smt_session.specs.Growing.{HasBits}
use Rattle.smt_session.proofs.Staying.{bits_stay, grows_more, chosen_more}
use Rattle.smt_session.proofs.selecting.select_all.Goals as goal

pub select-requires-clause-bits : goal.select-requires-clause-bits
select-requires-clause-bits c =
    bits_stay c.args.state.now c.args.log.now c.live.log c.assertion-item.result.term c.requires.stands c.live.invariant.grows
    (subst (λ (a : Live). HasBits c.args.log.now a.term) (sym c.assertion-item.is) (c.requires.bits c.live.assertion-index c.assertion-item.result c.live-test.true))

pub live-preserved : goal.live-preserved
live-preserved c = record {
  grows = grows_more c.args.state.now c.args.log.now c.live.log c.select.new.log c.live.invariant.grows c.in_ok-selector.ensures.grows;
  chosen =
      chosen_more c.args.state.now c.live.log c.select.new.log c.args.live.now c.live.given.items c.push.new.self.items c.live.assertion-index c.assertion-item.result c.in_ok-selector.selector
      c.live-test.true c.assertion-item.is c.live.invariant.grows.stands c.in_ok-selector.ensures.grows c.live.invariant.chosen c.in_ok-selector.ensures.selector c.in_ok-push.ensures.items;
}
