use Rattle.scope_selectors.proofs.Asserting.{one_more}
use Rattle.scope_selectors.proofs.scopes.Scopes.assert.Goals as goal

pub invariant_of-self-2 : goal.invariant_of-self-2
invariant_of-self-2 c = rw (c.push.ensures.items, c.push-2.ensures.items, c.reserve.ensures.items, c.in_ok-push.was, c.in_ok-push-2.was) (one_more (record { levels = c.self.inside.levels; live = c.self.inside.live.items; made = c.self.inside.made; terms = c.self.inside.terms.items }) c.args.term c.args.name c.self.invariant)
