use Rattle.std.proofs.Common.{arith, ◌≡◌, ◌-◌, ◌∙◌}
use Rattle.scope_selectors.specs.Scopes.{made_within}
use Rattle.scope_selectors.proofs.Keeping.{fewer_levels}
use Rattle.scope_selectors.proofs.scopes.Scopes.pop.Goals as goal

pub invariant_of-self : goal.invariant_of-self
invariant_of-self c =
    let left : c.truncate.new.self.items ≡ made_within (c.self.inside.levels - c.args.n) c.self.inside.live.items = c.truncate.ensures.items ∙ (rw c.deref.ensures.value at c.kept.ensures) in
    fewer_levels c.self.inside.levels _ _ _ _ _ c.self.invariant (omega arith) left
