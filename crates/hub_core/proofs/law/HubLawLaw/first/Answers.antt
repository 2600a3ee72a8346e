use Rattle.std.proofs.Common.{[], false, refl, subst}
use Rattle.hub_core.specs.Hubs.{HubValue}
use Rattle.hub_core.specs.Standing.{IsHub}
use Rattle.hub_core.proofs.Acts.{opened}
use Rattle.hub_core.proofs.law.HubLawLaw.first.Goals as goal

pub returns : goal.returns
returns c =
    subst
    (λ (l : HubValue). IsHub l (record { count = c.len.result; pairs = c.new.result; stages = c.new-2.result; found = false }) []) c.self.view_is
    (opened (record { nodes = c.self.inside.terms.now.nodes; log = c.self.inside.log; cubes = c.self.inside.cubes.items; assumed = c.self.inside.assumed.items })
    (record { count = c.len.result; pairs = c.new.result; stages = c.new-2.result; found = false }) c.self.invariant c.len.ensures c.new.ensures c.new-2.ensures refl)
