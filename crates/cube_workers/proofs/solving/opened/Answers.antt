use Rattle.std.proofs.Common.{sym, subst}
use Rattle.hub_core.specs.Hubs.{IsOpening}
use Rattle.cube_workers.proofs.Settling.{opening_of}
use Rattle.cube_workers.proofs.solving.opened.Goals as goal

pub new-requires : goal.new-requires
new-requires c =
    subst (λ given. IsOpening (record { nodes = c.args.terms.now.nodes; log = c.args.log; cubes = c.in-Ok.cubes.items; assumed = given })) (sym c.in-Ok-from_slice.ensures.items)
    (opening_of c.args.terms.now.nodes c.args.log c.args.check.now c.in-Ok.cubes.items c.requires.listed c.requires.stands c.requires.problem c.in-Ok.ensures.count c.cubes_of.ensures.few c.in-Ok.ensures.each)
