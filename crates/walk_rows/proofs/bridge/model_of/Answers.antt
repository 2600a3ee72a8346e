use Rattle.std.specs.Prelude.{Contains}
use Rattle.bit_blast.specs.Assigned.{assigned}
use Rattle.access_walk.proofs.Conflicting.{bits_here}
use Rattle.walk_rows.proofs.Fitted.{satisfied_in}
use Rattle.walk_rows.proofs.bridge.model_of.Goals as goal

pub build-requires-clause-bits : goal.build-requires-clause-bits
build-requires-clause-bits c = bits_here c.args.terms.now.nodes c.args.bits.now c.args.live.now c.args.table.now.terms c.requires.walkable c.requires.walked.reach

pub build-requires-clause-satisfied : goal.build-requires-clause-satisfied
build-requires-clause-satisfied c =
    let have = bits_here c.args.terms.now.nodes c.args.bits.now c.args.live.now c.args.table.now.terms c.requires.walkable c.requires.walked.reach in
    satisfied_in c.args.terms.now.nodes c.len-count.ensures.terms.list c.args.bits.now c.requires.unlinked (assigned c.args.assignment.now) (Contains c.args.table.now.terms) (λ t h. have.held t h) c.requires.ready.satisfied
