use Rattle.std.proofs.Common.{refl, sym}
use Rattle.bit_blast.specs.Assigned.{assigned}
use Rattle.access_tables.specs.Held.{assigned_value}
use Rattle.access_walk.specs.Congruent.{code_of}
use Rattle.access_walk.proofs.Calling.{is_broken, is_whole}
use Rattle.access_walk.proofs.congruence.conflict_of.Goals as goal

pub returns-then-is_broken : goal.returns-then-is_broken
returns-then-is_broken c = (
  is_broken c.args.keys.now c.args.left c.args.right (code_of (assigned_value c.args.terms.now.nodes c.args.bits.now (assigned c.args.assignment.now) c.args.left.term)) (code_of (assigned_value c.args.terms.now.nodes c.args.bits.now (assigned c.args.assignment.now) c.args.right.term))
      (sym c.if-is_broken.ensures),
  refl,
)

pub returns-else-is_broken : goal.returns-else-is_broken
returns-else-is_broken c = is_whole c.args.keys.now c.args.left c.args.right (code_of (assigned_value c.args.terms.now.nodes c.args.bits.now (assigned c.args.assignment.now) c.args.left.term)) (code_of (assigned_value c.args.terms.now.nodes c.args.bits.now (assigned c.args.assignment.now) c.args.right.term))
    (sym c.if-is_broken.ensures)
