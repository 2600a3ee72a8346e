use Rattle.cube_tree.proofs.Merges.{merged}
use Rattle.cube_tree.proofs.resolvent.resolvent.Goals as goal

pub returns : goal.returns
returns c =
    rw c.from_vec.ensures
    (merged c.args.first.now c.args.second.now c.args.literal c.negated.result c.new-literals.result.items c.add_without.new.into.items c.add_without-2.new.into.items c.new-literals.ensures.items c.negated.ensures
    c.in_ok-add_without.ensures.has c.in_ok-add_without.ensures.only c.in_ok-add_without-2.ensures.kept c.in_ok-add_without-2.ensures.has c.in_ok-add_without-2.ensures.only)
