use Rattle.std.proofs.Common.{sym, subst}
use Rattle.std.specs.Prelude.{Contains}
use Rattle.std.proofs.lemmas.List.Elements.{Contains-get_or}
use Rattle.cube_tree.proofs.Merges.{within_more, only_more}
use Rattle.cube_tree.proofs.resolvent.add_without.Goals as goal

pub loop-literal-preserved : goal.loop-literal-preserved
loop-literal-preserved c =
    let k = c.literal-item.result in
    let inside : Contains c.args.from.now k = subst (Contains c.args.from.now) (sym c.literal-item.is) (Contains-get_or c.args.from.now c.loop-literal.literal-index _ c.loop-literal-test.true) in
    record {
      kept = λ m h. c.in_ok-push_unless.ensures.kept m (c.loop-literal.invariant.kept m h);
      has = within_more c.args.from.now c.loop-literal.literal-index c.args.skip k _ c.loop-literal.into.items c.push_unless.new.into.items c.loop-literal-test.true c.literal-item.is c.in_ok-push_unless.ensures.kept c.in_ok-push_unless.ensures.has c.loop-literal.invariant.has;
      only = only_more c.args.from.now c.args.skip k c.args.into.now.items c.loop-literal.into.items c.push_unless.new.into.items inside c.in_ok-push_unless.ensures.only c.loop-literal.invariant.only;
    }
