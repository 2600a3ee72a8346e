use Rattle.std.proofs.Common.{Some, sym, ap, ◌∙◌}
use Rattle.std.specs.Option.{option_copied}
use Rattle.word_models.proofs.Leaves.{leaf_there}
use Rattle.word_models.proofs.Others.{plain_leaf}
use Rattle.word_models.proofs.reaching.is_other_leaf.Goals as goal

pub node-requires : goal.node-requires
node-requires c =
    let there = sym c.entry.ensures ∙ ap option_copied c.in-Some-Leaf.is ∙ ap Some c.in-Some-Leaf.field-0-is in
    record { held = (leaf_there c.args.terms.now.nodes c.args.log.now c.args.at c.in-Some-Leaf.term c.requires.terms.list c.requires.stands there).0 }
