use Rattle.std.proofs.lemmas.List.Elements.{All-more}
use Rattle.word_models.specs.Models.{IsOtherLeaf}
use Rattle.word_models.proofs.Others.{no_other_leaf}
use Rattle.word_models.proofs.reaching.has_other_leaf.Goals as goal

pub positions-preserved : goal.positions-preserved
positions-preserved c =
    All-more (λ p. IsOtherLeaf c.args.terms.now.nodes c.args.log.now.entries p → ⊥) c.args.positions.now c.positions.at-index 0 c.positions-test.true
    c.positions.invariant c.if-is_other_leaf.ensures

pub returns : goal.returns
returns c = no_other_leaf c.args.terms.now.nodes c.args.log.now.entries c.args.positions.now c.positions.at-index c.positions-test.false c.positions.invariant
