use Rattle.std.proofs.Common.{take}
use Rattle.std.specs.Prelude.{All}
use Rattle.word_models.specs.Models.{IsOtherLeaf}
use Rattle.word_models.proofs.reaching.has_other_leaf.Given as goal

abbrev pub invariant-positions : goal.invariant-positions
invariant-positions l = All (λ p. IsOtherLeaf l.terms.nodes l.log.entries p → ⊥) (take l.at-index l.positions)
